-- Logs that have the same calls of all passes have the same history; and only passes that were drawn have calls.
use Rattle.std.proofs.Common.{◌≡◌, ◌≢◌, ℕ, zero, suc, ◌+◌, ◌<◌, ◌≤◌, ◌==◌, Bool, true, false, cond, List, [], ◌∷◌, ◌++◌, Option, length, map, slice_index_or, refl, ap, sym, ◌∙◌, subst, arith, append_assoc, length-append, inl, inr, ◌⊎◌}
use Rattle.std.proofs.lemmas.Bool.Decides.{nat_tests}
use Rattle.std.proofs.lemmas.List.{append-nil}
use Rattle.std.specs.List.{AllByRecursion, filter}
use mathlib.Core.List.{IsPrefix}
use Rattle.table_core.specs.declared.event.Event.{Event}
use Rattle.table_core.specs.declared.event.Event.TheVariants.{Enter, Named, Done, Moved}
use Rattle.table_core.specs.declared.limits.Limits.{Limits}
use Rattle.table_core.specs.declared.operation.Operation.{Operation}
use Rattle.table_core.specs.Logs.{history, passes_of}
use Rattle.table_core.specs.Lawful.{MayFollow, PassRule, IsLawful}
use Rattle.table_core.proofs.Logs.{history-append, passes-append, lawful_keeps}
use Rattle.version_words.specs.Views.{PassView, AreApart, AreNone, calls_of}
use Rattle.version_words.proofs.Calling.{calls-append}
use Rattle.version_words.proofs.Gathering.{Bounded, no_more}

-- of two lists that make one list, the second is none where the first is all, and both are where that is none
no_rest : {A : Type 0} (xs ys : List A) → xs ++ ys ≡ xs → ys ≡ []
no_rest xs [] is = refl
no_rest xs (y ∷ ys) is = absurd (omega (arith, ap length is, length-append xs (y ∷ ys)))

none_first : {A : Type 0} (xs ys : List A) → xs ++ ys ≡ [] → xs ≡ []
none_first [] ys is = refl
none_first (x ∷ xs) ys is = absurd (omega (arith, ap length is, length-append (x ∷ xs) ys))

none_last : {A : Type 0} (xs ys : List A) → xs ++ ys ≡ [] → ys ≡ []
none_last xs [] is = refl
none_last xs (y ∷ ys) is = absurd (omega (arith, ap length is, length-append xs (y ∷ ys)))

module _ {K V : Type 0} where
  history_grows : (xs ys : List (Event K V)) (pre : IsPrefix xs ys) → history ys ≡ history xs ++ history pre.0
  history_grows xs ys pre = ap history (sym pre.1) ∙ history-append xs pre.0

  -- a log between two of one history has it too
  history_between : (xs ys zs : List (Event K V)) → IsPrefix xs ys → IsPrefix ys zs → history zs ≡ history xs → history ys ≡ history xs
  history_between xs ys zs p q same =
      let a = history_grows xs ys p in
      let b = history_grows ys zs q in
      let all : history xs ++ (history p.0 ++ history q.0) ≡ history xs = sym (append_assoc (history xs) (history p.0) (history q.0)) ∙ (ap (λ (h : List (ℕ × Operation K V)). h ++ history q.0) (sym a) ∙ (sym b ∙ same)) in
      let none : history p.0 ≡ [] = none_first (history p.0) (history q.0) (no_rest (history xs) (history p.0 ++ history q.0) all) in
      a ∙ (ap (λ (h : List (ℕ × Operation K V)). history xs ++ h) none ∙ append-nil (history xs))

  own_first : (p : ℕ) (o : Operation K V) (hs : List (ℕ × Operation K V)) → map (λ call. call.1) (filter (λ call. call.0 == p) ((p, o) ∷ hs)) ≢ []
  own_first p o hs is =
      let e : (p == p) ≡ true = grind (arith, nat_tests) in
      let h : o ∷ map (λ call. call.1) (filter (λ call. call.0 == p) hs) ≡ [] = rw e at is in
      cc

  -- a log with no call of any pass has no history
  no_history : (log : List (Event K V)) → ((p : ℕ) → calls_of p log ≡ []) → history log ≡ []
  no_history log none = by (history log) refl
    where
      by : (h : List (ℕ × Operation K V)) → history log ≡ h → h ≡ []
      by [] is = refl
      by (c ∷ hs) is = absurd (own_first c.0 c.1 hs (ap (λ (h : List (ℕ × Operation K V)). map (λ call. call.1) (filter (λ call. call.0 == c.0) h)) (sym is) ∙ none c.0))

  -- a number is that of one of the passes, or of none
  one_or_none : (P : ℕ → Type 0) (p : PassView K V) (ps : List (PassView K V)) → ((k : ℕ) (d : PassView K V) → k < length ps → P (slice_index_or ps k d).number) → P p.number ⊎ AreNone p ps
  one_or_none P p [] all = inr tt
  one_or_none P p (x ∷ ps) all = by (p.number == x.number) refl (one_or_none P p ps (λ k d lt. all (suc k) d (omega (arith, lt))))
    where
      by : (b : Bool) → (p.number == x.number) ≡ b → P p.number ⊎ AreNone p ps → P p.number ⊎ ((p.number ≢ x.number) × AreNone p ps)
      by true is rest = let same : p.number ≡ x.number = grind (arith, nat_tests) in inl (subst P (sym same) (all 0 x (omega arith)))
      by false is (inl found) = inl found
      by false is (inr none) = let other : p.number ≢ x.number = grind (arith, nat_tests) in inr (other, none)

  -- a log that has the same calls as its beginning has the same history, and so has each between them
  pub same_calls : (front log : List (Event K V)) (ps : List (PassView K V)) → IsPrefix front log
      → ((k : ℕ) (d : PassView K V) → k < length ps → calls_of (slice_index_or ps k d).number log ≡ calls_of (slice_index_or ps k d).number front)
      → ((p : PassView K V) → AreNone p ps → calls_of p.number log ≡ [])
      → (mid : List (Event K V)) → IsPrefix front mid → IsPrefix mid log → history mid ≡ history front
  same_calls front log ps pre same others mid from to =
      history_between front mid log from to (history_grows front log pre ∙ (ap (λ (h : List (ℕ × Operation K V)). history front ++ h) (no_history pre.0 none) ∙ append-nil (history front)))
    where
      none : (p : ℕ) → calls_of p pre.0 ≡ []
      none p = pick (one_or_none (λ q. calls_of q log ≡ calls_of q front) pass ps same)
        where
          pass : PassView K V
          pass = record { front = []; number = p }

          split : calls_of p log ≡ calls_of p front ++ calls_of p pre.0
          split = ap (λ (x : List (Event K V)). calls_of p x) (sym pre.1) ∙ calls-append p front pre.0

          pick : (calls_of p log ≡ calls_of p front) ⊎ AreNone pass ps → calls_of p pre.0 ≡ []
          pick (inl found) = no_rest (calls_of p front) (calls_of p pre.0) (sym split ∙ found)
          pick (inr out) = none_last (calls_of p front) (calls_of p pre.0) (sym split ∙ others pass out)

module _ {K V : Type 0} (ek : K → List ℕ) (ev : V → List ℕ) (l : Limits) where
  -- a pass that was not drawn has no call
  abbrev OnlyDrawn : List (Event K V) → Type 0
  OnlyDrawn log = (p : ℕ) → ((0 < p) × (p ≤ passes_of log) → ⊥) → calls_of p log ≡ []

  only_more : (log : List (Event K V)) (e : Event K V) → OnlyDrawn log → MayFollow ek ev l log e → OnlyDrawn (log ++ e ∷ [])
  only_more log e ih may p out =
      let grow = passes-append log (e ∷ []) in
      let before : calls_of p log ≡ [] = ih p (λ within. out (within.0, omega (arith, within.1, grow))) in
      calls-append p log (e ∷ []) ∙ (ap (λ (os : List (Operation K V)). os ++ calls_of p (e ∷ [])) before ∙ last e may.pass)
    where
      other : (q : ℕ) (o : Operation K V) (w : Option ℕ) (b : Bool) → (q == p) ≡ b → (0 < q) × (q ≤ passes_of log) → (passes_of log ≤ passes_of (log ++ e ∷ [])) → map (λ (call : ℕ × Operation K V). call.1) (cond b ((q, o) ∷ []) []) ≡ []
      other q o w true is entered more = let same : q ≡ p = grind (arith, nat_tests) in absurd (out (omega (arith, entered.0, same), omega (arith, entered.1, same, more)))
      other q o w false is entered more = refl

      last : (e' : Event K V) → PassRule ek ev l log e' → [] ++ calls_of p (e' ∷ []) ≡ []
      last (Enter q) rule = refl
      last (Named n b es) rule = refl
      last (Done q o w) rule = other q o w (q == p) refl rule (omega (arith, passes-append log (e ∷ [])))
      last (Moved b w) rule = refl

  only_drawn : (log : List (Event K V)) → IsLawful ek ev l log → OnlyDrawn log
  only_drawn log lawful = lawful_keeps ek ev l OnlyDrawn only_more [] log (λ p out. refl) lawful

  -- where the passes are all that were drawn, a pass that is none of them has no call
  pub no_other : (log : List (Event K V)) (ps : List (PassView K V)) → IsLawful ek ev l log → AreApart ps → Bounded (passes_of log) ps → passes_of log ≤ length ps
      → (p : PassView K V) → AreNone p ps → calls_of p.number log ≡ []
  no_other log ps lawful apart bounded all p none = only_drawn log lawful p.number (λ within.
      let more : suc (length ps) ≤ passes_of log = no_more (passes_of log) (p ∷ ps) (none, apart) (within, bounded) in
      omega (arith, more, all))
