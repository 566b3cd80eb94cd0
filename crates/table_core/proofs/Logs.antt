-- What holds of every log, and of every lawful one.
use Rattle.std.proofs.Common.{◌≡◌, ◌≢◌, ℕ, ◌+◌, ◌<◌, ◌≤◌, ◌==◌, Bool, true, false, if◌then◌else◌, List, [], ◌∷◌, ◌++◌, Option, Some, None, refl, ap, sym, ◌∙◌, subst, arith, append_assoc}
use Rattle.std.proofs.lemmas.Bool.Decides.{nat_tests}
use Rattle.std.proofs.lemmas.List.{append-nil}
use Rattle.std.proofs.lemmas.List.Sums.{fold-append}
use Rattle.std.specs.Option.{option_map}
use mathlib.Core.List.{IsPrefix}
use Rattle.table_core.specs.declared.event.Event.{Event}
use Rattle.table_core.specs.declared.event.Event.TheVariants.{Enter, Named, Done, Moved}
use Rattle.table_core.specs.declared.limits.Limits.{Limits}
use Rattle.table_core.specs.declared.operation.Operation.{Operation}
use Rattle.table_core.specs.BucketWords.{name_of}
use Rattle.table_core.specs.Logs.{history, passes_of, names_of, naming, installed, replaced, word}
use Rattle.table_core.specs.Lawful.{IsDrawn, MayFollow, LawfulFrom, IsLawful}

module _ {K V : Type 0} where
  pub history-append : (xs ys : List (Event K V)) → history (xs ++ ys) ≡ history xs ++ history ys
  history-append [] ys = refl
  history-append (Enter p ∷ xs) ys = history-append xs ys
  history-append (Named n b es ∷ xs) ys = history-append xs ys
  history-append (Done p op w ∷ xs) ys = ap (λ (z : List (ℕ × Operation K V)). (p, op) ∷ z) (history-append xs ys)
  history-append (Moved b w ∷ xs) ys = history-append xs ys

  pub passes-append : (xs ys : List (Event K V)) → passes_of (xs ++ ys) ≡ passes_of xs + passes_of ys
  passes-append [] ys = omega arith
  passes-append (Enter p ∷ xs) ys = omega (arith, passes-append xs ys)
  passes-append (Named n b es ∷ xs) ys = passes-append xs ys
  passes-append (Done p op w ∷ xs) ys = passes-append xs ys
  passes-append (Moved b w ∷ xs) ys = passes-append xs ys

  pub names-append : (xs ys : List (Event K V)) → names_of (xs ++ ys) ≡ names_of xs + names_of ys
  names-append [] ys = omega arith
  names-append (Enter p ∷ xs) ys = names-append xs ys
  names-append (Named n b es ∷ xs) ys = omega (arith, names-append xs ys)
  names-append (Done p op w ∷ xs) ys = names-append xs ys
  names-append (Moved b w ∷ xs) ys = names-append xs ys

  -- the first naming, or else the second
  abbrev pub or_else : Option (ℕ × List (K × V)) → Option (ℕ × List (K × V)) → Option (ℕ × List (K × V))
  or_else None y = y
  or_else (Some t) y = Some t

  pub naming-append : (xs ys : List (Event K V)) (n : ℕ) → naming (xs ++ ys) n ≡ or_else (naming xs n) (naming ys n)
  naming-append [] ys n = refl
  naming-append (Enter p ∷ xs) ys n = naming-append xs ys n
  naming-append (Named m b es ∷ xs) ys n = by (m == n) (naming-append xs ys n)
    where
      by : (c : Bool) → naming (xs ++ ys) n ≡ or_else (naming xs n) (naming ys n) → (if c then Some (b, es) else naming (xs ++ ys) n) ≡ or_else (if c then Some (b, es) else naming xs n) (naming ys n)
      by true h = refl
      by false h = h
  naming-append (Done p op w ∷ xs) ys n = naming-append xs ys n
  naming-append (Moved b w ∷ xs) ys n = naming-append xs ys n

module _ {K V : Type 0} (ek : K → List ℕ) (ev : V → List ℕ) (l : Limits) where
  -- an event that may follow keeps the log lawful
  lawful_from_more : (past rest : List (Event K V)) (e : Event K V) → LawfulFrom ek ev l past rest → MayFollow ek ev l (past ++ rest) e → LawfulFrom ek ev l past (rest ++ e ∷ [])
  lawful_from_more past [] e h may = (subst (λ (w : List (Event K V)). MayFollow ek ev l w e) (append-nil past) may, tt)
  lawful_from_more past (x ∷ rest) e h may =
      (h.0, lawful_from_more (past ++ x ∷ []) rest e h.1 (subst (λ (w : List (Event K V)). MayFollow ek ev l w e) (sym (append_assoc past (x ∷ []) rest)) may))

  pub lawful_more : (log : List (Event K V)) (e : Event K V) → IsLawful ek ev l log → MayFollow ek ev l log e → IsLawful ek ev l (log ++ e ∷ [])
  lawful_more log e h may = lawful_from_more [] log e h may

  -- the rest of a lawful log, behind a beginning of it
  pub lawful_rest : (past xs ys : List (Event K V)) → LawfulFrom ek ev l past (xs ++ ys) → LawfulFrom ek ev l (past ++ xs) ys
  lawful_rest past [] ys h = subst (λ (w : List (Event K V)). LawfulFrom ek ev l w ys) (sym (append-nil past)) h
  lawful_rest past (x ∷ xs) ys h =
      subst (λ (w : List (Event K V)). LawfulFrom ek ev l w ys) (append_assoc past (x ∷ []) xs) (lawful_rest (past ++ x ∷ []) xs ys h.1)

  pub lawful_begin : (past xs ys : List (Event K V)) → LawfulFrom ek ev l past (xs ++ ys) → LawfulFrom ek ev l past xs
  lawful_begin past [] ys h = tt
  lawful_begin past (x ∷ xs) ys h = (h.0, lawful_begin (past ++ x ∷ []) xs ys h.1)

  -- the last event of a lawful log may follow those before it
  pub lawful_last : (log : List (Event K V)) (e : Event K V) → IsLawful ek ev l (log ++ e ∷ []) → MayFollow ek ev l log e
  lawful_last log e h = let r = lawful_rest [] log (e ∷ []) h in r.0

  -- what each event keeps, a lawful log keeps
  pub lawful_keeps : (P : List (Event K V) → Type 0) → ((log : List (Event K V)) (e : Event K V) → P log → MayFollow ek ev l log e → P (log ++ e ∷ [])) → (past rest : List (Event K V)) → P past → LawfulFrom ek ev l past rest → P (past ++ rest)
  lawful_keeps P step past [] p h = subst P (sym (append-nil past)) p
  lawful_keeps P step past (e ∷ rest) p h =
      subst P (append_assoc past (e ∷ []) rest) (lawful_keeps P step (past ++ e ∷ []) rest (step past e p h.0) h.1)

  -- what each event keeps stays in each longer log
  pub prefix_keeps : (P : List (Event K V) → Type 0) → ((log : List (Event K V)) (e : Event K V) → P log → MayFollow ek ev l log e → P (log ++ e ∷ [])) → (xs ys : List (Event K V)) → IsLawful ek ev l ys → IsPrefix xs ys → P xs → P ys
  prefix_keeps P step xs ys h pre p =
      let h' : IsLawful ek ev l (xs ++ pre.0) = subst (λ (w : List (Event K V)). IsLawful ek ev l w) (sym pre.1) h in
      subst P pre.1 (lawful_keeps P step xs pre.0 p (lawful_rest [] xs pre.0 h'))

  pub word-more : (log : List (Event K V)) (e : Event K V) (b : ℕ) → word ek l.buckets (log ++ e ∷ []) b ≡ replaced b (word ek l.buckets log b) (installed ek l.buckets e)
  word-more log e b = fold-append (λ (w : ℕ) (e : Event K V). replaced b w (installed ek l.buckets e)) 0 log (e ∷ [])

  -- ---- names

  -- a name that stands in a log is one of those drawn
  abbrev pub NamesBelow : List (Event K V) → Type 0
  NamesBelow log = (n b : ℕ) → IsDrawn log n b → (0 < n) × (n ≤ names_of log)

  names_below_more : (log : List (Event K V)) (e : Event K V) → NamesBelow log → MayFollow ek ev l log e → NamesBelow (log ++ e ∷ [])
  names_below_more log e below may n b h = by (naming log n) refl e may h
    where
      by : (o : Option (ℕ × List (K × V))) → naming log n ≡ o → (e : Event K V) → MayFollow ek ev l log e → IsDrawn (log ++ e ∷ []) n b → (0 < n) × (n ≤ names_of (log ++ e ∷ []))
      by (Some t) is e may h =
          let old = below n t.0 (ap (λ (o : Option (ℕ × List (K × V))). option_map (λ t. t.0) o) is) in
          (old.0, omega (arith, names-append log (e ∷ []), old.1))
      by None is (Named m c es) may h = at (m == n) refl
        where
          at : (q : Bool) → (m == n) ≡ q → (0 < n) × (n ≤ names_of (log ++ Named m c es ∷ []))
          at true same =
              let same' : m ≡ n = grind (arith, nat_tests) in
              let next = may.number in
              (omega arith, omega (arith, names-append log (Named m c es ∷ [])))
          at false same = absurd (cc (simp (naming-append, is, same) at h))
      by None is (Enter p) may h = absurd (cc (simp (naming-append, is) at h))
      by None is (Done p op w) may h = absurd (cc (simp (naming-append, is) at h))
      by None is (Moved c w) may h = absurd (cc (simp (naming-append, is) at h))

  pub names_below : (log : List (Event K V)) → IsLawful ek ev l log → NamesBelow log
  names_below log h = lawful_keeps NamesBelow names_below_more [] log (λ n b h. absurd cc) h

  -- the naming of a name that was drawn never changes
  abbrev Keeps : List (Event K V) → ℕ → List (Event K V) → Type 0
  Keeps front n log = (n ≤ names_of log) × (naming log n ≡ naming front n)

  keeps_more : (front : List (Event K V)) (n : ℕ) (log : List (Event K V)) (e : Event K V) → Keeps front n log → MayFollow ek ev l log e → Keeps front n (log ++ e ∷ [])
  keeps_more front n log e keeps may = (omega (arith, names-append log (e ∷ []), keeps.0), naming-append log (e ∷ []) n ∙ (none (naming log n) e may ∙ keeps.1))
    where
      none : (o : Option (ℕ × List (K × V))) (e : Event K V) → MayFollow ek ev l log e → or_else o (naming (e ∷ []) n) ≡ o
      none (Some t) e may = refl
      none None (Enter p) may = refl
      none None (Named m c es) may =
          let next = may.number in
          let other : (m == n) ≡ false = let apart : m ≢ n = omega (arith, keeps.0) in grind (arith, nat_tests) in
          rw other
      none None (Done p op w) may = refl
      none None (Moved c w) may = refl

  pub naming_kept : (front log : List (Event K V)) (n : ℕ) → IsLawful ek ev l log → IsPrefix front log → n ≤ names_of front → naming log n ≡ naming front n
  naming_kept front log n h pre le = let k = prefix_keeps (Keeps front n) (keeps_more front n) front log h pre (le, refl) in k.1

  -- ---- words

  -- the words have names that were drawn
  abbrev WordsBelow : List (Event K V) → Type 0
  WordsBelow log = NamesBelow log × ((b : ℕ) → name_of (word ek l.buckets log b) ≤ names_of log)

  words_below_more : (log : List (Event K V)) (e : Event K V) → WordsBelow log → MayFollow ek ev l log e → WordsBelow (log ++ e ∷ [])
  words_below_more log e below may = (names_below_more log e below.0 may, λ b. rw (word-more log e b) (by b (installed ek l.buckets e) refl))
    where
      by : (b : ℕ) → (o : Option (ℕ × ℕ)) → installed ek l.buckets e ≡ o → name_of (replaced b (word ek l.buckets log b) o) ≤ names_of (log ++ e ∷ [])
      by b None is = omega (arith, below.1 b, names-append log (e ∷ []))
      by b (Some t) is = at (t.0 == b)
        where
          drawn : IsDrawn log (name_of t.1) t.0
          drawn = rw is at may.drawn

          at : (q : Bool) → name_of (if q then t.1 else word ek l.buckets log b) ≤ names_of (log ++ e ∷ [])
          at true = let low = below.0 (name_of t.1) t.0 drawn in omega (arith, low.1, names-append log (e ∷ []))
          at false = omega (arith, below.1 b, names-append log (e ∷ []))

  pub words_below : (log : List (Event K V)) (b : ℕ) → IsLawful ek ev l log → name_of (word ek l.buckets log b) ≤ names_of log
  words_below log b h = let k = lawful_keeps WordsBelow words_below_more [] log ((λ n b h. absurd cc), (λ b. omega arith)) h in k.1 b

  -- the counters stay within the limits
  abbrev Within : List (Event K V) → Type 0
  Within log = (names_of log ≤ l.names) × (passes_of log ≤ l.passes)

  within_more : (log : List (Event K V)) (e : Event K V) → Within log → MayFollow ek ev l log e → Within (log ++ e ∷ [])
  within_more log (Enter p) h may = let r = may.pass in omega (arith, names-append log (Enter p ∷ []), passes-append log (Enter p ∷ []))
  within_more log (Named n b es) h may = let r = may.number in omega (arith, names-append log (Named n b es ∷ []), passes-append log (Named n b es ∷ []))
  within_more log (Done p op w) h may = omega (arith, names-append log (Done p op w ∷ []), passes-append log (Done p op w ∷ []))
  within_more log (Moved b w) h may = omega (arith, names-append log (Moved b w ∷ []), passes-append log (Moved b w ∷ []))

  pub within : (log : List (Event K V)) → IsLawful ek ev l log → (names_of log ≤ l.names) × (passes_of log ≤ l.passes)
  within log h = lawful_keeps Within within_more [] log (omega arith, omega arith) h
