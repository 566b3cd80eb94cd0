-- Generations of a map: workers that did their terms behind what was loaded, and one log with all calls.
use Rattle.std.proofs.Common.{◌≡◌, ◌≢◌, ℕ, ◌+◌, ◌==◌, Bool, true, false, cond, IsTrue, List, [], ◌∷◌, ◌++◌, Option, Some, None, Result, Ok, Err, IfOk, length, map, refl, ap, sym, ◌∙◌, subst, arith, length-append}
use Rattle.std.proofs.lemmas.Bool.Decides.{nat_tests}
use Rattle.std.proofs.lemmas.List.{append-nil, map-append}
use Rattle.std.proofs.lemmas.List.Sorted.{IsPermutation-refl, IsPermutation-trans, IsPermutation-append_left}
use Rattle.std.specs.List.{filter}
use Rattle.std.specs.List.Sorted.{IsPermutation}
use mathlib.Core.List.{IsPrefix}
use Rattle.far_object.specs.Encodings.{enc_text}
use Rattle.table_core.specs.declared.limits.Limits.{Limits}
use Rattle.table_core.specs.Maps.{map_of}
use Rattle.table_core.specs.Logs.{history, passes_of}
use Rattle.version_words.specs.Views.{IsWhole, AreNone, calls, calls_of}
use Rattle.version_words.proofs.Calling.{calls-append}
use Rattle.version_words.specs.Rows.{limits_of}
use Rattle.hash_table.specs.declared.caller.Caller.{Caller}
use Rattle.hash_table.specs.declared.config.Config.{Config}
use Rattle.hash_table.specs.Configs.{sizes_of}
use Rattle.hash_table.specs.declared.drain.Drained.{Drained}
use Rattle.hash_table.specs.Closes.{IsFrontOf}
use Rattle.hash_table.specs.Drains.{Drains}
use Rattle.far_map.specs.Views.{View, Log, Pairs, Call, SessionView}
use Rattle.far_map.specs.Counts.{no_calls}
use Rattle.far_map.specs.Loads.{Comes, Loads, summed}
use Rattle.far_map.specs.Generations.{calls_by, IsTerm, AreTerms, IsFrontBy, IsDrainedBy, IsGeneration, IsTurn, Waits, Reached, IsRenewed}
use Rattle.far_map.specs.Generations.Reached.{Next}
use Rattle.far_map.proofs.Working.{IsFrontIn, front_in, last_of, none_of}
use Rattle.far_map.proofs.Carrying.{comes_on}

-- ---- terms

-- a session that a term was made by, whose number is the same before and after
pub term_of : {V T : Type 0} (Done : SessionView V → SessionView V → T → T → Type 0) (limit : ℕ) (told : Log V) (begun ended : SessionView V) (pass : View V) (before after : T) (number again : ℕ)
    → calls begun.pass ≡ [] → begun.stats ≡ no_calls → begun.limit ≡ limit → IsPrefix told begun.pass.front → number ≡ begun.pass.number → again ≡ pass.number → again ≡ number → pass ≡ ended.pass → Done begun ended before after
    → IsTerm Done limit told pass before after
term_of {V} Done limit told begun ended pass before after number again none uncounted limit_is behind first last alike is done = record {
  begun = begun;
  ended = ended;
  new = record { no_call = none; uncounted = uncounted; limit_is = limit_is };
  behind = behind;
  same = ap (λ (v : View V). v.number) (sym is) ∙ (sym last ∙ (alike ∙ first));
  done = done;
  pass_is = sym is;
}

module _ {V T : Type 0} (Done : ℕ → SessionView V → SessionView V → T → T → Type 0) (limit : ℕ) (told : Log V) where
  terms_more : (n last : ℕ) (passes : List (View V)) (befores afters : List T) (pass : View V) (before after : T) → AreTerms Done limit told n passes befores afters → last ≡ n + length passes → IsTerm (Done last) limit told pass before after
      → AreTerms Done limit told n (passes ++ pass ∷ []) (befores ++ before ∷ []) (afters ++ after ∷ [])
  terms_more n last [] [] [] pass before after h is s = (subst (λ (k : ℕ). IsTerm (Done k) limit told pass before after) (omega (arith, is)) s, tt)
  terms_more n last [] [] (a ∷ afters) pass before after h is s = absurd h
  terms_more n last [] (b ∷ befores) afters pass before after h is s = absurd h
  terms_more n last (p ∷ passes) [] afters pass before after h is s = absurd h
  terms_more n last (p ∷ passes) (b ∷ befores) [] pass before after h is s = absurd h
  terms_more n last (p ∷ passes) (b ∷ befores) (a ∷ afters) pass before after h is s = (h.0, terms_more (n + 1) last passes befores afters pass before after h.1 (omega (arith, is)) s)

  pub terms_kept : (n : ℕ) (passes : List (View V)) (befores afters : List T) → AreTerms Done limit told n passes befores afters → length afters ≡ length befores
  terms_kept n [] [] [] h = refl
  terms_kept n [] [] (a ∷ afters) h = absurd h
  terms_kept n [] (b ∷ befores) afters h = absurd h
  terms_kept n (p ∷ passes) [] afters h = absurd h
  terms_kept n (p ∷ passes) (b ∷ befores) [] h = absurd h
  terms_kept n (p ∷ passes) (b ∷ befores) (a ∷ afters) h = omega (arith, terms_kept (n + 1) passes befores afters h.1)

  terms_count : (n : ℕ) (passes : List (View V)) (befores afters : List T) → AreTerms Done limit told n passes befores afters → length passes ≡ length befores
  terms_count n [] [] afters h = refl
  terms_count n [] (b ∷ befores) afters h = absurd h
  terms_count n (p ∷ passes) [] afters h = absurd h
  terms_count n (p ∷ passes) (b ∷ befores) [] h = absurd h
  terms_count n (p ∷ passes) (b ∷ befores) (a ∷ afters) h = omega (arith, terms_count (n + 1) passes befores afters h.1)

  pub no_term : (passes : List (View V)) (befores afters : List T) → passes ≡ [] → befores ≡ [] → afters ≡ [] → AreTerms Done limit told 0 passes befores afters
  no_term passes befores afters p b a =
      subst (λ (ps : List (View V)). AreTerms Done limit told 0 ps befores afters) (sym p) (subst (λ (bs : List T). AreTerms Done limit told 0 [] bs afters) (sym b) (subst (λ (ks : List T). AreTerms Done limit told 0 [] [] ks) (sym a) tt))

  -- one more worker, of the number of those before it
  pub term_more : (passes new_passes : List (View V)) (befores all_befores afters new_afters : List T) (last : ℕ) (pass : View V) (before after : T)
      → AreTerms Done limit told 0 passes befores afters → IsTerm (Done last) limit told pass before after → last ≡ length befores
      → new_passes ≡ passes ++ pass ∷ [] → all_befores ≡ befores ++ before ∷ [] → new_afters ≡ afters ++ after ∷ [] → AreTerms Done limit told 0 new_passes all_befores new_afters
  term_more passes new_passes befores all_befores afters new_afters last pass before after h s count p b a =
      let more : AreTerms Done limit told 0 (passes ++ pass ∷ []) (befores ++ before ∷ []) (afters ++ after ∷ []) =
      terms_more 0 last passes befores afters pass before after h (omega (arith, count, terms_count 0 passes befores afters h)) s in
      subst (λ (ps : List (View V)). AreTerms Done limit told 0 ps all_befores new_afters) (sym p)
      (subst (λ (bs : List T). AreTerms Done limit told 0 (passes ++ pass ∷ []) bs new_afters) (sym b) (subst (λ (ks : List T). AreTerms Done limit told 0 (passes ++ pass ∷ []) (befores ++ before ∷ []) ks) (sym a) more))

  -- the same of what was answered, where it was
  pub term_more_ok : {R E : Type 0} (result : Result R E) (passes_of : R → List (View V)) (afters_of : R → List T) (passes : List (View V)) (befores all_befores afters : List T) (last : ℕ) (pass : View V) (before after : T)
      → AreTerms Done limit told 0 passes befores afters → IsTerm (Done last) limit told pass before after → last ≡ length befores → all_befores ≡ befores ++ before ∷ []
      → IfOk result (λ r. passes_of r ≡ passes ++ pass ∷ []) → IfOk result (λ r. afters_of r ≡ afters ++ after ∷ [])
      → IfOk result (λ r. AreTerms Done limit told 0 (passes_of r) all_befores (afters_of r))
  term_more_ok (Ok r) passes_of afters_of passes befores all_befores afters last pass before after h s count b p a = term_more passes (passes_of r) befores all_befores afters (afters_of r) last pass before after h s count p b a
  term_more_ok (Err e) passes_of afters_of passes befores all_befores afters last pass before after h s count b p a = tt

  -- the same behind others, where both were answered
  pub term_after : {R A O E F G : Type 0} (result : Result R F) (passes_of : R → List (View V)) (afters_of : R → List T) (their_passes : A → List (View V)) (their_afters : A → List T)
      (others : Result A E) (a : A) (own : Result O G) (o : O) (pass_in : O → View V) (after_in : O → T) (befores all_befores : List T) (last : ℕ) (before : T)
      → others ≡ Ok a → IfOk others (λ x. AreTerms Done limit told 0 (their_passes x) befores (their_afters x)) → own ≡ Ok o → IfOk own (λ x. IsTerm (Done last) limit told (pass_in x) before (after_in x))
      → last ≡ length befores → all_befores ≡ befores ++ before ∷ [] → IfOk result (λ r. passes_of r ≡ their_passes a ++ pass_in o ∷ []) → IfOk result (λ r. afters_of r ≡ their_afters a ++ after_in o ∷ [])
      → IfOk result (λ r. AreTerms Done limit told 0 (passes_of r) all_befores (afters_of r))
  term_after {R} {A} {O} {E} {F} {G} result passes_of afters_of their_passes their_afters others a own o pass_in after_in befores all_befores last before made h answered s count b p k =
      term_more_ok result passes_of afters_of (their_passes a) befores all_befores (their_afters a) last (pass_in o) before (after_in o)
      (subst (λ (x : Result A E). IfOk x (λ y. AreTerms Done limit told 0 (their_passes y) befores (their_afters y))) made h)
      (subst (λ (x : Result O G). IfOk x (λ y. IsTerm (Done last) limit told (pass_in y) before (after_in y))) answered s)
      count b p k

pub empty_of : {A : Type 0} (xs : List A) → length xs ≡ 0 → xs ≡ []
empty_of [] none = refl
empty_of (x ∷ xs) none = absurd (omega (arith, none))

-- ---- whose calls a log begins with

no_front : {A : Type 0} (xs ys zs : List A) → zs ≡ xs ++ ys → zs ≡ [] → xs ≡ []
no_front [] ys zs is none = refl
no_front (x ∷ xs) ys zs is none = absurd (cc (sym is ∙ none))

module _ {V : Type 0} where
  -- a log has no call of a pass of which a longer one has none
  none_before : (p : ℕ) (told log : Log V) → IsPrefix told log → calls_of p log ≡ [] → calls_of p told ≡ []
  none_before p told log prefix none = no_front (calls_of p told) (calls_of p prefix.0) (calls_of p log) (ap (λ (x : Log V). calls_of p x) (sym prefix.1) ∙ calls-append p told prefix.0) none

  abbrev calls_in : ℕ → List (ℕ × Call V) → List (Call V)
  calls_in p called = map (λ call. call.1) (filter (λ call. call.0 == p) called)

  abbrev OfOne : ℕ → List (ℕ × Call V) → Type 0
  OfOne n called = (p : ℕ) → p ≢ n → calls_in p called ≡ []

  -- a list without its first has no call where the whole has none
  tail_none : (b : Bool) (call : ℕ × Call V) (rest : List (ℕ × Call V)) → map (λ c. c.1) (cond b (call ∷ rest) rest) ≡ [] → map (λ c. c.1) rest ≡ []
  tail_none true call rest none = absurd (cc none)
  tail_none false call rest none = none

  fewer : (n : ℕ) (call : ℕ × Call V) (called : List (ℕ × Call V)) → OfOne n (call ∷ called) → OfOne n called
  fewer n call called none p other = tail_none (call.0 == p) call (filter (λ c. c.0 == p) called) (none p other)

  -- calls of which none is by another pass are those of the one
  all_by : (n : ℕ) (called : List (ℕ × Call V)) → OfOne n called → called ≡ calls_by n (calls_in n called)
  all_by n [] none = refl
  all_by n (call ∷ called) none = at (call.0 == n) refl (all_by n called (fewer n call called none))
    where
      at : (b : Bool) → (call.0 == n) ≡ b → called ≡ calls_by n (calls_in n called) → call ∷ called ≡ calls_by n (calls_in n (call ∷ called))
      at true is rest =
          let own : call.0 ≡ n = grind (arith, nat_tests) in
          rw is (ap (λ (q : ℕ). (q, call.1) ∷ called) own ∙ ap (λ (cs : List (ℕ × Call V)). (n, call.1) ∷ cs) rest)
      at false is rest =
          let other : call.0 ≢ n = grind (arith, nat_tests) in
          let itself : (call.0 == call.0) ≡ true = grind (arith, nat_tests) in
          absurd (cc (rw itself at (none call.0 other)))

module _ {V T : Type 0} (Done : ℕ → SessionView V → SessionView V → T → T → Type 0) (limit : ℕ) (told : Log V) where
  -- of no worker's pass has the log that all of them had seen a call
  by_terms : (n : ℕ) (passes : List (View V)) (befores afters : List T) → AreTerms Done limit told n passes befores afters → (p : ℕ) → (AreNone (record { front = []; number = p }) passes → calls_of p told ≡ []) → calls_of p told ≡ []
  by_terms n [] [] [] h p none = none tt
  by_terms n [] [] (a ∷ afters) h p none = absurd h
  by_terms n [] (b ∷ befores) afters h p none = absurd h
  by_terms n (q ∷ passes) [] afters h p none = absurd h
  by_terms n (q ∷ passes) (b ∷ befores) [] h p none = absurd h
  by_terms n (q ∷ passes) (b ∷ befores) (a ∷ afters) h p none = at (p == q.number) refl (by_terms (n + 1) passes befores afters h.1 p)
    where
      at : (c : Bool) → (p == q.number) ≡ c → ((AreNone (record { front = []; number = p }) passes → calls_of p told ≡ []) → calls_of p told ≡ []) → calls_of p told ≡ []
      at true is rest =
          let s : IsTerm (Done n) limit told q b a = h.0 in
          let same : p ≡ q.number = grind (arith, nat_tests) in
          let begun : p ≡ s.begun.pass.number = same ∙ (ap (λ (v : View V). v.number) (sym s.pass_is) ∙ s.same) in
          none_before p told s.begun.pass.front s.behind (ap (λ (k : ℕ). calls_of k s.begun.pass.front) begun ∙ s.new.no_call)
      at false is rest = rest (λ others. none ((let other : p ≢ q.number = grind (arith, nat_tests) in other), others))

-- ---- the map's own caller

module _ {V J : Type 0} (ev : V → List ℕ) (l : Limits) (callers all : List (Caller (List ℕ) V J)) (own : Caller (List ℕ) V J) (is : all ≡ callers ++ own ∷ []) (none : calls own.pass ≡ []) where
  pub front_by : (log : Log V) → IsFrontOf enc_text ev l all log → IsFrontBy ev l callers log
  front_by log front = record { own = own; no_calls = none; front = subst (λ (cs : List (Caller (List ℕ) V J)). IsFrontOf enc_text ev l cs log) is front }

  pub drained_by : (old new : Pairs V) (lost : ℕ) → Drains enc_text ev l all old new lost → IsDrainedBy ev l callers old new lost
  drained_by old new lost drained = record { own = own; no_calls = none; drained = subst (λ (cs : List (Caller (List ℕ) V J)). Drains enc_text ev l cs old new lost) is drained }

-- ---- what waits for the next generation

waits_of : {V J : Type 0} (ev : V → List ℕ) (l : Limits) (all : List (Caller (List ℕ) V J)) (between waiting : Pairs V) (lost : ℕ) (h : IsDrainedBy ev l all between waiting lost) → between ≡ [] → IsTrue l.honest
    → Comes (map_of enc_text ev (history h.drained.log)) waiting lost
waits_of {V} ev l all between waiting lost h empty honest =
    let d = h.drained in
    let m : Pairs V = map_of enc_text ev (history h.drained.log) in
    let kept : IsPermutation h.drained.carried waiting = subst (λ (w : Pairs V). IsPermutation (w ++ h.drained.carried) waiting) empty h.drained.kept in
    record {
      part = record { others = d.others; split = IsPermutation-trans m (d.carried ++ d.others) (waiting ++ d.others) (d.whole honest) (IsPermutation-append_left d.others d.carried waiting kept) };
      all = λ none. IsPermutation-trans m d.carried waiting (subst (λ (w : Pairs V). IsPermutation m w) (ap (λ (w : Pairs V). d.carried ++ w) (d.all none) ∙ append-nil d.carried) (d.whole honest)) kept;
    }

-- ---- a generation

module _ {V T : Type 0} (Done : ℕ → Limits → SessionView V → SessionView V → T → T → Type 0) (l : Limits) where
  abbrev TermsAt : ℕ → Log V → List (View V) → List T → List T → Type 0
  TermsAt limit told passes befores afters = AreTerms (λ worker begun ended (before after : T). Done worker l begun ended before after) limit told 0 passes befores afters

module _ {V T : Type 0} (ev : V → List ℕ) (Done : ℕ → Limits → SessionView V → SessionView V → T → T → Type 0) (l : Limits) (limit : ℕ) where
  generation : (is_honest : Bool) (left : Pairs V) (lost : ℕ) (states kept : List T) (passes : List (View V)) (loader : View V) (log : Log V)
      → l.honest ≡ is_honest → TermsAt Done l limit loader.front passes states kept → IsFrontIn ev l (passes ++ loader ∷ []) log → Loads is_honest left loader lost → IsGeneration ev Done l limit left lost states kept log
  generation is_honest left lost states kept passes loader log honest worked front loads = record {
    loader = loader;
    loaded = loads.loaded;
    comes = λ is. loads.comes (subst (λ (b : Bool). IsTrue b) honest is);
    begins = all_by loader.number (history loader.front) others ∙ ap (λ (os : List (Call V)). calls_by loader.number os) loads.made;
    passes = passes;
    worked = worked;
    lawful = front.lawful;
    all = front.all ∙ (let count = length-append passes (loader ∷ []) in omega (arith, count));
    apart = front.apart;
    whole = front.whole;
    no_other = front.no_other;
  }
    where
      seen : IsWhole log loader
      seen = last_of (λ (pass : View V). IsWhole log pass) passes loader front.whole

      others : OfOne loader.number (history loader.front)
      others p other =
          by_terms (λ worker begun ended (before after : T). Done worker l begun ended before after) limit loader.front 0 passes states kept worked p
          (λ none. none_before p loader.front log seen.seen (front.no_other (record { front = []; number = p }) (none_of (record { front = []; number = p }) passes loader none other)))

module _ {V T J : Type 0} (ev : V → List ℕ) (Done : ℕ → Limits → SessionView V → SessionView V → T → T → Type 0) (l : Limits) (limit : ℕ) where
  -- what the callers of workers that left, and the loader's, tell of a front of theirs
  of_callers : (is_honest : Bool) (left : Pairs V) (lost : ℕ) (states kept : List T) (callers all : List (Caller (List ℕ) V J)) (loader : Caller (List ℕ) V J) (log : Log V)
      → l.honest ≡ is_honest → TermsAt Done l limit loader.pass.front (map (λ c. c.pass) callers) states kept → all ≡ callers ++ loader ∷ [] → IsFrontBy ev l all log → Loads is_honest left loader.pass lost → IsGeneration ev Done l limit left lost states kept log
  of_callers is_honest left lost states kept callers all loader log honest worked is front loads =
      let passes_are : map (λ c. c.pass) all ≡ map (λ c. c.pass) callers ++ loader.pass ∷ [] = ap (λ (cs : List (Caller (List ℕ) V J)). map (λ c. c.pass) cs) is ∙ map-append (λ (c : Caller (List ℕ) V J). c.pass) callers (loader ∷ []) in
      generation ev Done l limit is_honest left lost states kept (map (λ c. c.pass) callers) loader.pass log honest worked (subst (λ (ps : List (View V)). IsFrontIn ev l ps log) passes_are (front_in ev l all log front)) loads

  made : (is_honest : Bool) (limit' : ℕ) (left : Pairs V) (lost : ℕ) (states kept : List T) (callers all : List (Caller (List ℕ) V J)) (loader : Caller (List ℕ) V J) (told log : Log V)
      → limit' ≡ limit → l.honest ≡ is_honest → told ≡ loader.pass.front → TermsAt Done l limit' told (map (λ c. c.pass) callers) states kept
      → all ≡ callers ++ loader ∷ [] → IsFrontBy ev l all log → Loads is_honest left loader.pass lost → IsGeneration ev Done l limit left lost states kept log
  made is_honest limit' left lost states kept callers all loader told log same honest seen worked is front loads =
      of_callers is_honest left lost states kept callers all loader log honest
      (subst (λ (x : Log V). TermsAt Done l limit x (map (λ c. c.pass) callers) states kept) seen (subst (λ (n : ℕ). TermsAt Done l n told (map (λ c. c.pass) callers) states kept) same worked))
      is front loads

  -- a generation behind which the run ends
  pub last_turn : {D : Type 0} (is_honest : Bool) (limit' : ℕ) (left waiting : Pairs V) (lost : ℕ) (states kept : List T) (callers all : List (Caller (List ℕ) V J)) (loader : Caller (List ℕ) V J) (told log : Log V)
      → limit' ≡ limit → l.honest ≡ is_honest → told ≡ loader.pass.front → TermsAt Done l limit' told (map (λ c. c.pass) callers) states kept
      → all ≡ callers ++ loader ∷ [] → IsFrontBy ev l all log → Loads is_honest left loader.pass lost
      → IsTurn ev Done l limit {D = D} left waiting lost states kept None
  last_turn is_honest limit' left waiting lost states kept callers all loader told log same honest seen worked is front loads =
      record { log = log; generation = made is_honest limit' left lost states kept callers all loader told log same honest seen worked is front loads; waits = tt }

  -- one that another follows
  pub next_turn : {D : Type 0} (is_honest : Bool) (limit' : ℕ) (left between waiting : Pairs V) (lost : ℕ) (states kept : List T) (callers all : List (Caller (List ℕ) V J)) (loader : Caller (List ℕ) V J) (told : Log V) (drained : Drained D)
      → limit' ≡ limit → l.honest ≡ is_honest → told ≡ loader.pass.front → TermsAt Done l limit' told (map (λ c. c.pass) callers) states kept
      → all ≡ callers ++ loader ∷ [] → between ≡ [] → IsDrainedBy ev l all between waiting drained.lost → Loads is_honest left loader.pass lost
      → IsTurn ev Done l limit left waiting lost states kept (Some drained)
  next_turn is_honest limit' left between waiting lost states kept callers all loader told drained same honest seen worked is empty h loads =
      let front : IsFrontBy ev l all h.drained.log = record { own = h.own; no_calls = h.no_calls; front = h.drained.front } in
      record {
        log = h.drained.log;
        generation = made is_honest limit' left lost states kept callers all loader told h.drained.log same honest seen worked is front loads;
        waits = λ is_so. waits_of ev l all between waiting drained.lost h empty is_so;
      }

-- ---- generations in a row

module _ {V T : Type 0} (ev : V → List ℕ) (Done : ℕ → Limits → SessionView V → SessionView V → T → T → Type 0) where
  -- the same limits by another name
  pub turn_as : {R E D : Type 0} (r : Result R E) (lost_in : R → ℕ) (kept_in : R → List T) (next_in : R → Option (Drained D)) (l l' : Limits) (limit limit' : ℕ) (left waiting : Pairs V) (states : List T)
      → l' ≡ l → limit' ≡ limit → IfOk r (λ x. IsTurn ev Done l' limit' left waiting (lost_in x) states (kept_in x) (next_in x)) → IfOk r (λ x. IsTurn ev Done l limit left waiting (lost_in x) states (kept_in x) (next_in x))
  turn_as r lost_in kept_in next_in l l' limit limit' left waiting states same_l same_limit h =
      subst (λ (k : Limits). IfOk r (λ x. IsTurn ev Done k limit left waiting (lost_in x) states (kept_in x) (next_in x))) same_l
      (subst (λ (n : ℕ). IfOk r (λ x. IsTurn ev Done l' n left waiting (lost_in x) states (kept_in x) (next_in x))) same_limit h)

  module _ (l : Limits) (limit : ℕ) where
    pub kept_count : {D : Type 0} (left waiting : Pairs V) (lost : ℕ) (states kept : List T) (next : Option (Drained D)) → IsTurn ev Done l limit left waiting lost states kept next → length kept ≡ length states
    kept_count left waiting lost states kept next h =
        let g = h.generation in terms_kept (λ worker begun ended (before after : T). Done worker l begun ended before after) limit g.loader.front 0 g.passes states kept g.worked

    -- a generation that begins with what came of the map that the one before left
    behind : {D : Type 0} (states kept : List T) (more before : ℕ) (left waiting waiting' : Pairs V) (next : Option (Drained D))
        → (IsTrue l.honest → Comes left waiting before) → (t : IsTurn ev Done l limit waiting waiting' more states kept next) → (more ≡ 0 → before ≡ 0)
        → IsGeneration ev Done l limit left more states kept t.log
    behind states kept more before left waiting waiting' next came t counted =
        let g = t.generation in
        record {
          loader = g.loader;
          loaded = g.loaded;
          comes = λ honest. comes_on left waiting g.loaded before more more (came honest) (g.comes honest) counted (λ none. none);
          begins = g.begins;
          passes = g.passes;
          worked = g.worked;
          lawful = g.lawful;
          all = g.all;
          apart = g.apart;
          whole = g.whole;
          no_other = g.no_other;
        }

    -- one more generation
    pub reached_more : {D : Type 0} (first states kept : List T) (lost more total before : ℕ) (left waiting waiting' : Pairs V) (next : Option (Drained D))
        → Reached ev Done l limit first states lost left → (IsTrue l.honest → Comes left waiting before) → (t : IsTurn ev Done l limit waiting waiting' more states kept next) → (more ≡ 0 → before ≡ 0) → total ≡ summed lost more
        → Reached ev Done l limit first kept total (map_of enc_text ev (history t.log))
    reached_more first states kept lost more total before left waiting waiting' next h came t counted is =
        subst (λ (n : ℕ). Reached ev Done l limit first kept n (map_of enc_text ev (history t.log))) (sym is) (Next h (behind states kept more before left waiting waiting' next came t counted))

    -- the last one
    pub renewed : {D : Type 0} (first states kept : List T) (lost more total before : ℕ) (left waiting waiting' : Pairs V) (next : Option (Drained D))
        → Reached ev Done l limit first states lost left → (IsTrue l.honest → Comes left waiting before) → (t : IsTurn ev Done l limit waiting waiting' more states kept next) → (more ≡ 0 → before ≡ 0) → total ≡ summed lost more
        → IsRenewed ev Done l limit first kept total
    renewed first states kept lost more total before left waiting waiting' next h came t counted is = record {
      mid = states;
      before = lost;
      left = left;
      reached = h;
      more = more;
      log = t.log;
      generation = behind states kept more before left waiting waiting' next came t counted;
      lost_is = is;
    }

-- nothing waits for the first generation
pub none_waits : {A : Type 0} (xs : List A) (lost : ℕ) → xs ≡ [] → Comes [] xs lost
none_waits {A} xs lost none = record {
  part = record { others = []; split = subst (λ (ys : List A). IsPermutation [] (ys ++ [])) (sym none) (IsPermutation-refl []) };
  all = λ zero. subst (λ (ys : List A). IsPermutation [] ys) (sym none) (IsPermutation-refl []);
}

module _ {V D : Type 0} (ev : V → List ℕ) where
  -- what waits, where a generation follows
  pub waits_some : (l : Limits) (log : Log V) (waiting : Pairs V) (next : Option (Drained D)) (left : Drained D) → next ≡ Some left → Waits ev l log waiting next → IsTrue l.honest → Comes (map_of enc_text ev (history log)) waiting left.lost
  waits_some l log waiting next left is h = subst (λ (o : Option (Drained D)). Waits ev l log waiting o) is h

module _ {V T D : Type 0} (ev : V → List ℕ) where
  -- a generation over a table of these settings
  pub turn_over : (Done : ℕ → Limits → SessionView V → SessionView V → T → T → Type 0) (is_honest : Bool) (c c' : Config) (left waiting : Pairs V) (lost : ℕ) (states kept : List T) (next : Option (Drained D))
      → c ≡ c' → IsTurn ev Done (limits_of (sizes_of c) is_honest) c.limit left waiting lost states kept next → IsTurn ev Done (limits_of (sizes_of c') is_honest) c'.limit left waiting lost states kept next
  turn_over Done is_honest c c' left waiting lost states kept next is h = subst (λ (k : Config). IsTurn ev Done (limits_of (sizes_of k) is_honest) k.limit left waiting lost states kept next) is h
