-- When each kind of event may be added, and what it does to the row.
use Rattle.std.proofs.Common.{◌≡◌, ◌≢◌, ℕ, ◌+◌, ◌<◌, ◌≤◌, ◌==◌, ltb, Bool, true, false, if◌then◌else◌, List, [], ◌∷◌, ◌++◌, Option, Some, None, refl, ap, sym, ◌∙◌, subst, arith, IsTrue}
use Rattle.std.proofs.lemmas.Bool.Decides.{nat_tests}
use Rattle.std.specs.Option.{option_map}
use mathlib.Core.List.{IsPrefix}
use Rattle.far_object.specs.Buckets.{bucket}
use Rattle.table_core.specs.declared.event.Event.{Event}
use Rattle.table_core.specs.declared.event.Event.TheVariants.{Enter, Named, Done, Moved}
use Rattle.table_core.specs.declared.operation.Operation.{Operation}
use Rattle.table_core.specs.declared.limits.Limits.{Limits}
use Rattle.table_core.specs.BucketWords.{name_of, place_of, empty_place}
use Rattle.table_core.specs.Maps.{key_of, after}
use Rattle.table_core.specs.Logs.{passes_of, names_of, naming, contents, pairs_of, installed, replaced, word}
use Rattle.table_core.specs.Lawful.{AreContents, IsDrawn, Holds, standing, MayFollow, IsLawful}
use Rattle.table_core.proofs.Logs.{passes-append, names-append, word-more, names_below, naming_kept}
use Rattle.version_words.specs.Rows.{value_of, Writes, CanAdd}
use Rattle.version_words.specs.Views.{WasSeen}
use Rattle.version_words.proofs.Fronts.{value_bucket, value_names, value_passes, lawful_prefix, passes_grow, seen_kept}

flip_eq : (x y : ℕ) → (x == y) ≡ (y == x)
flip_eq x y = by (x == y) refl
  where
    by : (q : Bool) → (x == y) ≡ q → q ≡ (y == x)
    by true is = let same : x ≡ y = grind (arith, nat_tests) in let back : (y == x) ≡ true = grind (arith, nat_tests) in sym back
    by false is = let other : x ≢ y = grind (arith, nat_tests) in let back : (y == x) ≡ false = let other' : y ≢ x = λ e. other (sym e) in grind (arith, nat_tests) in sym back

module _ {K V : Type 0} (ek : K → List ℕ) (ev : V → List ℕ) (l : Limits) where
  -- an event that may follow writes the word k, where its effect on each word is as said
  writes_from : (log : List (Event K V)) (k n : ℕ) (e : Event K V) → MayFollow ek ev l log e
      → ((j : ℕ) → j < l.buckets → replaced j (word ek l.buckets log j) (installed ek l.buckets e) ≡ (if j == k then n else word ek l.buckets log j))
      → names_of (log ++ e ∷ []) ≡ (if l.buckets == k then n else names_of log)
      → passes_of (log ++ e ∷ []) ≡ (if (l.buckets + 1) == k then n else passes_of log)
      → Writes ek ev l log k n e
  writes_from log k n e may words names passes = record { may = may; words = λ j lt. by j lt (ltb j l.buckets) refl }
    where
      last : (j : ℕ) → j < l.buckets + 2 → ltb j l.buckets ≡ false → (c : Bool) → (j == l.buckets) ≡ c → value_of ek ev l (log ++ e ∷ []) j ≡ (if j == k then n else value_of ek ev l log j)
      last j lt past true is =
          let same : j ≡ l.buckets = grind (arith, nat_tests) in
          subst (λ (i : ℕ). value_of ek ev l (log ++ e ∷ []) i ≡ (if i == k then n else value_of ek ev l log i)) (sym same) (value_names ek ev l (log ++ e ∷ []) ∙ (names ∙ ap (λ (x : ℕ). if l.buckets == k then n else x) (sym (value_names ek ev l log))))
      last j lt past false is =
          let after_all : l.buckets ≤ j = grind (arith, nat_tests) in
          let other : j ≢ l.buckets = grind (arith, nat_tests) in
          let same : j ≡ l.buckets + 1 = omega arith in
          subst (λ (i : ℕ). value_of ek ev l (log ++ e ∷ []) i ≡ (if i == k then n else value_of ek ev l log i)) (sym same) (value_passes ek ev l (log ++ e ∷ []) ∙ (passes ∙ ap (λ (x : ℕ). if (l.buckets + 1) == k then n else x) (sym (value_passes ek ev l log))))

      by : (j : ℕ) → j < l.buckets + 2 → (b : Bool) → ltb j l.buckets ≡ b → value_of ek ev l (log ++ e ∷ []) j ≡ (if j == k then n else value_of ek ev l log j)
      by j lt true is =
          let within : j < l.buckets = grind (arith, nat_tests) in
          value_bucket ek ev l (log ++ e ∷ []) j within ∙ (word-more ek ev l log e j ∙ (words j within ∙ ap (λ (x : ℕ). if j == k then n else x) (sym (value_bucket ek ev l log j within))))
      by j lt false is = last j lt is (j == l.buckets) refl

  -- a new pass
  pub can_enter : (front : List (Event K V)) (drawn : ℕ) → drawn < l.passes → CanAdd ek ev l front (l.buckets + 1) drawn (drawn + 1) (Enter (drawn + 1))
  can_enter front drawn lt = record {
    there = omega arith;
    writes = λ log lawful pre still.
        let now : passes_of log ≡ drawn = sym (value_passes ek ev l log) ∙ still in
        writes_from log (l.buckets + 1) (drawn + 1) (Enter (drawn + 1)) (record { pass = (omega arith, omega arith); number = tt; drawn = tt; newer = tt; contents_kept = tt })
        (λ j within. let no : (j == (l.buckets + 1)) ≡ false = let other : j ≢ l.buckets + 1 = omega arith in grind (arith, nat_tests) in rw no)
        (let no : (l.buckets == (l.buckets + 1)) ≡ false = let other : l.buckets ≢ l.buckets + 1 = omega arith in grind (arith, nat_tests) in rw no (omega (arith, names-append log (Enter (drawn + 1) ∷ []))))
        (let yes : ((l.buckets + 1) == (l.buckets + 1)) ≡ true = grind (arith, nat_tests) in rw yes (omega (arith, passes-append log (Enter (drawn + 1) ∷ []))));
  }

  -- a new name
  pub can_name : (front : List (Event K V)) (drawn b : ℕ) (es : List (K × V)) → drawn < l.names → b < l.buckets → (IsTrue l.honest → AreContents ek l.buckets b es)
      → CanAdd ek ev l front l.buckets drawn (drawn + 1) (Named (drawn + 1) b es)
  can_name front drawn b es lt here are = record {
    there = omega arith;
    writes = λ log lawful pre still.
        let now : names_of log ≡ drawn = sym (value_names ek ev l log) ∙ still in
        writes_from log l.buckets (drawn + 1) (Named (drawn + 1) b es) (record { pass = tt; number = (omega arith, omega arith); drawn = tt; newer = tt; contents_kept = (here, are) })
        (λ j within. let no : (j == l.buckets) ≡ false = let other : j ≢ l.buckets = omega arith in grind (arith, nat_tests) in rw no)
        (let yes : (l.buckets == l.buckets) ≡ true = grind (arith, nat_tests) in rw yes (omega (arith, names-append log (Named (drawn + 1) b es ∷ []))))
        (let no : ((l.buckets + 1) == l.buckets) ≡ false = let other : l.buckets + 1 ≢ l.buckets = omega arith in grind (arith, nat_tests) in rw no (omega (arith, passes-append log (Named (drawn + 1) b es ∷ []))));
  }

  -- what may be installed, as the front says it
  pub record IsPrepared (front : List (Event K V)) (b old w : ℕ) (es : List (K × V)) : Type 0 where
    pub seen : WasSeen ek l.buckets front b old
    pub drawn : IsDrawn front (name_of w) b
    pub newer : name_of old < name_of w
    pub contents_are : contents front (name_of w) ≡ es
    pub none : IsTrue l.honest → place_of w ≡ empty_place → es ≡ []

  -- where the word is still the old one
  record IsReady (front log : List (Event K V)) (b old w : ℕ) : Type 0 where
    drawn : IsDrawn log (name_of w) b
    newer : name_of (word ek l.buckets log b) < name_of w
    new_same : contents log (name_of w) ≡ contents front (name_of w)
    old_same : standing ek ev l log b ≡ contents front (name_of old)

  ready : (front : List (Event K V)) (b old w : ℕ) (es : List (K × V)) → IsPrepared front b old w es → (log : List (Event K V)) → IsLawful ek ev l log → IsPrefix front log → word ek l.buckets log b ≡ old
      → IsReady front log b old w
  ready front b old w es p log lawful pre still =
      let below = names_below ek ev l front (lawful_prefix ek ev l front log lawful pre) (name_of w) b p.drawn in
      let same : naming log (name_of w) ≡ naming front (name_of w) = naming_kept ek ev l front log (name_of w) lawful pre below.1 in
      record {
        drawn = ap (λ (o : Option (ℕ × List (K × V))). option_map (λ t. t.0) o) same ∙ p.drawn;
        newer = omega (arith, ap name_of still, p.newer);
        new_same = ap pairs_of same;
        old_same = ap (λ (x : ℕ). contents log (name_of x)) still ∙ seen_kept ek ev l front log b old lawful pre p.seen;
      }

  counters : (log : List (Event K V)) (e : Event K V) (b w : ℕ) → b < l.buckets → names_of (e ∷ []) ≡ 0 → passes_of (e ∷ []) ≡ 0
      → (names_of (log ++ e ∷ []) ≡ (if l.buckets == b then w else names_of log)) × (passes_of (log ++ e ∷ []) ≡ (if (l.buckets + 1) == b then w else passes_of log))
  counters log e b w here no_name no_pass =
      let one : (l.buckets == b) ≡ false = let other : l.buckets ≢ b = omega arith in grind (arith, nat_tests) in
      let two : ((l.buckets + 1) == b) ≡ false = let other : l.buckets + 1 ≢ b = omega arith in grind (arith, nat_tests) in
      (rw one (omega (arith, names-append log (e ∷ []))), rw two (omega (arith, passes-append log (e ∷ []))))

  -- an install of a call
  pub can_done : (front : List (Event K V)) (b old w pass : ℕ) (o : Operation K V) → b < l.buckets → bucket ek l.buckets (key_of o) ≡ b → 0 < pass → pass ≤ passes_of front
      → IsPrepared front b old w (contents front (name_of w))
      → (IsTrue l.honest → contents front (name_of w) ≡ after ek ev (contents front (name_of old)) o)
      → CanAdd ek ev l front b old w (Done pass o (Some w))
  can_done front b old w pass o here key first last p same = record {
    there = omega arith;
    writes = λ log lawful pre still.
        let still' : word ek l.buckets log b ≡ old = sym (value_bucket ek ev l log b here) ∙ still in
        let r = ready front b old w (contents front (name_of w)) p log lawful pre still' in
        let c = counters log (Done pass o (Some w)) b w here refl refl in
        let Drawn : ℕ → Type 0 = λ x. IsDrawn log (name_of w) x in
        let Newer : ℕ → Type 0 = λ x. name_of (word ek l.buckets log x) < name_of w in
        let Kept : ℕ → Type 0 = λ x. IsTrue l.honest → Holds log w (after ek ev (standing ek ev l log x) o) in
        writes_from log b w (Done pass o (Some w)) (record {
          pass = (first, omega (arith, last, passes_grow front log pre));
          number = tt;
          drawn = subst Drawn (sym key) r.drawn;
          newer = subst Newer (sym key) r.newer;
          contents_kept = subst Kept (sym key) (λ honest. record {
            same = r.new_same ∙ (same honest ∙ ap (λ (es : List (K × V)). after ek ev es o) (sym r.old_same));
            none = λ empty. ap (λ (es : List (K × V)). after ek ev es o) r.old_same ∙ (sym (same honest) ∙ p.none honest empty);
          });
        })
        (λ j within. ap (λ (x : ℕ). if x == j then w else word ek l.buckets log j) key ∙ ap (λ (q : Bool). if q then w else word ek l.buckets log j) (flip_eq b j))
        c.0 c.1;
  }

  -- an install that moves the contents
  pub can_move : (front : List (Event K V)) (b old w : ℕ) → b < l.buckets
      → IsPrepared front b old w (contents front (name_of w))
      → (IsTrue l.honest → contents front (name_of w) ≡ contents front (name_of old))
      → CanAdd ek ev l front b old w (Moved b w)
  can_move front b old w here p same = record {
    there = omega arith;
    writes = λ log lawful pre still.
        let still' : word ek l.buckets log b ≡ old = sym (value_bucket ek ev l log b here) ∙ still in
        let r = ready front b old w (contents front (name_of w)) p log lawful pre still' in
        let c = counters log (Moved b w) b w here refl refl in
        writes_from log b w (Moved b w) (record {
          pass = tt;
          number = tt;
          drawn = r.drawn;
          newer = r.newer;
          contents_kept = (
            here,
            λ honest. record {
              same = r.new_same ∙ (same honest ∙ sym r.old_same);
              none = λ empty. r.old_same ∙ (sym (same honest) ∙ p.none honest empty);
            },
          );
        })
        (λ j within. ap (λ (q : Bool). if q then w else word ek l.buckets log j) (flip_eq b j))
        c.0 c.1;
  }

  -- a call that changes nothing
  pub can_check : (front : List (Event K V)) (b old pass : ℕ) (o : Operation K V) → b < l.buckets → bucket ek l.buckets (key_of o) ≡ b → 0 < pass → pass ≤ passes_of front
      → WasSeen ek l.buckets front b old
      → (IsTrue l.honest → after ek ev (contents front (name_of old)) o ≡ contents front (name_of old))
      → CanAdd ek ev l front b old old (Done pass o None)
  can_check front b old pass o here key first last seen same = record {
    there = omega arith;
    writes = λ log lawful pre still.
        let still' : word ek l.buckets log b ≡ old = sym (value_bucket ek ev l log b here) ∙ still in
        let is : standing ek ev l log (bucket ek l.buckets (key_of o)) ≡ contents front (name_of old) =
        ap (λ (x : ℕ). contents log (name_of (word ek l.buckets log x))) key ∙ (ap (λ (x : ℕ). contents log (name_of x)) still' ∙ seen_kept ek ev l front log b old lawful pre seen) in
        let c = counters log (Done pass o None) b old here refl refl in
        writes_from log b old (Done pass o None) (record {
          pass = (first, omega (arith, last, passes_grow front log pre));
          number = tt;
          drawn = tt;
          newer = tt;
          contents_kept = λ honest. ap (λ (es : List (K × V)). after ek ev es o) is ∙ (same honest ∙ sym is);
        })
        (λ j within. unchanged log j (j == b) refl still')
        c.0 c.1;
  }
    where
      unchanged : (log : List (Event K V)) (j : ℕ) (q : Bool) → (j == b) ≡ q → word ek l.buckets log b ≡ old → word ek l.buckets log j ≡ (if q then old else word ek l.buckets log j)
      unchanged log j true is still = let at : j ≡ b = grind (arith, nat_tests) in ap (λ (x : ℕ). word ek l.buckets log x) at ∙ still
      unchanged log j false is still = refl
