-- Beginnings of one log, and what they have seen.
use Rattle.std.proofs.Common.{◌≡◌, ℕ, ◌+◌, ◌<◌, ◌≤◌, ◌==◌, ltb, true, false, List, [], ◌∷◌, ◌++◌, Option, Some, None, refl, ap, sym, ◌∙◌, subst, arith, append_assoc, inl, inr, ◌⊎◌}
use Rattle.std.proofs.lemmas.Bool.Decides.{nat_tests}
use Rattle.std.proofs.lemmas.List.{append-nil}
use Rattle.std.specs.Option.{option_map}
use mathlib.Core.List.{IsPrefix}
use Rattle.table_core.specs.declared.event.Event.{Event}
use Rattle.table_core.specs.declared.limits.Limits.{Limits}
use Rattle.table_core.specs.BucketWords.{name_of}
use Rattle.table_core.specs.Logs.{passes_of, names_of, naming, contents, pairs_of, word}
use Rattle.table_core.specs.Lawful.{IsDrawn, IsLawful}
use Rattle.table_core.proofs.Logs.{passes-append, names-append, lawful_begin, names_below, naming_kept, words_below}
use Rattle.version_words.specs.Rows.{value_of}
use Rattle.version_words.specs.Views.{WasSeen}

pub prefix_self : {A : Type 0} (xs : List A) → IsPrefix xs xs
prefix_self xs = ([], append-nil xs)

pub prefix_trans : {A : Type 0} (xs ys zs : List A) → IsPrefix xs ys → IsPrefix ys zs → IsPrefix xs zs
prefix_trans xs ys zs p q = (p.0 ++ q.0, sym (append_assoc xs p.0 q.0) ∙ (ap (λ w. w ++ q.0) p.1 ∙ q.1))

-- a log that begins with another begins with each beginning of it, also behind one event more
pub prefix_last : {A : Type 0} (xs before ys : List A) (e : A) → IsPrefix xs before → ys ≡ before ++ e ∷ [] → IsPrefix xs ys
prefix_last xs before ys e p is = prefix_trans xs before ys p (e ∷ [], sym is)

-- of two beginnings of one list one begins the other
pub one_begins : {A : Type 0} (xs ys zs : List A) → IsPrefix xs zs → IsPrefix ys zs → IsPrefix xs ys ⊎ IsPrefix ys xs
one_begins [] ys zs p q = inl (ys, refl)
one_begins (x ∷ xs) [] zs p q = inr (x ∷ xs, refl)
one_begins (x ∷ xs) (y ∷ ys) [] p q = absurd (cc p.1)
one_begins {A} (x ∷ xs) (y ∷ ys) (z ∷ zs) p q = longer (one_begins xs ys zs (p.0, (let e = p.1 in cc)) (q.0, (let e = q.1 in cc)))
  where
    heads : x ≡ y
    heads = let e : x ∷ (xs ++ p.0) ≡ z ∷ zs = p.1 in let f : y ∷ (ys ++ q.0) ≡ z ∷ zs = q.1 in cc

    longer : IsPrefix xs ys ⊎ IsPrefix ys xs → IsPrefix (x ∷ xs) (y ∷ ys) ⊎ IsPrefix (y ∷ ys) (x ∷ xs)
    longer (inl r) = inl (r.0, let e = r.1 in cc heads)
    longer (inr r) = inr (r.0, let e = r.1 in cc heads)

module _ {K V : Type 0} where
  pub names_grow : (xs ys : List (Event K V)) → IsPrefix xs ys → names_of xs ≤ names_of ys
  names_grow xs ys p = omega (arith, sym (ap names_of p.1) ∙ names-append xs p.0)

  pub passes_grow : (xs ys : List (Event K V)) → IsPrefix xs ys → passes_of xs ≤ passes_of ys
  passes_grow xs ys p = omega (arith, sym (ap passes_of p.1) ∙ passes-append xs p.0)

module _ {K V : Type 0} (ek : K → List ℕ) (ev : V → List ℕ) (l : Limits) where
  pub value_bucket : (log : List (Event K V)) (b : ℕ) → b < l.buckets → value_of ek ev l log b ≡ word ek l.buckets log b
  value_bucket log b lt = let is : ltb b l.buckets ≡ true = grind (arith, nat_tests) in rw is

  pub value_names : (log : List (Event K V)) → value_of ek ev l log l.buckets ≡ names_of log
  value_names log =
      let past : ltb l.buckets l.buckets ≡ false = grind (arith, nat_tests) in
      let is : (l.buckets == l.buckets) ≡ true = grind (arith, nat_tests) in
      rw (past, is)

  pub value_passes : (log : List (Event K V)) → value_of ek ev l log (l.buckets + 1) ≡ passes_of log
  value_passes log =
      let past : ltb (l.buckets + 1) l.buckets ≡ false = grind (arith, nat_tests) in
      let is : ((l.buckets + 1) == l.buckets) ≡ false = grind (arith, nat_tests) in
      rw (past, is)

  pub lawful_prefix : (front log : List (Event K V)) → IsLawful ek ev l log → IsPrefix front log → IsLawful ek ev l front
  lawful_prefix front log lawful pre = lawful_begin ek ev l [] front pre.0 (subst (λ (w : List (Event K V)). IsLawful ek ev l w) (sym pre.1) lawful)

  pub lawful_before : (before log : List (Event K V)) (e : Event K V) → IsLawful ek ev l log → log ≡ before ++ e ∷ [] → IsLawful ek ev l before
  lawful_before before log e lawful is = lawful_prefix before log lawful (e ∷ [], sym is)

  -- a word that was seen in a bucket has a name that was drawn
  pub seen_below : (front : List (Event K V)) (b old : ℕ) → IsLawful ek ev l front → WasSeen ek l.buckets front b old → name_of old ≤ names_of front
  seen_below front b old lawful seen =
      let below = words_below ek ev l seen.0 b (lawful_prefix seen.0 front lawful seen.1) in
      let is : name_of (word ek l.buckets seen.0 b) ≡ name_of old = ap name_of seen.2 in
      omega (arith, names_grow seen.0 front seen.1, below, is)

  pub seen_later : (front log : List (Event K V)) (b old : ℕ) → IsPrefix front log → WasSeen ek l.buckets front b old → WasSeen ek l.buckets log b old
  seen_later front log b old pre seen = (seen.0, prefix_trans seen.0 front log seen.1 pre, seen.2)

  -- a name that wasn't drawn has no naming
  pub naming_none : (log : List (Event K V)) (n : ℕ) → IsLawful ek ev l log → names_of log < n → naming log n ≡ None
  naming_none log n lawful lt = by (naming log n) refl
    where
      by : (o : Option (ℕ × List (K × V))) → naming log n ≡ o → o ≡ None
      by None is = refl
      by (Some t) is =
          let below = names_below ek ev l log lawful n t.0 (ap (λ (o : Option (ℕ × List (K × V))). option_map (λ t. t.0) o) is) in
          absurd (omega (arith, below.1))

  -- the contents of a name that was drawn stay
  pub contents_kept : (front log : List (Event K V)) (n b : ℕ) → IsLawful ek ev l log → IsPrefix front log → IsDrawn front n b → contents log n ≡ contents front n
  contents_kept front log n b lawful pre drawn =
      let below = names_below ek ev l front (lawful_prefix front log lawful pre) n b drawn in
      ap pairs_of (naming_kept ek ev l front log n lawful pre below.1)

  -- and so do those of a word that was seen
  pub seen_kept : (front log : List (Event K V)) (b w : ℕ) → IsLawful ek ev l log → IsPrefix front log → WasSeen ek l.buckets front b w → contents log (name_of w) ≡ contents front (name_of w)
  seen_kept front log b w lawful pre seen =
      ap pairs_of (naming_kept ek ev l front log (name_of w) lawful pre (seen_below front b w (lawful_prefix front log lawful pre) seen))
