-- A word that was replaced, or whose name's right is shut, never stands in its bucket again.
use Rattle.std.proofs.Common.{◌≡◌, ◌≢◌, ℕ, ◌+◌, ◌^◌, ◌<◌, ◌==◌, Bool, true, false, if◌then◌else◌, List, [], ◌∷◌, ◌++◌, Option, Some, None, refl, ap, sym, ◌∙◌, arith}
use Rattle.std.proofs.lemmas.Bool.Decides.{nat_tests}
use Rattle.std.specs.List.{fold}
use mathlib.Core.List.{IsPrefix}
use Rattle.far_object.specs.Buckets.{bucket}
use Rattle.table_core.specs.declared.event.Event.{Event}
use Rattle.table_core.specs.declared.event.Event.TheVariants.{Enter, Named, Done, Moved}
use Rattle.table_core.specs.declared.operation.Operation.{Operation}
use Rattle.table_core.specs.declared.limits.Limits.{Limits}
use Rattle.table_core.specs.BucketWords.{name_of, pack}
use Rattle.table_core.specs.Maps.{key_of}
use Rattle.table_core.specs.Logs.{installed, replaced, word}
use Rattle.table_core.specs.Lawful.{MayFollow, IsLawful}
use Rattle.table_core.proofs.Logs.{word-more, prefix_keeps}
use Rattle.version_words.specs.Boards.{total, hit}
use Rattle.version_words.specs.Tallies.{installs_in}
use Rattle.version_words.specs.Views.{IsGone, installing, IsOfBucket}

pub name_of-pack : (n p : ℕ) → p < 2 ^ 24 → name_of (pack n p) ≡ n
name_of-pack n p lt = omega arith

module _ {K V : Type 0} (ek : K → List ℕ) (ev : V → List ℕ) (l : Limits) where
  -- the names of the words of a bucket rise
  words_rise : (front log : List (Event K V)) (b n : ℕ) → IsLawful ek ev l log → IsPrefix front log → n < name_of (word ek l.buckets front b) → n < name_of (word ek l.buckets log b)
  words_rise front log b n lawful pre lt = prefix_keeps ek ev l (λ xs. n < name_of (word ek l.buckets xs b)) more front log lawful pre lt
    where
      more : (xs : List (Event K V)) (e : Event K V) → n < name_of (word ek l.buckets xs b) → MayFollow ek ev l xs e → n < name_of (word ek l.buckets (xs ++ e ∷ []) b)
      more xs e lt may = rw (word-more ek ev l xs e b) (by (installed ek l.buckets e) refl)
        where
          by : (o : Option (ℕ × ℕ)) → installed ek l.buckets e ≡ o → n < name_of (replaced b (word ek l.buckets xs b) o)
          by None is = lt
          by (Some t) is = at (t.0 == b) refl
            where
              newer : name_of (word ek l.buckets xs t.0) < name_of t.1
              newer = rw is at may.newer

              at : (q : Bool) → (t.0 == b) ≡ q → n < name_of (if q then t.1 else word ek l.buckets xs b)
              at true same = let here : t.0 ≡ b = grind (arith, nat_tests) in omega (arith, lt, newer, ap (λ (x : ℕ). name_of (word ek l.buckets xs x)) here)
              at false same = lt

  -- the word that an install leaves in its bucket
  pub installed_word : (before log : List (Event K V)) (b w pass : ℕ) (o : Option (Operation K V)) → IsOfBucket ek l.buckets b o → log ≡ before ++ installing pass b w o ∷ [] → word ek l.buckets log b ≡ w
  installed_word before log b w pass (Some o) key is =
      let yes : (bucket ek l.buckets (key_of o) == b) ≡ true = grind (arith, nat_tests) in
      ap (λ (xs : List (Event K V)). word ek l.buckets xs b) is ∙ (word-more ek ev l before (Done pass o (Some w)) b ∙ rw yes)
  installed_word before log b w pass None key is =
      let yes : (b == b) ≡ true = grind (arith, nat_tests) in
      ap (λ (xs : List (Event K V)). word ek l.buckets xs b) is ∙ (word-more ek ev l before (Moved b w) b ∙ rw yes)

  -- a call without a word leaves the words
  pub checked_word : (before log : List (Event K V)) (b pass : ℕ) (o : Operation K V) → log ≡ before ++ Done pass o None ∷ [] → word ek l.buckets log b ≡ word ek l.buckets before b
  checked_word before log b pass o is = ap (λ (xs : List (Event K V)). word ek l.buckets xs b) is ∙ word-more ek ev l before (Done pass o None) b

  -- a word below the one that stands there is gone for good
  pub old_gone : (log : List (Event K V)) (b old w : ℕ) → word ek l.buckets log b ≡ w → name_of old < name_of w → IsGone ek ev l log b old
  old_gone log b old w is newer later lawful pre same =
      let rises : name_of old < name_of (word ek l.buckets later b) = words_rise log later b (name_of old) lawful pre (omega (arith, ap name_of is)) in
      omega (arith, ap name_of same)

  -- a word that stands in a bucket was installed
  was_installed : (log : List (Event K V)) (x b w k : ℕ) → fold (λ y e. replaced b y (installed ek l.buckets e)) x log ≡ w → x ≢ w → k + 1 ≡ name_of w → 0 < total installs_in log k
  was_installed [] x b w k is other key = absurd (other is)
  was_installed (e ∷ log) x b w k is other key = at (replaced b x (installed ek l.buckets e) == w) refl (λ apart. was_installed log (replaced b x (installed ek l.buckets e)) b w k is apart key)
    where
      one : (e : Event K V) → replaced b x (installed ek l.buckets e) ≡ w → installs_in e k ≡ 1
      one (Enter p) now = absurd (other now)
      one (Named n c es) now = absurd (other now)
      one (Done p o None) now = absurd (other now)
      one (Done p o (Some v)) now = by (bucket ek l.buckets (key_of o) == b) now
        where
          by : (q : Bool) → (if q then v else x) ≡ w → hit (name_of v == k + 1) ≡ 1
          by true is = let same : name_of v ≡ k + 1 = ap name_of is ∙ sym key in let yes : (name_of v == k + 1) ≡ true = grind (arith, nat_tests) in ap hit yes
          by false is = absurd (other is)
      one (Moved c v) now = by (c == b) now
        where
          by : (q : Bool) → (if q then v else x) ≡ w → hit (name_of v == k + 1) ≡ 1
          by true is = let same : name_of v ≡ k + 1 = ap name_of is ∙ sym key in let yes : (name_of v == k + 1) ≡ true = grind (arith, nat_tests) in ap hit yes
          by false is = absurd (other is)

      at : (q : Bool) → (replaced b x (installed ek l.buckets e) == w) ≡ q → (replaced b x (installed ek l.buckets e) ≢ w → 0 < total installs_in log k) → 0 < installs_in e k + total installs_in log k
      at true same later = let now : replaced b x (installed ek l.buckets e) ≡ w = grind (arith, nat_tests) in omega (arith, one e now)
      at false same later = let apart : replaced b x (installed ek l.buckets e) ≢ w = grind (arith, nat_tests) in omega (arith, later apart)

  -- a word whose name was never installed stands in no bucket
  pub never_stands : (log : List (Event K V)) (b w k : ℕ) → total installs_in log k ≡ 0 → k + 1 ≡ name_of w → word ek l.buckets log b ≢ w
  never_stands log b w k none key is =
      let other : 0 ≢ w = λ e. let zero_name : name_of w ≡ 0 = ap name_of (sym e) in omega (arith, key, zero_name) in
      omega (arith, none, was_installed log 0 b w k is other key)
