-- Keys and values that are pushed, one after another.
use Rattle.std.proofs.Common.{◌≡◌, ◌<◌, ◌+◌, suc, ℕ, List, [], ◌∷◌, ◌++◌, length, take, slice_index_or, sym, ap, ◌∙◌, arith}
use Rattle.std.proofs.Math.Seq.{take-suc}
use Rattle.std.proofs.lemmas.List.{map-append}
use Rattle.std.proofs.lemmas.Grind.{flat_map-append}
use Rattle.std.specs.List.{flat_map}
use Rattle.std.specs.Prelude.{map}
use Rattle.resp.specs.Replies.{Token}

module _ {A : Type 0} (shown : A → Token) where
  -- the tokens up to the next one
  pub next_shown : (all : List A) (i : ℕ) (x : A) → i < length all → x ≡ slice_index_or all i x → map shown (take (i + 1) all) ≡ map shown (take i all) ++ shown x ∷ []
  next_shown all i x lt is =
      let next : i + 1 ≡ suc i = omega arith in
      ap (λ (n : ℕ). map shown (take n all)) next ∙ (ap (λ (xs : List A). map shown xs) (take-suc all i x lt)
      ∙ (map-append shown (take i all) (slice_index_or all i x ∷ []) ∙ ap (λ (y : A). map shown (take i all) ++ shown y ∷ []) (sym is)))
