-- Keys that are told, one after another.
use Rattle.std.proofs.Common.{◌≡◌, ◌<◌, ◌+◌, suc, ℕ, List, [], ◌∷◌, ◌++◌, length, take, slice_index_or, sym, ap, ◌∙◌, arith}
use Rattle.std.proofs.Math.Seq.{take-suc}
use Rattle.std.proofs.lemmas.List.{map-append}
use Rattle.far_server.specs.Lists.{told_key, told_keys}

-- the keys up to the next one
pub next_told : (keys : List (List ℕ)) (i : ℕ) (key : List ℕ) → i < length keys → key ≡ slice_index_or keys i key
    → told_keys (take (i + 1) keys) ≡ told_keys (take i keys) ++ told_key key ∷ []
next_told keys i key lt is =
    let next : i + 1 ≡ suc i = omega arith in
    ap (λ (n : ℕ). told_keys (take n keys)) next ∙ (ap told_keys (take-suc keys i key lt)
    ∙ (map-append told_key (take i keys) (slice_index_or keys i key ∷ []) ∙ ap (λ (k : List ℕ). told_keys (take i keys) ++ told_key k ∷ []) (sym is)))
