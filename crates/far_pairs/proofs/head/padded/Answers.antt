use Rattle.std.proofs.Common.{◌∙◌, ◌++◌, ◌∷◌, [], ap, arith, List, ℕ, drop, get_or}
use Rattle.far_pairs.proofs.Heads.{zeros_behind}
use Rattle.far_pairs.proofs.head.padded.Goals as goal

pub returns : goal.returns
returns c = λ i h.
    let count = c.min-count.result in
    let is = c.min-count.ensures in
    ap (λ (z : List ℕ). get_or (z ++ drop count (0 ∷ 0 ∷ 0 ∷ 0 ∷ 0 ∷ 0 ∷ 0 ∷ 0 ∷ 0 ∷ 0 ∷ 0 ∷ 0 ∷ 0 ∷ 0 ∷ 0 ∷ 0 ∷ [])) i 0) c.copy_from_slice.ensures.after
    ∙ zeros_behind c.args.bytes.now count 16 i (omega (arith, is)) (omega (arith, is)) (λ k. omega (arith, is, k)) h
