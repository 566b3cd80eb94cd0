use Rattle.std.proofs.Common.{◌≡◌, ◌∙◌, ◌<◌, get_or, ℕ, List, arith}
use Rattle.std.specs.Int.{w128, from_be_bytes}
use Rattle.far_pairs.specs.Heads.{spelled}
use Rattle.far_pairs.proofs.head.head_of.Goals as goal

-- a number that is read from bytes is what the same ones spell
read : (front bytes : List ℕ) (x : ℕ) → x ≡ from_be_bytes w128 front → ((i : ℕ) → i < 16 → get_or front i 0 ≡ get_or bytes i 0) → x ≡ spelled bytes 16
read front bytes x e at = e ∙ omega (arith, at 0 (omega arith), at 1 (omega arith), at 2 (omega arith), at 3 (omega arith), at 4 (omega arith), at 5 (omega arith), at 6 (omega arith), at 7 (omega arith), at 8 (omega arith), at 9 (omega arith), at 10 (omega arith), at 11 (omega arith), at 12 (omega arith), at 13 (omega arith), at 14 (omega arith), at 15 (omega arith))

pub returns : goal.returns
returns c = read c.padded.result c.args.bytes.now c.from_be_bytes.result c.from_be_bytes.ensures c.padded.ensures
