-- What only an answer of `Reserved::fill` tells.
use Rattle.std.specs.Prelude.{ℕ}

-- the version of the bucket b and the name n was put into the frame. It is opaque: who promises it has had `fill` put it there, or cites the lemma below
pub WasFilled : ℕ → ℕ → ℕ → Type 0
WasFilled frame b n = Unit {0}

-- for the proof of `fill` alone. The kit lets no crate keep a lemma on its own definition to itself, so a reader of another crate's proofs looks that they don't cite it
pub was_filled : (frame b n : ℕ) → WasFilled frame b n
unfolding WasFilled
was_filled frame b n = tt
