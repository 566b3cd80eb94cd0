-- Whether a digest collided.
use Rattle.std.specs.Prelude.{◌≡◌, ℕ, List, length, Bool, false, IsTrue}
use Rattle.std.specs.declared.random_state.RandomState.{RandomState}
use Rattle.digests.specs.Digests.{digest_under}

-- `are_same` compared the given bytes, with these keys, with the length and the digest of what was written.
-- It is opaque, so whoever promises it called `are_same`, or cites the lemma below.
pub WasCompared : RandomState → List ℕ → List ℕ → Type 0
WasCompared keys written given = Unit {0}

-- Only the proof of `are_same` may cite it. tests/facts.py refuses any other use.
pub was_compared : (keys : RandomState) (written given : List ℕ) → WasCompared keys written given
unfolding WasCompared
was_compared keys written given = tt

-- Whether all bytes that `are_same` found to have the length and the digest of what was written were
-- what was written. So it is true in each process in which no digest collided where it mattered.
--
-- No proof can know it. Its value below means nothing and is not used: it can't be unfolded outside
-- this file, and `unless_collided` needs evidence that only a comparison gives. So what is proved from
-- it holds of each process in which it is true.
pub nothing_collided : Bool
nothing_collided = false

-- what it says of each comparison
pub unless_collided : (keys : RandomState) (written given : List ℕ) → WasCompared keys written given → length given ≡ length written → digest_under keys given ≡ digest_under keys written → IsTrue nothing_collided → given ≡ written
unfolding nothing_collided
unless_collided keys written given compared long alike then = let no : ⊥ = cc in absurd no
