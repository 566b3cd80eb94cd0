use Rattle.std.proofs.Common.{◌≡◌, true, ℕ, ◌<◌, slice_index}
use Rattle.far_server.proofs.login.are_same.Given as goal

abbrev pub invariant-loop-at : goal.invariant-loop-at
invariant-loop-at l = l.is_same ≡ true → (i : ℕ) → i < l.at → slice_index l.one i ≡ slice_index l.other i
