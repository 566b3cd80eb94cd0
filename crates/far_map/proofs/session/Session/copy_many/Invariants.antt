use Rattle.std.proofs.Common.{◌≡◌, ◌≤◌, ◌++◌, ℕ, List, length}
use Rattle.std.specs.Prelude.{vec_len, vec_capacity}
use Rattle.far_map.specs.Many.{AreGot}
use Rattle.far_map.proofs.session.Session.copy_many.Given as goal

abbrev pub invariant-loop-key : goal.invariant-loop-key
invariant-loop-key g l = (done : List (List ℕ)) × (l.fn.keys ≡ done ++ l.rest) × (length done ≡ vec_len l.answers) × (length l.fn.keys ≤ vec_capacity l.answers) × AreGot g.V.FarObject.enc g.J.Naming.limits done l.answers.items l.fn.self l.self

abbrev pub decreases-loop-key : goal.decreases-loop-key
decreases-loop-key g l = length l.rest
