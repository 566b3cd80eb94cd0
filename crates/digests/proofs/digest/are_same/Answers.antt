use Rattle.std.proofs.Common.{◌≡◌, ℕ, List, length, Bool, true, false, IsTrue, ◌∙◌}
use Rattle.std.specs.Bool.{OnTrue}
use Rattle.std.specs.declared.random_state.RandomState.{RandomState}
use Rattle.digests.specs.Collisions.{WasCompared, was_compared, nothing_collided, unless_collided}
use Rattle.digests.specs.Digests.{digest_under}
use Rattle.digests.proofs.digest.are_same.Goals as goal

same : (result : Bool) (keys : RandomState) (written given : List ℕ) (len digest : ℕ) → len ≡ length written → digest ≡ digest_under keys written → WasCompared keys written given → OnTrue result ((length given ≡ len) × (digest_under keys given ≡ digest)) → IsTrue nothing_collided → OnTrue result (given ≡ written)
same true keys written given len digest long digested compared alike then = unless_collided keys written given compared (alike.0 ∙ long) (alike.1 ∙ digested) then
same false keys written given len digest long digested compared alike then = tt

pub returns-clause-same : goal.returns-clause-same
returns-clause-same c =
    same c.are_alike.result c.args.keys.now c.args.written.now.value.items c.args.bytes.now c.args.len c.args.digest c.requires.long c.requires.digested (was_compared c.args.keys.now c.args.written.now.value.items c.args.bytes.now) c.are_alike.ensures
