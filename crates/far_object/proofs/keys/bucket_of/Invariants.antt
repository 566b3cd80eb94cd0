use Rattle.std.proofs.Common.{◌≡◌, ◌*◌, drop}
use Rattle.std.specs.List.{fold}
use Rattle.far_object.specs.Buckets.{hash_of, hashed}
use Rattle.far_object.proofs.keys.bucket_of.Given as goal

abbrev pub invariant-loop-four : goal.invariant-loop-four
invariant-loop-four g l = fold hashed l.hash (drop (4 * l.four) (g.K.FarObject.enc l.key)) ≡ hash_of (g.K.FarObject.enc l.key)

abbrev pub invariant-loop-i : goal.invariant-loop-i
invariant-loop-i g l = fold hashed l.hash (drop l.i (g.K.FarObject.enc l.key)) ≡ hash_of (g.K.FarObject.enc l.key)
