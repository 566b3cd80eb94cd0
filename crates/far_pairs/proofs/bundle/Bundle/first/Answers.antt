use Rattle.std.proofs.Common.{rules}
use Rattle.far_object.proofs.Reading.{no_fault}
use Rattle.far_pairs.proofs.Bundling.{first_is, within}
use Rattle.far_pairs.proofs.bundle.Bundle.first.Goals as goal

pub returns-in-Err-skip-clause-is : goal.returns-in-Err-skip-clause-is
returns-in-Err-skip-clause-is g c = λ e h.
    no_fault _ _ _ _ _ _ g.K.FarObject.laws g.V.FarObject.laws c.args.bytes.now e c.in-Ok.key c.in-Err-skip.field-0 h c.in-Ok.ensures c.in-Err-skip.ensures

pub returns-in-Ok-skip-clause-is : goal.returns-in-Ok-skip-clause-is
returns-in-Ok-skip-clause-is g c = λ e h.
    first_is _ _ _ _ _ _ g.K.FarObject.laws g.V.FarObject.laws c.args.bytes.now e c.in-Ok.key c.in-Ok-skip.value _ h c.in-Ok.ensures c.in-Ok-skip.ensures (search rules)

pub returns-in-Ok-skip-clause-within : goal.returns-in-Ok-skip-clause-within
returns-in-Ok-skip-clause-within g c =
    within _ _ _ _ _ _ g.K.FarObject.laws g.V.FarObject.laws c.args.bytes.now c.requires.0 c.in-Ok.key c.in-Ok-skip.value c.requires.1 c.in-Ok.ensures c.in-Ok-skip.ensures
