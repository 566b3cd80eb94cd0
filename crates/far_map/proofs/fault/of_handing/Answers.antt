use Rattle.far_object.specs.Encodings.{enc_text}
use Rattle.hash_table.specs.Closes.{IsHandFault}
use Rattle.hash_table.specs.declared.close_through.HandFault.TheVariants.{Close}
use Rattle.far_map.proofs.Working.{handing_fault}
use Rattle.far_map.proofs.fault.of_handing.Goals as goal

pub returns-in-Close : goal.returns-in-Close
returns-in-Close g c =
    λ n old new h.
    let k : IsHandFault enc_text g.V.FarObject.enc g.J.Naming.limits g.T.TakesPairs.takes g.T.TakesPairs.stops old new n (Close c.in-Close.fault) = rw c.in-Close.is at h in
    handing_fault g.T.TakesPairs.takes g.T.TakesPairs.stops g.J.Naming.limits.honest old new c.of_closing.result (c.of_closing.ensures n k.0) k.1
