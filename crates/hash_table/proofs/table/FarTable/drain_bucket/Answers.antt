use Rattle.std.proofs.Common.{◌∙◌, sym}
use Rattle.table_core.specs.BucketWords.{name_of}
use Rattle.table_core.specs.Logs.{contents}
use Rattle.hash_table.proofs.Ends.{part}
use Rattle.hash_table.proofs.Refused.{map_at}
use Rattle.hash_table.proofs.Drains.{adds_none, adds_as}
use Rattle.hash_table.proofs.table.FarTable.drain_bucket.Goals as goal

pub returns-in-Nothing-clause-added : goal.returns-in-Nothing-clause-added
returns-in-Nothing-clause-added g c =
    let e = c.look-word.ensures in
    let front = c.look-word.new.pass.front in
    adds_none g.J.Naming.limits.honest (part g.K.FarObject.enc g.V.FarObject.enc g.J.Naming.limits front c.args.bucket) c.args.rest.now
    (λ honest.
    let none = c.empty_holds.ensures g.J.Naming.limits front c.args.bucket c.look-word.result honest e.lawful e.seen c.in-Nothing.ensures in
    sym none ∙ map_at g.K.FarObject.enc g.V.FarObject.enc g.J.Naming.limits front c.args.bucket c.look-word.result honest e.lawful e.word)

pub returns-in-Ok-clause-added : goal.returns-in-Ok-clause-added
returns-in-Ok-clause-added g c =
    let e = c.look-word.ensures in
    let front = c.look-word.new.pass.front in
    adds_as g.J.Naming.limits.honest (contents front (name_of c.look-word.result)) (part g.K.FarObject.enc g.V.FarObject.enc g.J.Naming.limits front c.args.bucket) c.args.rest.now c.drain_frame.new.rest
    (λ honest. map_at g.K.FarObject.enc g.V.FarObject.enc g.J.Naming.limits front c.args.bucket c.look-word.result honest e.lawful e.word)
    c.in-Ok.ensures.added

pub returns-in-Ok-drain_device-clause-added : goal.returns-in-Ok-drain_device-clause-added
returns-in-Ok-drain_device-clause-added g c =
    let e = c.look-word.ensures in
    let front = c.look-word.new.pass.front in
    adds_as g.J.Naming.limits.honest (contents front (name_of c.look-word.result)) (part g.K.FarObject.enc g.V.FarObject.enc g.J.Naming.limits front c.args.bucket) c.args.rest.now c.drain_device.new.rest
    (λ honest. map_at g.K.FarObject.enc g.V.FarObject.enc g.J.Naming.limits front c.args.bucket c.look-word.result honest e.lawful e.word)
    c.in-Ok-drain_device.ensures.added
