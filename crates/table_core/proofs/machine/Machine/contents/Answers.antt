use Rattle.std.proofs.Common.{◌∙◌}
use Rattle.table_core.proofs.Standing.{no_contents, none_named, contents_named}
use Rattle.table_core.proofs.machine.Machine.contents.Goals as goal

pub returns-then-name-eq0 : goal.returns-then-name-eq0
returns-then-name-eq0 g c = λ log s. no_contents g.K.FarObject.enc g.V.FarObject.enc c.args.self.now log s c.args.name c.if-name-eq0.true

pub returns-in-None : goal.returns-in-None
returns-in-None g c = λ log s. none_named g.K.FarObject.enc g.V.FarObject.enc c.args.self.now log s c.args.name c.if-name-eq0.false c.in-None.ensures

pub returns-in-Some : goal.returns-in-Some
returns-in-Some g c = λ log s.
    let p = contents_named g.K.FarObject.enc g.V.FarObject.enc c.args.self.now log s c.args.name c.in-Some.naming.now c.if-name-eq0.false c.in-Some.ensures in
    (p.0, c.as_slice.ensures ∙ p.1)
