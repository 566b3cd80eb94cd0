use Rattle.std.proofs.Common.{◌≡◌, ◌+◌, List, ap, ◌∙◌, arith}
use Rattle.table_core.specs.Changes.{with_name}
use Rattle.table_core.specs.Logs.{names_of}
use Rattle.table_core.proofs.Standing.{named}
use Rattle.table_core.proofs.machine.Machine.follow_naming.Goals as goal

pub returns-clause-ok : goal.returns-clause-ok
returns-clause-ok g c = λ log s.
    let count = c.names.ensures log s in
    let next : c.args.name ≡ names_of log + 1 = omega arith in
    named g.K.FarObject.enc g.V.FarObject.enc c.args.self.now log s c.push_name.new.self c.args.name c.args.bucket c.args.pairs.now c.as_slice.result.now
    (c.in_ok-push_name.ensures.ok ∙ ap (λ (es : List (g.row.K.Denot × g.row.V.Denot)). with_name c.args.self.now c.args.bucket es) (c.new.ensures ∙ (c.in_ok-copies.ensures ∙ c.as_slice-2.ensures))) c.as_slice.ensures next (c.in_ok-judge_naming.ensures.ok log s)
