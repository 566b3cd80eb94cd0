use Rattle.std.proofs.Common.{ap, sym, ◌∙◌}
use Rattle.version_words.proofs.Calling.{still_pass, pass_goes}
use Rattle.version_words.proofs.Fronts.{prefix_self, value_bucket}
use Rattle.version_words.proofs.words.Words.look.Goals as goal

pub invariant_of-pass : goal.invariant_of-pass
invariant_of-pass g c =
    let e = c.look_at.ensures in
    still_pass g.J.Naming.names c.pass.inside.mark c.look_at.new.mark c.pass.inside.number c.pass.inside.tally.board c.look_at.new.pass.board c.pass.inside.tally.slot c.look_at.new.pass.slot c.pass.invariant e.grows e.boards.0 (ap (λ s. s.held) e.slots.0) (ap (λ s. s.key) e.slots.0) e.counts.0

pub returns-clause-pass : goal.returns-clause-pass
returns-clause-pass g c =
    let e = c.look_at.ensures in
    rw (← c.pass.view_is) (pass_goes g.J.Naming.names c.pass.inside.mark c.look_at.new.mark c.pass.inside.number c.pass.inside.tally.board c.pass.inside.tally.slot c.look_at.new.pass.slot c.pass.invariant e.grows e.slots.0 e.counts.0)

pub returns-clause-seen : goal.returns-clause-seen
returns-clause-seen g c =
    let e = c.look_at.ensures in
    let is = e.value ∙ value_bucket g.K.FarObject.enc g.V.FarObject.enc g.J.Naming.limits c.look_at.new.mark c.args.b c.requires.bucket in
    (c.look_at.new.mark, prefix_self c.look_at.new.mark, sym is)
