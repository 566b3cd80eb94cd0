use Rattle.std.proofs.Common.{ap, sym, ◌∙◌, ◌≡◌}
use Rattle.version_words.proofs.Calling.{still_pass, pass_goes, pass_calls}
use Rattle.version_words.proofs.Fronts.{prefix_self, value_bucket}
use Rattle.version_words.proofs.Gone.{checked_word}
use Rattle.version_words.proofs.Probing.{can_probe}
use Rattle.version_words.proofs.words.Words.check.Goals as goal

pub step-requires-clause-can : goal.step-requires-clause-can
step-requires-clause-can g c =
    let front : c.pass.inside.mark ≡ c.args.pass.now.front = ap (λ p. p.front) c.pass.view_is in
    can_probe g.K.FarObject.enc g.V.FarObject.enc g.J.Naming.limits c.pass.inside.mark c.args.b c.args.old c.pass.inside.number c.args.probe.now c.requires.bucket.0 c.requires.bucket.1 c.pass.invariant.first c.pass.invariant.last (rw front c.requires.seen) (rw front c.requires.nothing)

pub invariant_of-pass : goal.invariant_of-pass
invariant_of-pass g c =
    let e = c.if-not-step.ensures in
    still_pass g.J.Naming.names c.pass.inside.mark c.step.new.mark c.pass.inside.number c.pass.inside.tally.board c.step.new.pass.board c.pass.inside.tally.slot c.step.new.pass.slot c.pass.invariant e.grows e.boards.0 (ap (λ s. s.held) e.slots.0) (ap (λ s. s.key) e.slots.0) e.counts.0

pub returns-then-not-step-clause-pass : goal.returns-then-not-step-clause-pass
returns-then-not-step-clause-pass g c =
    let e = c.if-not-step.ensures in
    rw (← c.pass.view_is) (pass_goes g.J.Naming.names c.pass.inside.mark c.step.new.mark c.pass.inside.number c.pass.inside.tally.board c.pass.inside.tally.slot c.step.new.pass.slot c.pass.invariant e.grows e.slots.0 e.counts.0)

pub invariant_of-pass-2 : goal.invariant_of-pass-2
invariant_of-pass-2 g c =
    let e = c.if-not-step.ensures in
    still_pass g.J.Naming.names c.pass.inside.mark c.step.new.mark c.pass.inside.number c.pass.inside.tally.board c.step.new.pass.board c.pass.inside.tally.slot c.step.new.pass.slot c.pass.invariant e.grows e.boards.0 (ap (λ s. s.held) e.slots.0) (ap (λ s. s.key) e.slots.0) e.counts.0

pub returns-clause-pass : goal.returns-clause-pass
returns-clause-pass g c =
    let e = c.if-not-step.ensures in
    let a = e.done in
    rw (← c.pass.view_is) (pass_calls g.J.Naming.names _ _ c.pass.inside.mark a.0 c.step.new.mark c.pass.inside.number c.pass.inside.tally.board c.pass.inside.tally.slot c.step.new.pass.slot c.pass.invariant a.2 a.1 e.slots.0 e.counts.0)

pub returns-clause-seen : goal.returns-clause-seen
returns-clause-seen g c =
    let a = c.if-not-step.ensures.done in
    let was = sym (value_bucket g.K.FarObject.enc g.V.FarObject.enc g.J.Naming.limits a.0 c.args.b c.requires.bucket.0) ∙ a.3 in
    (c.step.new.mark, prefix_self c.step.new.mark, checked_word g.K.FarObject.enc g.V.FarObject.enc g.J.Naming.limits a.0 c.step.new.mark c.args.b c.pass.inside.number _ a.1 ∙ was)
