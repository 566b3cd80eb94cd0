use Rattle.std.proofs.Common.{◌∙◌, ◌+◌, ◌≤◌, ◌<◌, ap, arith}
use Rattle.version_words.proofs.Calling.{still_pass, pass_goes}
use Rattle.version_words.proofs.Drawing.{spent_names, more_names, new_name, new_right, newer_than}
use Rattle.version_words.proofs.Fronts.{prefix_trans}
use Rattle.version_words.proofs.Writing.{can_name}
use Rattle.version_words.specs.Faults.{was_overtaken}
use Rattle.version_words.proofs.words.Words.name.Goals as goal

pub invariant_of-pass : goal.invariant_of-pass
invariant_of-pass g c =
    let e = c.look_to_write-drawn.ensures in
    still_pass g.J.Naming.names c.pass.inside.mark c.look_to_write-drawn.new.mark c.pass.inside.number c.pass.inside.tally.board c.look_to_write-drawn.new.pass.board c.pass.inside.tally.slot c.look_to_write-drawn.new.pass.slot c.pass.invariant e.grows e.boards.0 (ap (λ s. s.held) e.slots.0) (ap (λ s. s.key) e.slots.0) e.counts.0

pub returns-then-drawn-self-clause-pass : goal.returns-then-drawn-self-clause-pass
returns-then-drawn-self-clause-pass g c =
    let e = c.look_to_write-drawn.ensures in
    rw (← c.pass.view_is) (pass_goes g.J.Naming.names c.pass.inside.mark c.look_to_write-drawn.new.mark c.pass.inside.number c.pass.inside.tally.board c.pass.inside.tally.slot c.look_to_write-drawn.new.pass.slot c.pass.invariant e.grows e.slots.0 e.counts.0)

pub returns-then-drawn-self-clause-fault : goal.returns-then-drawn-self-clause-fault
returns-then-drawn-self-clause-fault g c =
    let s = c.args.self.now.sizes_are in
    let le : g.J.Naming.limits.names ≤ c.look_to_write-drawn.result = omega arith in
    spent_names g.K.FarObject.enc g.V.FarObject.enc g.J.Naming.limits c.look_to_write-drawn.new.mark c.look_to_write-drawn.result c.look_to_write-drawn.ensures.lawful (rw s.0 at c.look_to_write-drawn.ensures.value) le

pub step-requires-clause-can : goal.step-requires-clause-can
step-requires-clause-can g c =
    let s = c.args.self.now.sizes_are in
    rw s.0 (can_name g.K.FarObject.enc g.V.FarObject.enc g.J.Naming.limits c.look_to_write-drawn.new.mark c.look_to_write-drawn.result c.args.b c.args.object.now (omega arith) c.requires.bucket
    (λ honest. record { here = c.requires.keys honest; rising = let map = c.as_bytes.ensures.map in map.rising }))

pub invariant_of-pass-then-not-step : goal.invariant_of-pass-then-not-step
invariant_of-pass-then-not-step g c =
    let look = c.look_to_write-drawn.ensures in
    let e = c.if-not-step.ensures in
    let grows = prefix_trans c.pass.inside.mark c.look_to_write-drawn.new.mark c.step.new.mark look.grows e.grows in
    let same = e.slots.0 ∙ look.slots.0 in
    still_pass g.J.Naming.names c.pass.inside.mark c.step.new.mark c.pass.inside.number c.pass.inside.tally.board c.step.new.pass.board c.pass.inside.tally.slot c.step.new.pass.slot c.pass.invariant grows e.boards.0 (ap (λ s. s.held) same) (ap (λ s. s.key) same) e.counts.0

pub returns-then-not-step-clause-pass : goal.returns-then-not-step-clause-pass
returns-then-not-step-clause-pass g c =
    let look = c.look_to_write-drawn.ensures in
    let e = c.if-not-step.ensures in
    let grows = prefix_trans c.pass.inside.mark c.look_to_write-drawn.new.mark c.step.new.mark look.grows e.grows in
    rw (← c.pass.view_is) (pass_goes g.J.Naming.names c.pass.inside.mark c.step.new.mark c.pass.inside.number c.pass.inside.tally.board c.pass.inside.tally.slot c.step.new.pass.slot c.pass.invariant grows (e.slots.0 ∙ look.slots.0) e.counts.0)

pub returns-then-not-step-clause-fault : goal.returns-then-not-step-clause-fault
returns-then-not-step-clause-fault g c =
    let s = c.args.self.now.sizes_are in
    rw (← c.pass.view_is) (more_names g.K.FarObject.enc g.V.FarObject.enc g.J.Naming.limits c.pass.inside.mark c.look_to_write-drawn.new.mark c.step.new.mark c.look_to_write-drawn.result c.look_to_write-drawn.ensures.grows (rw s.0 at c.look_to_write-drawn.ensures.value) c.step.ensures.grows (rw s.0 at c.if-not-step.ensures.done), was_overtaken c.step.new.mark)

pub invariant_of-result : goal.invariant_of-result
invariant_of-result g c =
    let s = c.args.self.now.sizes_are in
    let e = c.if-not-step.ensures in
    let within = c.args.self.now.within in
    let new = new_name g.K.FarObject.enc g.V.FarObject.enc g.J.Naming.limits c.look_to_write-drawn.new.mark c.step.new.mark c.look_to_write-drawn.result c.args.b c.args.object.now c.requires.bucket within.2 e.lawful (rw s.0 at e.done) in
    let some : 0 < c.look_to_write-drawn.result + 1 = omega arith in
    (rw c.again.ensures.same new.0, new_right g.J.Naming.names (c.look_to_write-drawn.result + 1) c.step.new.name.board c.step.new.name.slot some e.boards.1 e.slots.1)

pub invariant_of-pass-2 : goal.invariant_of-pass-2
invariant_of-pass-2 g c =
    let look = c.look_to_write-drawn.ensures in
    let e = c.if-not-step.ensures in
    let grows = prefix_trans c.pass.inside.mark c.look_to_write-drawn.new.mark c.step.new.mark look.grows e.grows in
    let same = e.slots.0 ∙ look.slots.0 in
    still_pass g.J.Naming.names c.pass.inside.mark c.step.new.mark c.pass.inside.number c.pass.inside.tally.board c.step.new.pass.board c.pass.inside.tally.slot c.step.new.pass.slot c.pass.invariant grows e.boards.0 (ap (λ s. s.held) same) (ap (λ s. s.key) same) e.counts.0

pub returns-clause-pass : goal.returns-clause-pass
returns-clause-pass g c =
    let look = c.look_to_write-drawn.ensures in
    let e = c.if-not-step.ensures in
    let grows = prefix_trans c.pass.inside.mark c.look_to_write-drawn.new.mark c.step.new.mark look.grows e.grows in
    rw (← c.pass.view_is) (pass_goes g.J.Naming.names c.pass.inside.mark c.step.new.mark c.pass.inside.number c.pass.inside.tally.board c.pass.inside.tally.slot c.step.new.pass.slot c.pass.invariant grows (e.slots.0 ∙ look.slots.0) e.counts.0)

pub returns-clause-contents : goal.returns-clause-contents
returns-clause-contents g c =
    let s = c.args.self.now.sizes_are in
    let e = c.if-not-step.ensures in
    let within = c.args.self.now.within in
    let new = new_name g.K.FarObject.enc g.V.FarObject.enc g.J.Naming.limits c.look_to_write-drawn.new.mark c.step.new.mark c.look_to_write-drawn.result c.args.b c.args.object.now c.requires.bucket within.2 e.lawful (rw s.0 at e.done) in
    rw c.again.ensures.same new.1

pub returns-clause-drawn : goal.returns-clause-drawn
returns-clause-drawn g c =
    let look = c.look_to_write-drawn.ensures in
    let a = c.if-not-step.ensures.done in
    rw (← c.pass.view_is, c.again.ensures.same) (a.0, a.1, prefix_trans c.pass.inside.mark c.look_to_write-drawn.new.mark a.0 look.grows a.2)

pub returns-clause-newer : goal.returns-clause-newer
returns-clause-newer g c = λ w seen.
    let s = c.args.self.now.sizes_are in
    newer_than g.K.FarObject.enc g.V.FarObject.enc g.J.Naming.limits c.pass.inside.mark c.look_to_write-drawn.new.mark c.look_to_write-drawn.result c.args.b w c.look_to_write-drawn.ensures.lawful c.look_to_write-drawn.ensures.grows (rw s.0 at c.look_to_write-drawn.ensures.value) (rw (← c.pass.view_is) at seen)

pub returns-clause-named : goal.returns-clause-named
returns-clause-named g c =
    let s = c.args.self.now.sizes_are in
    let e = c.if-not-step.ensures in
    let within = c.args.self.now.within in
    let new = new_name g.K.FarObject.enc g.V.FarObject.enc g.J.Naming.limits c.look_to_write-drawn.new.mark c.step.new.mark c.look_to_write-drawn.result c.args.b c.args.object.now c.requires.bucket within.2 e.lawful (rw s.0 at e.done) in
    rw c.again.ensures.same new.0
