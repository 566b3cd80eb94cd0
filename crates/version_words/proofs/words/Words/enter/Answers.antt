use Rattle.std.proofs.Common.{◌∙◌, ◌+◌, ◌≤◌, sym, ap, arith}
use Rattle.version_words.proofs.Calling.{new_pass}
use Rattle.version_words.proofs.Drawing.{spent_passes, more_passes}
use Rattle.version_words.proofs.Fronts.{value_passes}
use Rattle.version_words.proofs.Writing.{can_enter}
use Rattle.version_words.specs.Faults.{was_passed_over}
use Rattle.version_words.proofs.words.Words.enter.Goals as goal

pub returns-then-drawn-from-clause-fault : goal.returns-then-drawn-from-clause-fault
returns-then-drawn-from-clause-fault g c =
    let s = c.args.self.now.sizes_are in
    let le : g.J.Naming.limits.passes ≤ c.look_at-drawn.result = omega arith in
    (c.look_at-drawn.ensures.lawful, spent_passes g.K.FarObject.enc g.V.FarObject.enc g.J.Naming.limits c.look_at-drawn.new.mark c.look_at-drawn.result c.look_at-drawn.ensures.lawful (rw s.0 at c.look_at-drawn.ensures.value) le)

pub step-requires-clause-can : goal.step-requires-clause-can
step-requires-clause-can g c =
    let s = c.args.self.now.sizes_are in
    rw s.0 (can_enter g.K.FarObject.enc g.V.FarObject.enc g.J.Naming.limits c.look_at-drawn.new.mark c.look_at-drawn.result (omega arith))

pub returns-then-not-step-clause-fault : goal.returns-then-not-step-clause-fault
returns-then-not-step-clause-fault g c =
    let s = c.args.self.now.sizes_are in
    (c.step.ensures.lawful, more_passes g.K.FarObject.enc g.V.FarObject.enc g.J.Naming.limits c.look_at-drawn.new.mark c.step.new.mark c.look_at-drawn.result (rw s.0 at c.look_at-drawn.ensures.value) c.step.ensures.grows (rw s.0 at c.if-not-step.ensures.done), was_passed_over c.step.new.mark)

pub invariant_of-result : goal.invariant_of-result
invariant_of-result g c =
    let s = c.args.self.now.sizes_are in
    let e = c.if-not-step.ensures in
    let a = e.done in
    let was = sym (value_passes g.K.FarObject.enc g.V.FarObject.enc g.J.Naming.limits a.0) ∙ (rw s.0 at a.3) in
    let new = new_pass g.J.Naming.names a.0 c.step.new.mark (c.look_at-drawn.result + 1) c.step.new.pass.board c.step.new.pass.slot (ap (λ n. n + 1) was) a.1 e.boards.0 e.slots.0 e.counts.0 in
    new.0

pub returns-clause-no_calls : goal.returns-clause-no_calls
returns-clause-no_calls g c =
    let s = c.args.self.now.sizes_are in
    let e = c.if-not-step.ensures in
    let a = e.done in
    let was = sym (value_passes g.K.FarObject.enc g.V.FarObject.enc g.J.Naming.limits a.0) ∙ (rw s.0 at a.3) in
    let new = new_pass g.J.Naming.names a.0 c.step.new.mark (c.look_at-drawn.result + 1) c.step.new.pass.board c.step.new.pass.slot (ap (λ n. n + 1) was) a.1 e.boards.0 e.slots.0 e.counts.0 in
    new.1
