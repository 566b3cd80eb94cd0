use Rattle.std.proofs.Common.{◌≡◌, ◌∙◌, ℕ, refl}
use Rattle.hash_table.proofs.Fronts.{goes_self, goes_trans}
use Rattle.hash_table.proofs.Refused.{undrawn_refused, undrawn_full, undrawn_of_swap_out, moved_seen}
use Rattle.hash_table.specs.Steps.{IsOnDevice}
use Rattle.hash_table.proofs.Steps.{moved_over, on_device, undrawn_swap_left}
use Rattle.hash_table.proofs.table.FarTable.publish_far.Goals as goal

pub returns-in_default-clause-goes : goal.returns-in_default-clause-goes
returns-in_default-clause-goes g c = goes_self c.args.caller.now.pass

pub returns-in-Err-clause-refused : goal.returns-in-Err-clause-refused
returns-in-Err-clause-refused g c = undrawn_refused g.K.FarObject.enc g.V.FarObject.enc g.J.Naming.limits c.args.b c.in-Err.refusal (goes_self c.args.caller.now.pass) c.draw.ensures.pass c.in-Err.ensures.why

pub returns-in-Err-clause-only : goal.returns-in-Err-clause-only
returns-in-Err-clause-only g c = undrawn_of_swap_out g.K.FarObject.enc g.V.FarObject.enc g.J.Naming.limits c.args.caller.now.pass c.draw.new.pass c.in-Err.refusal c.in-Err.ensures.why

pub returns-in-Ok-install-clause-goes : goal.returns-in-Ok-install-clause-goes
returns-in-Ok-install-clause-goes g c = goes_trans c.draw.ensures.pass c.in-Ok-install.ensures.pass

pub returns-in-Ok-install-clause-moved : goal.returns-in-Ok-install-clause-moved
returns-in-Ok-install-clause-moved g c =
    let e = c.in-Ok-install.ensures in
    let w = c.in-Ok-install.installed.word in
    moved_over g.K.FarObject.enc g.J.Naming.limits c.args.b c.args.b c.args.old w (λ (p : ℕ). p ≡ c.args.frame) (IsOnDevice c.args.self.now.format c.args.b) c.args.caller.now.limbo c.count-in-Ok-install.new.self c.draw.ensures.pass refl c.requires.local.1
    (on_device c.args.self.now.format c.args.b c.in-Ok-draw.name.number w e.word (rw c.in-Ok-draw.ensures.name.0 at c.in-Ok-written.ensures.stored)) e.follows (c.count-in-Ok-install.ensures ∙ rw e.spare at c.keep-in-Ok-install.ensures)

pub returns-in-Err-install-clause-goes : goal.returns-in-Err-install-clause-goes
returns-in-Err-install-clause-goes g c = goes_trans c.draw.ensures.pass c.in-Err-install.ensures.pass

pub returns-in-Err-install-clause-refused : goal.returns-in-Err-install-clause-refused
returns-in-Err-install-clause-refused g c =
    let e = c.in-Err-install.ensures in
    moved_seen g.K.FarObject.enc g.V.FarObject.enc g.J.Naming.limits c.args.b c.args.b c.args.old (goes_self c.args.caller.now.pass) (goes_trans c.draw.ensures.pass e.pass) refl c.requires.stands e.moved.1

pub returns-in-Err-clause-full : goal.returns-in-Err-clause-full
returns-in-Err-clause-full g c = undrawn_full g.K.FarObject.enc g.V.FarObject.enc g.J.Naming.limits _ c.args.caller.now.pass c.draw.new.pass c.in-Err.refusal c.in-Err.ensures.why

pub returns-in-Err-clause-given_up : goal.returns-in-Err-clause-given_up
returns-in-Err-clause-given_up g c = undrawn_swap_left g.J.Naming.limits _ c.args.caller.now.pass c.draw.new.pass _ _ c.in-Err.refusal c.in-Err.ensures.why refl
