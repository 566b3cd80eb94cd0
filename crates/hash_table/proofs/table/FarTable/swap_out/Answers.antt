use Rattle.std.proofs.Common.{◌≡◌, ℕ, refl}
use Rattle.hash_table.proofs.Fronts.{goes_self, goes_trans}
use Rattle.hash_table.proofs.Refused.{refused_sooner}
use Rattle.hash_table.specs.Refusals.{was_refused}
use Rattle.hash_table.specs.Steps.{IsOnDevice}
use Rattle.hash_table.proofs.Steps.{moved_over}
use Rattle.hash_table.proofs.table.FarTable.swap_out.Goals as goal

pub returns-then-is_full-clause-goes : goal.returns-then-is_full-clause-goes
returns-then-is_full-clause-goes g c = goes_self c.args.caller.now.pass

pub returns-then-is_full-clause-refused : goal.returns-then-is_full-clause-refused
returns-then-is_full-clause-refused g c = (0, tt)

pub returns-in_default-clause-goes : goal.returns-in_default-clause-goes
returns-in_default-clause-goes g c = goes_self c.args.caller.now.pass

pub returns-in-Ok-clause-goes : goal.returns-in-Ok-clause-goes
returns-in-Ok-clause-goes g c = goes_trans c.look-word.ensures.pass c.in-Ok.ensures.goes

pub returns-in-Ok-clause-swapped : goal.returns-in-Ok-clause-swapped
returns-in-Ok-clause-swapped g c =
    let m = c.in-Ok.ensures.moved in
    (c.in-Some.b, moved_over g.K.FarObject.enc g.J.Naming.limits c.in-Some.b c.in-Some.b m.was m.word (λ (p : ℕ). p ≡ c.args.frame) (IsOnDevice c.args.self.now.format c.in-Some.b) c.args.caller.now.limbo c.publish_far.new.caller.limbo c.look-word.ensures.pass refl m.from m.to m.follows m.limbo)

pub returns-clause-goes : goal.returns-clause-goes
returns-clause-goes g c = goes_trans c.look-word.ensures.pass c.in-Err.ensures.goes

pub returns-clause-refused : goal.returns-clause-refused
returns-clause-refused g c =
    (c.in-Some.b, refused_sooner g.K.FarObject.enc g.V.FarObject.enc g.J.Naming.limits c.args.caller.now.pass c.look-word.new.pass c.publish_far.new.caller.pass c.in-Some.b c.in-Err.refusal c.look-word.ensures.pass c.in-Err.ensures.refused)

pub returns-then-is_full-clause-answered : goal.returns-then-is_full-clause-answered
returns-then-is_full-clause-answered g c = was_refused c.args.frame _

pub returns-clause-answered : goal.returns-clause-answered
returns-clause-answered g c = was_refused c.args.frame c.in-Err.refusal
