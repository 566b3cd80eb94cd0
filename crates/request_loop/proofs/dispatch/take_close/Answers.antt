use Rattle.std.proofs.Common.{◌≡◌, Some, refl, ap, ◌∙◌}
use Rattle.request_loop.specs.declared.slots.State.TheVariants.{Running, Over}
use Rattle.request_loop.specs.Marks.{Stop}
use Rattle.request_loop.specs.Slots.{slot_at, state_of}
use Rattle.request_loop.proofs.Seeing.{held_in, wanted_in, seen_runs, seen_closed, ok_map}
use Rattle.request_loop.proofs.Framing.{comes_closed, comes_closed_too, comes_closed_gone, comes_faulty, closed_faulty}
use Rattle.request_loop.proofs.dispatch.take_close.Goals as goal

pub returns-in-None-clause-stands : goal.returns-in-None-clause-stands
returns-in-None-clause-stands g c =
    ok_map c.pass_over.result _ _ (λ below start x past h. comes_closed_gone g.D.Duplex.tells g.S.Service.does c.args.limits past c.args.connection start c.args.duplex.now x c.args.service.now c.args.slots.now (c.in-None.ensures.gone refl below) h) c.pass_over.ensures

pub returns-in-None-clause-begun : goal.returns-in-None-clause-begun
returns-in-None-clause-begun g c =
    λ start x past h. comes_faulty g.D.Duplex.tells g.S.Service.does c.args.limits past start c.args.duplex.now c.args.duplex.now x c.args.service.now c.args.slots.now (Stop c.args.connection) (λ came sent told. told) h

pub returns-in-Ok-clause-stands : goal.returns-in-Ok-clause-stands
returns-in-Ok-clause-stands g c =
    let slots = c.args.slots.now in
    let k = c.args.connection in
    let is : state_of (slot_at slots k) ≡ Some Running = c.in-Some-Running.ensures.state ∙ ap Some c.in-Some-Running.field-0-is in
    let after = c.remove_slot.new.slots in
    λ start x past h. comes_closed g.D.Duplex.tells g.S.Service.does c.args.limits past k start c.args.duplex.now c.leave.new.duplex x c.args.service.now c.leave.new.service slots after (held_in (slot_at slots k)) (wanted_in (slot_at slots k)) (seen_runs (slot_at slots k) is) c.in-Ok.ensures.left.0 h (c.in-Ok.ensures.left.1 start h.came h.sent h.told) c.remove_slot.ensures

pub returns-in-Ok-clause-begun : goal.returns-in-Ok-clause-begun
returns-in-Ok-clause-begun g c =
    λ start x past h. closed_faulty g.D.Duplex.tells g.S.Service.does c.args.limits past c.args.connection start c.args.duplex.now c.leave.new.duplex x c.args.service.now c.args.slots.now (Stop c.args.connection) (λ came sent told. c.in-Ok.ensures.left.1 start came sent told) h

pub returns-in-Err-clause-begun : goal.returns-in-Err-clause-begun
returns-in-Err-clause-begun g c =
    λ start x past h. comes_faulty g.D.Duplex.tells g.S.Service.does c.args.limits past start c.args.duplex.now c.leave.new.duplex x c.args.service.now c.args.slots.now (Stop c.args.connection) (λ came sent told. c.in-Err.ensures.failed start came sent told) h

pub returns-in-Some-Over-clause-stands : goal.returns-in-Some-Over-clause-stands
returns-in-Some-Over-clause-stands g c =
    let slots = c.args.slots.now in
    let k = c.args.connection in
    let is : state_of (slot_at slots k) ≡ Some Over = c.in-Some-Over.ensures.state ∙ ap Some c.in-Some-Over.field-0-is in
    let after = c.remove_slot-in-Some-Over.new.slots in
    λ start x past h. comes_closed_too g.D.Duplex.tells g.S.Service.does c.args.limits past k start c.args.duplex.now x c.args.service.now slots after (seen_closed (slot_at slots k) is) h c.remove_slot-in-Some-Over.ensures

pub returns-in-Some-Over-clause-begun : goal.returns-in-Some-Over-clause-begun
returns-in-Some-Over-clause-begun g c =
    λ start x past h. comes_faulty g.D.Duplex.tells g.S.Service.does c.args.limits past start c.args.duplex.now c.args.duplex.now x c.args.service.now c.args.slots.now (Stop c.args.connection) (λ came sent told. told) h
