use Rattle.std.proofs.Common.{Some, ◌≡◌, refl, ap, ◌∙◌}
use Rattle.request_loop.specs.declared.slots.State.TheVariants.{Over}
use Rattle.request_loop.specs.Marks.{Piece}
use Rattle.request_loop.specs.Slots.{slot_at, state_of}
use Rattle.request_loop.proofs.Seeing.{seen_closed, ok_map}
use Rattle.request_loop.proofs.Framing.{comes_over, comes_gone, comes_faulty}
use Rattle.request_loop.proofs.dispatch.take_data.Goals as goal

pub take_bytes-requires-clause-runs : goal.take_bytes-requires-clause-runs
take_bytes-requires-clause-runs g c = c.in-Some-Running.ensures.state ∙ ap Some c.in-Some-Running.field-0-is

pub returns-in-None-clause-stands : goal.returns-in-None-clause-stands
returns-in-None-clause-stands g c =
    ok_map c.pass_over.result _ _ (λ below start x past h. comes_gone g.D.Duplex.tells g.S.Service.does c.args.limits past c.args.connection start c.args.duplex.now x c.args.service.now c.args.slots.now c.args.packet.now (c.in-None.ensures.gone refl below) h) c.pass_over.ensures

pub returns-in-None-clause-begun : goal.returns-in-None-clause-begun
returns-in-None-clause-begun g c =
    λ start x past h. comes_faulty g.D.Duplex.tells g.S.Service.does c.args.limits past start c.args.duplex.now c.args.duplex.now x c.args.service.now c.args.slots.now (Piece c.args.connection c.args.packet.now) (λ came sent told. told) h

pub returns-in-Some-Over-clause-stands : goal.returns-in-Some-Over-clause-stands
returns-in-Some-Over-clause-stands g c =
    let slots = c.args.slots.now in
    let k = c.args.connection in
    let is : state_of (slot_at slots k) ≡ Some Over = c.in-Some-Over.ensures.state ∙ ap Some c.in-Some-Over.field-0-is in
    λ start x past h. comes_over g.D.Duplex.tells g.S.Service.does c.args.limits past k start c.args.duplex.now x c.args.service.now slots c.args.packet.now (seen_closed (slot_at slots k) is) h

pub returns-in-Some-Over-clause-begun : goal.returns-in-Some-Over-clause-begun
returns-in-Some-Over-clause-begun g c =
    λ start x past h. comes_faulty g.D.Duplex.tells g.S.Service.does c.args.limits past start c.args.duplex.now c.args.duplex.now x c.args.service.now c.args.slots.now (Piece c.args.connection c.args.packet.now) (λ came sent told. told) h

pub returns-in-Some-Running-clause-stands : goal.returns-in-Some-Running-clause-stands
returns-in-Some-Running-clause-stands g c =
    c.take_bytes.ensures.stands

pub returns-in-Some-Running-clause-begun : goal.returns-in-Some-Running-clause-begun
returns-in-Some-Running-clause-begun g c =
    c.take_bytes.ensures.begun
