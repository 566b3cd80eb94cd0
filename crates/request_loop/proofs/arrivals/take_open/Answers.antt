use Rattle.std.proofs.Common.{Bool, refl, subst}
use Rattle.request_loop.specs.Marks.{Else}
use Rattle.request_loop.specs.Calls.{Began}
use Rattle.request_loop.specs.Slots.{seen_opened, Replaces}
use Rattle.request_loop.proofs.Seeing.{ok_map, either_way}
use Rattle.request_loop.proofs.Framing.{comes_idle, comes_called, comes_faulty, closed_faulty, stands_opened, stands_given_up, stands_signalled, stands_faulty}
use Rattle.request_loop.proofs.arrivals.take_open.Goals as goal

pub returns-in-Err-clause-begun : goal.returns-in-Err-clause-begun
returns-in-Err-clause-begun g c =
    λ start x past h. comes_faulty g.D.Duplex.tells g.S.Service.does c.args.limits past start c.args.duplex.now c.args.duplex.now x c.args.service.now c.args.slots.now Else (λ came sent told. told) h

pub returns-in-Ok-false-clause-stands : goal.returns-in-Ok-false-clause-stands
returns-in-Ok-false-clause-stands g c =
    ok_map c.leave.result _ _
    (λ left start x past h.
    let V : Bool → Type 0 = λ b. Replaces c.args.connection (seen_opened b) c.args.slots.now c.open.new.slots in
    let t = comes_idle g.D.Duplex.tells g.S.Service.does c.args.limits past start c.args.duplex.now x c.args.service.now c.args.slots.now h in
    stands_given_up g.D.Duplex.tells g.S.Service.does c.args.limits past c.args.connection start c.args.duplex.now c.leave.new.duplex x c.args.service.now c.leave.new.service c.args.slots.now c.open.new.slots c.in-Ok-false.ensures.fresh left.0 (subst V c.in-Ok-false.field-0-test c.in-Ok-false.ensures.opened) t (left.1 start t.came t.sent t.told))
    c.leave.ensures.left

pub returns-in-Ok-false-clause-begun : goal.returns-in-Ok-false-clause-begun
returns-in-Ok-false-clause-begun g c =
    λ start x past h. either_way c.leave.result _ _ _
    (λ left. closed_faulty g.D.Duplex.tells g.S.Service.does c.args.limits past c.args.connection start c.args.duplex.now c.leave.new.duplex x c.args.service.now c.args.slots.now Else (λ came sent told. left.1 start came sent told) h)
    (λ kept. comes_faulty g.D.Duplex.tells g.S.Service.does c.args.limits past start c.args.duplex.now c.leave.new.duplex x c.args.service.now c.args.slots.now Else (λ came sent told. kept start came sent told) h)
    c.leave.ensures.left c.leave.ensures.failed

pub returns-in-Ok-clause-stands : goal.returns-in-Ok-clause-stands
returns-in-Ok-clause-stands g c =
    λ start x past h.
    let V : Bool → Type 0 = λ b. Replaces c.args.connection (seen_opened b) c.args.slots.now c.open.new.slots in
    let t = comes_called g.D.Duplex.tells g.S.Service.does c.args.limits past start c.args.duplex.now x c.args.service.now c.open-2.new.self c.args.slots.now (Began c.args.connection c.args.address.now c.in-Ok-true-open.field-0) refl c.in-Ok-true-open.ensures h in
    stands_signalled g.D.Duplex.tells g.S.Service.does c.args.limits past start c.args.duplex.now c.put_signal.new.duplex x c.open-2.new.self c.open.new.slots c.in-Ok.ensures.put (stands_opened g.D.Duplex.tells g.S.Service.does c.args.limits past c.args.connection start c.args.duplex.now x c.open-2.new.self c.args.slots.now c.open.new.slots c.in-Ok-true.ensures.fresh (subst V c.in-Ok-true.field-0-test c.in-Ok-true.ensures.opened) t)

pub returns-in-Ok-clause-begun : goal.returns-in-Ok-clause-begun
returns-in-Ok-clause-begun g c =
    λ start x past h.
    let t = comes_called g.D.Duplex.tells g.S.Service.does c.args.limits past start c.args.duplex.now x c.args.service.now c.open-2.new.self c.args.slots.now (Began c.args.connection c.args.address.now c.in-Ok-true-open.field-0) refl c.in-Ok-true-open.ensures h in
    stands_faulty g.D.Duplex.tells g.S.Service.does c.args.limits past start c.put_signal.new.duplex c.put_signal.new.duplex x c.open-2.new.self c.args.slots.now (λ came sent told. told) (stands_signalled g.D.Duplex.tells g.S.Service.does c.args.limits past start c.args.duplex.now c.put_signal.new.duplex x c.open-2.new.self c.args.slots.now c.in-Ok.ensures.put t)

pub returns-in-Err-put_signal-clause-begun : goal.returns-in-Err-put_signal-clause-begun
returns-in-Err-put_signal-clause-begun g c =
    λ start x past h. comes_faulty g.D.Duplex.tells g.S.Service.does c.args.limits past start c.args.duplex.now c.put_signal.new.duplex x c.args.service.now c.args.slots.now Else (λ came sent told. c.in-Err-put_signal.ensures.failed start came sent told) h

pub returns-in-Ok-false-open-clause-stands : goal.returns-in-Ok-false-open-clause-stands
returns-in-Ok-false-open-clause-stands g c =
    λ start x past h.
    let V : Bool → Type 0 = λ b. Replaces c.args.connection (seen_opened b) c.args.slots.now c.open.new.slots in
    let t = comes_called g.D.Duplex.tells g.S.Service.does c.args.limits past start c.args.duplex.now x c.args.service.now c.open-2.new.self c.args.slots.now (Began c.args.connection c.args.address.now c.in-Ok-false-open.field-0) refl c.in-Ok-false-open.ensures h in
    stands_opened g.D.Duplex.tells g.S.Service.does c.args.limits past c.args.connection start c.args.duplex.now x c.open-2.new.self c.args.slots.now c.open.new.slots c.in-Ok-true.ensures.fresh (subst V c.in-Ok-true.field-0-test c.in-Ok-true.ensures.opened) t

pub returns-in-Ok-false-open-clause-begun : goal.returns-in-Ok-false-open-clause-begun
returns-in-Ok-false-open-clause-begun g c =
    λ start x past h. comes_faulty g.D.Duplex.tells g.S.Service.does c.args.limits past start c.args.duplex.now c.args.duplex.now x c.args.service.now c.args.slots.now Else (λ came sent told. told) h

pub returns-in-Err-open-clause-begun : goal.returns-in-Err-open-clause-begun
returns-in-Err-open-clause-begun g c =
    λ start x past h. comes_faulty g.D.Duplex.tells g.S.Service.does c.args.limits past start c.args.duplex.now c.args.duplex.now x c.args.service.now c.args.slots.now Else (λ came sent told. told) h
