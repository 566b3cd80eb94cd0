use Rattle.std.proofs.Common.{Option, refl, sym, subst}
use Rattle.request_loop.specs.declared.slots.Held.{Held}
use Rattle.request_loop.specs.Slots.{seen_left, Replaces}
use Rattle.request_loop.proofs.Seeing.{placed}
use Rattle.request_loop.proofs.Framing.{stands_hinted, faulty_hinted, faulty_kept}
use Rattle.request_loop.proofs.dispatch.take_bytes.Goals as goal

pub returns-in-Ok-clause-stands : goal.returns-in-Ok-clause-stands
returns-in-Ok-clause-stands g c =
    λ start x past h.
    let k = c.args.connection in
    let slots = c.args.slots.now in
    let after = c.keep.new.slots in
    let V : Option Held → Type 0 = λ o. Replaces k (seen_left o) slots after in
    let r = placed k _ _ slots c.take_held-held.new.slots after c.take_held-held.ensures.others c.in-Ok.ensures.kept refl in
    stands_hinted g.D.Duplex.tells g.S.Service.does c.args.limits past start c.take_turn.new.duplex c.keep.new.duplex x c.take_turn.new.service after c.in-Ok.ensures.told (c.in-Ok-Some.ensures.stands start x past slots after (c.take_held-held.ensures.held c.requires.runs) h (subst V (sym c.in-Ok-Some.field-0-is) r))

pub returns-in-Ok-clause-begun : goal.returns-in-Ok-clause-begun
returns-in-Ok-clause-begun g c =
    λ start x past h. faulty_hinted g.D.Duplex.tells g.S.Service.does c.args.limits past start c.take_turn.new.duplex c.keep.new.duplex x c.in-Ok.ensures.told (c.in-Ok-Some.ensures.begun start x past c.args.slots.now (c.take_held-held.ensures.held c.requires.runs) h)

pub returns-in-Err-keep-clause-begun : goal.returns-in-Err-keep-clause-begun
returns-in-Err-keep-clause-begun g c =
    λ start x past h. faulty_kept g.D.Duplex.tells g.S.Service.does c.args.limits past start c.take_turn.new.duplex c.keep.new.duplex x (λ came sent told. c.in-Err-keep.ensures.failed start came sent told) (c.in-Ok-Some.ensures.begun start x past c.args.slots.now (c.take_held-held.ensures.held c.requires.runs) h)

pub returns-in-Ok-None-clause-stands : goal.returns-in-Ok-None-clause-stands
returns-in-Ok-None-clause-stands g c =
    λ start x past h.
    let k = c.args.connection in
    let slots = c.args.slots.now in
    let after = c.set_slot.new.slots in
    let V : Option Held → Type 0 = λ o. Replaces k (seen_left o) slots after in
    let r = placed k _ _ slots c.take_held-held.new.slots after c.take_held-held.ensures.others c.set_slot.ensures c.new.ensures in
    c.in-Ok-None.ensures.stands start x past slots after (c.take_held-held.ensures.held c.requires.runs) h (subst V (sym c.in-Ok-None.field-0-is) r)

pub returns-in-Ok-None-clause-begun : goal.returns-in-Ok-None-clause-begun
returns-in-Ok-None-clause-begun g c =
    λ start x past h. c.in-Ok-None.ensures.begun start x past c.args.slots.now (c.take_held-held.ensures.held c.requires.runs) h

pub returns-in-Err-clause-begun : goal.returns-in-Err-clause-begun
returns-in-Err-clause-begun g c =
    λ start x past h. c.in-Err.ensures.begun start x past c.args.slots.now (c.take_held-held.ensures.held c.requires.runs) h
