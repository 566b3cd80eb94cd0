use Rattle.std.proofs.Common.{◌≡◌, ◌-◌, ◌<◌, ℕ, Option, List, [], ◌++◌, length, take, drop, ap, ◌∙◌, arith, subst}
use Rattle.std.proofs.lemmas.List.{take_rest}
use Rattle.request_loop.specs.declared.requests.Turned.{Turned}
use Rattle.request_loop.specs.declared.slots.Held.{Held}
use Rattle.request_loop.specs.Workers.{IsOver}
use Rattle.request_loop.specs.Slots.{Runs, seen_left, Replaces}
use Rattle.request_loop.specs.Turns.{EndsSo}
use Rattle.request_loop.proofs.Closing.{begun_closed}
use Rattle.request_loop.proofs.Seeing.{if_ok_both, either_way}
use Rattle.request_loop.proofs.Turning.{stands_held, turn_shed, turn_faulty, stands_shut, shut_faulty}
use Rattle.request_loop.proofs.dispatch.answer_packet.Goals as goal

pub returns-in-Ok-clause-stands : goal.returns-in-Ok-clause-stands
returns-in-Ok-clause-stands g c =
    λ start x past slots after entered r.
    let packet = c.args.packet.now in
    let at = c.in-Ok-Holds.at in
    let wanted = c.in-Ok-Holds.wanted in
    let E : Turned → Type 0 = λ t. EndsSo g.D.Duplex.tells g.S.Service.does c.args.limits past c.args.connection start c.answer.new.duplex x c.answer.new.service slots packet t in
    let h = subst E c.in-Ok-Holds.field-0-is (c.in-Ok-Holds.ensures.ends start x past slots entered) in
    let is : c.hold.new.held.items ≡ drop at packet = c.in-Ok.ensures.held ∙ (ap (λ l. l ++ take (length packet - at) (drop at packet)) c.requires.nothing ∙ take_rest packet at) in
    let R : List ℕ → Type 0 = λ l. Replaces c.args.connection (Runs l wanted) slots after in
    stands_held g.D.Duplex.tells g.S.Service.does c.args.limits past c.args.connection start c.answer.new.duplex x c.answer.new.service slots after (drop at packet) wanted h.0 h.1 (subst R is r)

pub returns-in-Ok-Closes-clause-stands : goal.returns-in-Ok-Closes-clause-stands
returns-in-Ok-Closes-clause-stands g c =
    λ start x past slots after entered r.
    let E : Turned → Type 0 = λ t. EndsSo g.D.Duplex.tells g.S.Service.does c.args.limits past c.args.connection start c.answer.new.duplex x c.answer.new.service slots c.args.packet.now t in
    subst E c.in-Ok-Closes.field-0-is (c.in-Ok-Closes.ensures.ends start x past slots entered) after r

pub returns-in-Err-hold-clause-stands : goal.returns-in-Err-hold-clause-stands
returns-in-Err-hold-clause-stands g c =
    let packet = c.args.packet.now in
    let at = c.in-Ok-Holds.at in
    let some : 0 < length (drop at packet) = omega (arith, c.in-Err-hold.ensures.some, ap length (take_rest packet at)) in
    if_ok_both c.shed.result _ _ _
    (λ left none l start x past slots after entered r.
    let E : Turned → Type 0 = λ t. EndsSo g.D.Duplex.tells g.S.Service.does c.args.limits past c.args.connection start c.answer.new.duplex x c.answer.new.service slots packet t in
    let V : Option Held → Type 0 = λ o. Replaces c.args.connection (seen_left o) slots after in
    let h = subst E c.in-Ok-Holds.field-0-is (c.in-Ok-Holds.ensures.ends start x past slots entered) in
    let t = turn_shed g.D.Duplex.tells g.S.Service.does c.args.limits past c.args.connection start c.answer.new.duplex x c.answer.new.service slots (drop at packet) [] some h.1 in
    stands_shut g.D.Duplex.tells g.S.Service.does c.args.limits past c.args.connection start c.answer.new.duplex c.shed.new.duplex x c.answer.new.service c.shed.new.service slots after t l.0 (l.1 start t.came t.sent t.told) (subst V none r))
    c.shed.ensures.closes c.shed.ensures.left

pub returns-in-Err-hold-clause-begun : goal.returns-in-Err-hold-clause-begun
returns-in-Err-hold-clause-begun g c =
    λ start x past slots entered.
    let packet = c.args.packet.now in
    let at = c.in-Ok-Holds.at in
    let some : 0 < length (drop at packet) = omega (arith, c.in-Err-hold.ensures.some, ap length (take_rest packet at)) in
    let E : Turned → Type 0 = λ t. EndsSo g.D.Duplex.tells g.S.Service.does c.args.limits past c.args.connection start c.answer.new.duplex x c.answer.new.service slots packet t in
    let h = subst E c.in-Ok-Holds.field-0-is (c.in-Ok-Holds.ensures.ends start x past slots entered) in
    let t = turn_shed g.D.Duplex.tells g.S.Service.does c.args.limits past c.args.connection start c.answer.new.duplex x c.answer.new.service slots (drop at packet) [] some h.1 in
    either_way c.shed.result _ _ _
    (λ l. shut_faulty g.D.Duplex.tells g.S.Service.does c.args.limits past c.args.connection start c.answer.new.duplex c.shed.new.duplex x c.answer.new.service slots t (l.1 start t.came t.sent t.told))
    (λ kept. turn_faulty (IsOver c.args.limits) g.D.Duplex.tells g.S.Service.does c.args.limits past c.args.connection start c.answer.new.duplex c.shed.new.duplex x c.answer.new.service slots [] (begun_closed c.args.limits) t (kept start t.came t.sent t.told))
    c.shed.ensures.left c.shed.ensures.failed
