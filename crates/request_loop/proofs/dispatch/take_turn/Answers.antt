use Rattle.std.proofs.Common.{◌≡◌, ◌<◌, ℕ, Option, List, [], ◌++◌, length, length-append, sym, ap, ◌∙◌, subst, rules, arith}
use Rattle.std.proofs.lemmas.List.{nil_from_length}
use Rattle.request_loop.specs.Marks.{Piece}
use Rattle.request_loop.specs.declared.slots.Held.{Held}
use Rattle.request_loop.specs.Slots.{Runs, seen_left, Replaces, IsAnswered}
use Rattle.request_loop.specs.Turns.{Turns}
use Rattle.request_loop.proofs.Seeing.{if_ok_map, if_ok_both, either_way}
use Rattle.request_loop.proofs.Turning.{turn_shed, stands_shut, shut_faulty}
use Rattle.request_loop.proofs.Framing.{comes_turns, comes_waits, comes_faulty}
use Rattle.request_loop.proofs.dispatch.take_turn.Goals as goal

pub returns-then-is_empty-clause-stands : goal.returns-then-is_empty-clause-stands
returns-then-is_empty-clause-stands g c =
    let k = c.args.connection in
    let H = c.args.held.bytes.items in
    let wanted = c.args.held.wanted in
    let none : length H ≡ 0 = search rules in
    let free = ap (λ (l : List ℕ). Runs l wanted) (nil_from_length H none) in
    if_ok_map c.answer_packet.result _ _
    (λ left p start x past slots after is h r.
    p start x past slots after (comes_turns g.D.Duplex.tells g.S.Service.does c.args.limits past k start c.args.duplex.now x c.args.service.now slots [] c.args.packet.now wanted (is ∙ free) h) r)
    c.answer_packet.ensures.stands

pub returns-then-is_empty-clause-begun : goal.returns-then-is_empty-clause-begun
returns-then-is_empty-clause-begun g c =
    let k = c.args.connection in
    let H = c.args.held.bytes.items in
    let wanted = c.args.held.wanted in
    let none : length H ≡ 0 = search rules in
    let free = ap (λ (l : List ℕ). Runs l wanted) (nil_from_length H none) in
    λ start x past slots is h. c.answer_packet.ensures.begun start x past slots (comes_turns g.D.Duplex.tells g.S.Service.does c.args.limits past k start c.args.duplex.now x c.args.service.now slots [] c.args.packet.now wanted (is ∙ free) h)

pub returns-in-Err-clause-stands : goal.returns-in-Err-clause-stands
returns-in-Err-clause-stands g c =
    let k = c.args.connection in
    let H = c.args.held.bytes.items in
    let packet = c.args.packet.now in
    let some : 0 < length (H ++ packet) = omega (arith, c.in-Err.ensures.some, length-append H packet) in
    if_ok_both c.shed.result _ _ _
    (λ left none l start x past slots after is h r.
    let V : Option Held → Type 0 = λ o. Replaces k (seen_left o) slots after in
    let t = turn_shed g.D.Duplex.tells g.S.Service.does c.args.limits past k start c.args.duplex.now x c.args.service.now slots (H ++ packet) [] some (comes_turns g.D.Duplex.tells g.S.Service.does c.args.limits past k start c.args.duplex.now x c.args.service.now slots H packet c.args.held.wanted is h) in
    stands_shut g.D.Duplex.tells g.S.Service.does c.args.limits past k start c.args.duplex.now c.shed.new.duplex x c.args.service.now c.shed.new.service slots after t l.0 (l.1 start t.came t.sent t.told) (subst V none r))
    c.shed.ensures.closes c.shed.ensures.left

pub returns-in-Err-clause-begun : goal.returns-in-Err-clause-begun
returns-in-Err-clause-begun g c =
    λ start x past slots is h.
    let k = c.args.connection in
    let H = c.args.held.bytes.items in
    let packet = c.args.packet.now in
    let some : 0 < length (H ++ packet) = omega (arith, c.in-Err.ensures.some, length-append H packet) in
    let t = turn_shed g.D.Duplex.tells g.S.Service.does c.args.limits past k start c.args.duplex.now x c.args.service.now slots (H ++ packet) [] some (comes_turns g.D.Duplex.tells g.S.Service.does c.args.limits past k start c.args.duplex.now x c.args.service.now slots H packet c.args.held.wanted is h) in
    either_way c.shed.result _ _ _
    (λ l. shut_faulty g.D.Duplex.tells g.S.Service.does c.args.limits past k start c.args.duplex.now c.shed.new.duplex x c.args.service.now slots t (l.1 start t.came t.sent t.told))
    (λ kept. comes_faulty g.D.Duplex.tells g.S.Service.does c.args.limits past start c.args.duplex.now c.shed.new.duplex x c.args.service.now slots (Piece k packet) (λ came sent told. kept start came sent told) h)
    c.shed.ensures.left c.shed.ensures.failed

pub returns-then-len-wanted-clause-stands : goal.returns-then-len-wanted-clause-stands
returns-then-len-wanted-clause-stands g c =
    let k = c.args.connection in
    let H = c.args.held.bytes.items in
    let wanted = c.args.held.wanted in
    let items : c.hold.new.held.items ≡ H ++ c.args.packet.now = c.in-Ok.ensures.held in
    let less : length c.hold.new.held.items < wanted = first_of (search rules, omega arith) in
    let L : List ℕ → Type 0 = λ l. length l < wanted in
    λ start x past slots after is h r.
    let R : List ℕ → Type 0 = λ l. Replaces k (Runs l wanted) slots after in
    comes_waits g.D.Duplex.tells g.S.Service.does c.args.limits past k start c.args.duplex.now x c.args.service.now slots after H c.args.packet.now wanted is (subst L items less) (subst R items r) h

pub returns-then-len-wanted-clause-begun : goal.returns-then-len-wanted-clause-begun
returns-then-len-wanted-clause-begun g c =
    λ start x past slots is h. comes_faulty g.D.Duplex.tells g.S.Service.does c.args.limits past start c.args.duplex.now c.args.duplex.now x c.args.service.now slots (Piece c.args.connection c.args.packet.now) (λ came sent told. told) h

pub returns-clause-stands : goal.returns-clause-stands
returns-clause-stands g c =
    let k = c.args.connection in
    let H = c.args.held.bytes.items in
    let wanted = c.args.held.wanted in
    let items : c.hold.new.held.items ≡ H ++ c.args.packet.now = c.in-Ok.ensures.held in
    if_ok_map c.answer_held.result _ _
    (λ left p start x past slots after is h r.
    let T = λ (l : List ℕ). Turns (IsAnswered c.args.limits l) g.D.Duplex.tells g.S.Service.does c.args.limits past k start c.args.duplex.now x c.args.service.now slots [] in
    p start x past slots after (subst T (sym items) (comes_turns g.D.Duplex.tells g.S.Service.does c.args.limits past k start c.args.duplex.now x c.args.service.now slots H c.args.packet.now wanted is h)) r)
    c.answer_held.ensures.stands

pub returns-clause-begun : goal.returns-clause-begun
returns-clause-begun g c =
    let k = c.args.connection in
    let H = c.args.held.bytes.items in
    let wanted = c.args.held.wanted in
    let items : c.hold.new.held.items ≡ H ++ c.args.packet.now = c.in-Ok.ensures.held in
    λ start x past slots is h.
    let T = λ (l : List ℕ). Turns (IsAnswered c.args.limits l) g.D.Duplex.tells g.S.Service.does c.args.limits past k start c.args.duplex.now x c.args.service.now slots [] in
    c.answer_held.ensures.begun start x past slots (subst T (sym items) (comes_turns g.D.Duplex.tells g.S.Service.does c.args.limits past k start c.args.duplex.now x c.args.service.now slots H c.args.packet.now wanted is h))
