use Rattle.std.proofs.Common.{ℕ, List, [], drop, sym, subst}
use Rattle.request_loop.specs.declared.requests.Turned.{Turned}
use Rattle.request_loop.specs.Workers.{IsOver}
use Rattle.request_loop.specs.Slots.{IsAnswered}
use Rattle.request_loop.specs.Turns.{Turns, AnswersSo, EndsSo}
use Rattle.request_loop.proofs.Closing.{begun_answered, begun_closed}
use Rattle.request_loop.proofs.Turning.{turn_wrote, turn_faulty, answers_faulty, stands_shut, shut_faulty}
use Rattle.request_loop.proofs.requests.answer.Goals as goal

pub returns-in-Err-clause-begun : goal.returns-in-Err-clause-begun
returns-in-Err-clause-begun g c =
    λ start x past slots entered.
    let E : List ℕ → Type 0 = λ l. Turns (IsAnswered c.args.limits c.args.bytes.now) g.D.Duplex.tells g.S.Service.does c.args.limits past c.args.connection start c.args.duplex.now x c.args.service.now slots l in
    c.in-Err.ensures.begun start x past slots (subst E (sym c.requires) entered)

pub returns-in-Err-put-clause-begun : goal.returns-in-Err-put-clause-begun
returns-in-Err-put-clause-begun g c =
    λ start x past slots entered.
    let E : List ℕ → Type 0 = λ l. Turns (IsAnswered c.args.limits c.args.bytes.now) g.D.Duplex.tells g.S.Service.does c.args.limits past c.args.connection start c.args.duplex.now x c.args.service.now slots l in
    answers_faulty g.D.Duplex.tells g.S.Service.does c.args.limits past c.args.connection start c.answer_all.new.duplex c.put.new.duplex x c.answer_all.new.service slots c.args.bytes.now c.answer_all.new.out.items c.in-Err-put.ensures.part.0 c.in-Ok.turned c.in-Err-put.ensures.part.1 (c.in-Ok.ensures.answered start x past slots (subst E (sym c.requires) entered))

pub returns-in-Holds-clause-ends : goal.returns-in-Holds-clause-ends
returns-in-Holds-clause-ends g c =
    λ start x past slots entered.
    let rest = drop c.in-Holds.at c.args.bytes.now in
    let out = c.answer_all.new.out.items in
    let E : List ℕ → Type 0 = λ l. Turns (IsAnswered c.args.limits c.args.bytes.now) g.D.Duplex.tells g.S.Service.does c.args.limits past c.args.connection start c.args.duplex.now x c.args.service.now slots l in
    let A : Turned → Type 0 = λ t. AnswersSo g.D.Duplex.tells g.S.Service.does c.args.limits past c.args.connection start c.answer_all.new.duplex x c.answer_all.new.service slots c.args.bytes.now out t in
    let h = subst A c.in-Holds.is (c.in-Ok.ensures.answered start x past slots (subst E (sym c.requires) entered)) in
    let wrote = c.in-Ok-put.ensures.put start h.2.came h.2.sent h.2.told in
    let t = turn_wrote (IsAnswered c.args.limits rest) g.D.Duplex.tells g.S.Service.does c.args.limits past c.args.connection start c.answer_all.new.duplex c.put.new.duplex x c.answer_all.new.service slots out wrote.1 [] wrote.4 h.2 wrote.0 wrote.2 wrote.3 in
    let Q : Turned → Type 0 = λ t. EndsSo g.D.Duplex.tells g.S.Service.does c.args.limits past c.args.connection start c.put.new.duplex x c.answer_all.new.service slots c.args.bytes.now t in
    subst Q (sym c.in-Holds.is) (h.1, t)

pub returns-in-Holds-clause-begun : goal.returns-in-Holds-clause-begun
returns-in-Holds-clause-begun g c =
    λ start x past slots entered.
    let rest = drop c.in-Holds.at c.args.bytes.now in
    let out = c.answer_all.new.out.items in
    let E : List ℕ → Type 0 = λ l. Turns (IsAnswered c.args.limits c.args.bytes.now) g.D.Duplex.tells g.S.Service.does c.args.limits past c.args.connection start c.args.duplex.now x c.args.service.now slots l in
    let A : Turned → Type 0 = λ t. AnswersSo g.D.Duplex.tells g.S.Service.does c.args.limits past c.args.connection start c.answer_all.new.duplex x c.answer_all.new.service slots c.args.bytes.now out t in
    let h = subst A c.in-Holds.is (c.in-Ok.ensures.answered start x past slots (subst E (sym c.requires) entered)) in
    let wrote = c.in-Ok-put.ensures.put start h.2.came h.2.sent h.2.told in
    let t = turn_wrote (IsAnswered c.args.limits rest) g.D.Duplex.tells g.S.Service.does c.args.limits past c.args.connection start c.answer_all.new.duplex c.put.new.duplex x c.answer_all.new.service slots out wrote.1 [] wrote.4 h.2 wrote.0 wrote.2 wrote.3 in
    turn_faulty (IsAnswered c.args.limits rest) g.D.Duplex.tells g.S.Service.does c.args.limits past c.args.connection start c.put.new.duplex c.put.new.duplex x c.answer_all.new.service slots [] (begun_answered c.args.limits rest) t t.told

pub returns-in-Ok-leave-clause-ends : goal.returns-in-Ok-leave-clause-ends
returns-in-Ok-leave-clause-ends g c =
    λ start x past slots entered.
    let out = c.answer_all.new.out.items in
    let E : List ℕ → Type 0 = λ l. Turns (IsAnswered c.args.limits c.args.bytes.now) g.D.Duplex.tells g.S.Service.does c.args.limits past c.args.connection start c.args.duplex.now x c.args.service.now slots l in
    let A : Turned → Type 0 = λ t. AnswersSo g.D.Duplex.tells g.S.Service.does c.args.limits past c.args.connection start c.answer_all.new.duplex x c.answer_all.new.service slots c.args.bytes.now out t in
    let h = subst A c.in-Closes.is (c.in-Ok.ensures.answered start x past slots (subst E (sym c.requires) entered)) in
    let wrote = c.in-Ok-put.ensures.put start h.came h.sent h.told in
    let t = turn_wrote (IsOver c.args.limits) g.D.Duplex.tells g.S.Service.does c.args.limits past c.args.connection start c.answer_all.new.duplex c.put.new.duplex x c.answer_all.new.service slots out wrote.1 [] wrote.4 h wrote.0 wrote.2 wrote.3 in
    let Q : Turned → Type 0 = λ t. EndsSo g.D.Duplex.tells g.S.Service.does c.args.limits past c.args.connection start c.leave.new.duplex x c.leave.new.service slots c.args.bytes.now t in
    subst Q (sym c.in-Closes.is) (λ after r. stands_shut g.D.Duplex.tells g.S.Service.does c.args.limits past c.args.connection start c.put.new.duplex c.leave.new.duplex x c.answer_all.new.service c.leave.new.service slots after t c.in-Ok-leave.ensures.left.0 (c.in-Ok-leave.ensures.left.1 start t.came t.sent t.told) r)

pub returns-in-Ok-leave-clause-begun : goal.returns-in-Ok-leave-clause-begun
returns-in-Ok-leave-clause-begun g c =
    λ start x past slots entered.
    let out = c.answer_all.new.out.items in
    let E : List ℕ → Type 0 = λ l. Turns (IsAnswered c.args.limits c.args.bytes.now) g.D.Duplex.tells g.S.Service.does c.args.limits past c.args.connection start c.args.duplex.now x c.args.service.now slots l in
    let A : Turned → Type 0 = λ t. AnswersSo g.D.Duplex.tells g.S.Service.does c.args.limits past c.args.connection start c.answer_all.new.duplex x c.answer_all.new.service slots c.args.bytes.now out t in
    let h = subst A c.in-Closes.is (c.in-Ok.ensures.answered start x past slots (subst E (sym c.requires) entered)) in
    let wrote = c.in-Ok-put.ensures.put start h.came h.sent h.told in
    let t = turn_wrote (IsOver c.args.limits) g.D.Duplex.tells g.S.Service.does c.args.limits past c.args.connection start c.answer_all.new.duplex c.put.new.duplex x c.answer_all.new.service slots out wrote.1 [] wrote.4 h wrote.0 wrote.2 wrote.3 in
    shut_faulty g.D.Duplex.tells g.S.Service.does c.args.limits past c.args.connection start c.put.new.duplex c.leave.new.duplex x c.answer_all.new.service slots t (c.in-Ok-leave.ensures.left.1 start t.came t.sent t.told)

pub returns-in-Err-leave-clause-begun : goal.returns-in-Err-leave-clause-begun
returns-in-Err-leave-clause-begun g c =
    λ start x past slots entered.
    let out = c.answer_all.new.out.items in
    let E : List ℕ → Type 0 = λ l. Turns (IsAnswered c.args.limits c.args.bytes.now) g.D.Duplex.tells g.S.Service.does c.args.limits past c.args.connection start c.args.duplex.now x c.args.service.now slots l in
    let A : Turned → Type 0 = λ t. AnswersSo g.D.Duplex.tells g.S.Service.does c.args.limits past c.args.connection start c.answer_all.new.duplex x c.answer_all.new.service slots c.args.bytes.now out t in
    let h = subst A c.in-Closes.is (c.in-Ok.ensures.answered start x past slots (subst E (sym c.requires) entered)) in
    let wrote = c.in-Ok-put.ensures.put start h.came h.sent h.told in
    let t = turn_wrote (IsOver c.args.limits) g.D.Duplex.tells g.S.Service.does c.args.limits past c.args.connection start c.answer_all.new.duplex c.put.new.duplex x c.answer_all.new.service slots out wrote.1 [] wrote.4 h wrote.0 wrote.2 wrote.3 in
    turn_faulty (IsOver c.args.limits) g.D.Duplex.tells g.S.Service.does c.args.limits past c.args.connection start c.put.new.duplex c.leave.new.duplex x c.answer_all.new.service slots [] (begun_closed c.args.limits) t (c.in-Err-leave.ensures.failed start t.came t.sent t.told)
