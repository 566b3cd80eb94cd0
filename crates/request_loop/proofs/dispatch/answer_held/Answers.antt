use Rattle.std.proofs.Common.{◌≡◌, ℕ, List, [], drop, sym, ap, ◌∙◌, subst}
use Rattle.request_loop.specs.declared.requests.Turned.{Turned}
use Rattle.request_loop.specs.Slots.{Runs, Replaces, IsAnswered}
use Rattle.request_loop.specs.Turns.{Turns, EndsSo}
use Rattle.request_loop.proofs.Turning.{stands_held}
use Rattle.request_loop.proofs.dispatch.answer_held.Goals as goal

pub returns-in-Ok-Holds-clause-stands : goal.returns-in-Ok-Holds-clause-stands
returns-in-Ok-Holds-clause-stands g c =
    λ start x past slots after entered r.
    let bytes = c.as_slice.result.now in
    let at = c.in-Ok-Holds.at in
    let wanted = c.in-Ok-Holds.wanted in
    let T = λ (l : List ℕ). Turns (IsAnswered c.args.limits l) g.D.Duplex.tells g.S.Service.does c.args.limits past c.args.connection start c.args.duplex.now x c.args.service.now slots [] in
    let E : Turned → Type 0 = λ t. EndsSo g.D.Duplex.tells g.S.Service.does c.args.limits past c.args.connection start c.answer.new.duplex x c.answer.new.service slots bytes t in
    let h = subst E c.in-Ok-Holds.field-0-is (c.in-Ok-Holds.ensures.ends start x past slots (subst T (sym c.as_slice.ensures.value) entered)) in
    let is : c.rest_of-bytes.result.items ≡ drop at bytes = c.rest_of-bytes.ensures ∙ ap (drop at) (sym c.as_slice.ensures.value) in
    let R : List ℕ → Type 0 = λ l. Replaces c.args.connection (Runs l wanted) slots after in
    stands_held g.D.Duplex.tells g.S.Service.does c.args.limits past c.args.connection start c.answer.new.duplex x c.answer.new.service slots after (drop at bytes) wanted h.0 h.1 (subst R is r)

pub returns-in-Ok-Holds-clause-begun : goal.returns-in-Ok-Holds-clause-begun
returns-in-Ok-Holds-clause-begun g c =
    λ start x past slots entered.
    let T = λ (l : List ℕ). Turns (IsAnswered c.args.limits l) g.D.Duplex.tells g.S.Service.does c.args.limits past c.args.connection start c.args.duplex.now x c.args.service.now slots [] in
    c.in-Ok-Holds.ensures.begun start x past slots (subst T (sym c.as_slice.ensures.value) entered)

pub returns-in-Ok-Closes-clause-stands : goal.returns-in-Ok-Closes-clause-stands
returns-in-Ok-Closes-clause-stands g c =
    λ start x past slots after entered r.
    let T = λ (l : List ℕ). Turns (IsAnswered c.args.limits l) g.D.Duplex.tells g.S.Service.does c.args.limits past c.args.connection start c.args.duplex.now x c.args.service.now slots [] in
    let E : Turned → Type 0 = λ t. EndsSo g.D.Duplex.tells g.S.Service.does c.args.limits past c.args.connection start c.answer.new.duplex x c.answer.new.service slots c.as_slice.result.now t in
    subst E c.in-Ok-Closes.field-0-is (c.in-Ok-Closes.ensures.ends start x past slots (subst T (sym c.as_slice.ensures.value) entered)) after r

pub returns-in-Ok-Closes-clause-begun : goal.returns-in-Ok-Closes-clause-begun
returns-in-Ok-Closes-clause-begun g c =
    λ start x past slots entered.
    let T = λ (l : List ℕ). Turns (IsAnswered c.args.limits l) g.D.Duplex.tells g.S.Service.does c.args.limits past c.args.connection start c.args.duplex.now x c.args.service.now slots [] in
    c.in-Ok-Closes.ensures.begun start x past slots (subst T (sym c.as_slice.ensures.value) entered)

pub returns-in-Err-clause-begun : goal.returns-in-Err-clause-begun
returns-in-Err-clause-begun g c =
    λ start x past slots entered.
    let T = λ (l : List ℕ). Turns (IsAnswered c.args.limits l) g.D.Duplex.tells g.S.Service.does c.args.limits past c.args.connection start c.args.duplex.now x c.args.service.now slots [] in
    c.in-Err.ensures.begun start x past slots (subst T (sym c.as_slice.ensures.value) entered)
