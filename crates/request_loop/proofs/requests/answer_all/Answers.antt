use Rattle.std.proofs.Common.{◌≡◌, ◌≢◌, ℕ, ◌+◌, ◌-◌, ◌<◌, ◌≤◌, true, false, List, ◌++◌, length, take, drop, sym, ap, ◌∙◌, subst, arith, length-drop}
use Rattle.std.proofs.lemmas.List.{take_rest, nil_from_length}
use Rattle.resp.specs.declared.outcome.ParseFault.{ParseFault}
use Rattle.resp.specs.Lines.{Lacks, Spoilt}
use Rattle.resp.specs.Requests.{command, IsAdmitted, longest}
use Rattle.resp.specs.Parsing.{IsCause}
use Rattle.request_loop.specs.declared.service.Next.{Next}
use Rattle.request_loop.specs.declared.service.Next.TheVariants.{End}
use Rattle.request_loop.specs.declared.one_request.Taken.{Taken}
use Rattle.request_loop.specs.Workers.{protocol_error, IsBegun, IsOver}
use Rattle.request_loop.specs.Slots.{IsAnswered}
use Rattle.request_loop.specs.Turns.{Turns, Takes, TakesWhole, goes_on}
use Rattle.request_loop.proofs.Standing.{nothing_begun}
use Rattle.request_loop.proofs.Closing.{begun_answered}
use Rattle.request_loop.proofs.Turning.{turn_more, turn_last, turn_bad, turn_shed, turn_wrote, turn_faulty, begun_rest, not_end, is_end}
use Rattle.request_loop.proofs.Sending.{whole_faulty}
use Rattle.request_loop.proofs.requests.answer_all.Goals as goal

pub requests-preserved : goal.requests-preserved
requests-preserved g c =
    let tells = g.D.Duplex.tells in
    let does = g.S.Service.does in
    let bytes = c.args.bytes.now in
    let at = c.requests.at in
    let k = c.args.connection in
    let y = c.requests.service in
    let z = c.take_one.new.service in
    let out = c.requests.out.items in
    let made = c.take_one.new.out.items in
    let n = c.in-Ok-Whole.consumed in
    let P : Taken → Type 0 = λ t. Takes g.S.Service.does c.args.limits c.args.connection c.requests.service c.take_one.new.service (take (length bytes - at) (drop at bytes)) out made t in
    let L : List ℕ → Type 0 = λ l. TakesWhole g.S.Service.does c.args.limits c.args.connection c.requests.service c.take_one.new.service l n c.in-Ok-Whole.next out made in
    let w : TakesWhole g.S.Service.does c.args.limits c.args.connection c.requests.service c.take_one.new.service (drop at bytes) n c.in-Ok-Whole.next out made = subst L (take_rest bytes at) (subst P c.in-Ok-Whole.field-0-is c.in-Ok-Whole.ensures) in
    let on : goes_on c.in-Ok-Whole.next ≡ true = sym c.in-Ok-true.ensures.next ∙ c.in-Ok-true.field-0-test in
    let goes : c.in-Ok-Whole.next ≢ End = not_end c.in-Ok-Whole.next on in
    record {
      limits = c.in-Ok-true.ensures.limits ∙ c.requests.invariant.limits;
      within = omega (arith, w.within, length-drop at bytes, c.requests.invariant.within);
      turns = λ start x past slots entered.
          let t = c.requests.invariant.turns start x past slots entered in
          let u = turn_more g.D.Duplex.tells g.S.Service.does c.args.limits past c.args.connection start c.requests.duplex x c.requests.service c.take_one.new.service slots bytes out made at n c.in-Ok-Whole.next goes w t in
          let wrote = c.in-Ok-true.ensures.goes start u.came u.sent u.told in
          turn_wrote (IsAnswered c.args.limits (drop (at + n) bytes)) g.D.Duplex.tells g.S.Service.does c.args.limits past c.args.connection start c.requests.duplex c.go_on.new.duplex x c.take_one.new.service slots made wrote.1 c.go_on.new.out.items wrote.4 u wrote.0 wrote.2 wrote.3;
    }

pub returns-in-Ok-false-clause-answered : goal.returns-in-Ok-false-clause-answered
returns-in-Ok-false-clause-answered g c =
    let bytes = c.args.bytes.now in
    let at = c.requests.at in
    let out = c.requests.out.items in
    let made = c.take_one.new.out.items in
    let n = c.in-Ok-Whole.consumed in
    let P : Taken → Type 0 = λ t. Takes g.S.Service.does c.args.limits c.args.connection c.requests.service c.take_one.new.service (take (length bytes - at) (drop at bytes)) out made t in
    let L : List ℕ → Type 0 = λ l. TakesWhole g.S.Service.does c.args.limits c.args.connection c.requests.service c.take_one.new.service l n c.in-Ok-Whole.next out made in
    let N : Next → Type 0 = λ e. TakesWhole g.S.Service.does c.args.limits c.args.connection c.requests.service c.take_one.new.service (drop at bytes) n e out made in
    let off : goes_on c.in-Ok-Whole.next ≡ false = sym c.in-Ok-false.ensures.next ∙ c.in-Ok-false.field-0-test in
    let w = subst N (is_end c.in-Ok-Whole.next off) (subst L (take_rest bytes at) (subst P c.in-Ok-Whole.field-0-is c.in-Ok-Whole.ensures)) in
    λ start x past slots entered.
    let t = c.requests.invariant.turns start x past slots entered in
    let u = turn_last g.D.Duplex.tells g.S.Service.does c.args.limits past c.args.connection start c.requests.duplex x c.requests.service c.take_one.new.service slots (drop at bytes) out made n w t in
    let wrote = c.in-Ok-false.ensures.goes start u.came u.sent u.told in
    turn_wrote (IsOver c.args.limits) g.D.Duplex.tells g.S.Service.does c.args.limits past c.args.connection start c.requests.duplex c.go_on.new.duplex x c.take_one.new.service slots made wrote.1 c.go_on.new.out.items wrote.4 u wrote.0 wrote.2 wrote.3

pub overflow_add-wanted : goal.overflow_add-wanted
overflow_add-wanted g c =
    let bytes = c.args.bytes.now in
    let at = c.requests.at in
    let P : Taken → Type 0 = λ t. Takes g.S.Service.does c.args.limits c.args.connection c.requests.service c.take_one.new.service (take (length bytes - at) (drop at bytes)) c.requests.out.items c.take_one.new.out.items t in
    let h : (c.requests.service ≡ c.take_one.new.service) × Lacks command (IsAdmitted c.args.limits) (take (length bytes - at) (drop at bytes)) c.in-Ok-Short.missing × (length (take (length bytes - at) (drop at bytes)) + c.in-Ok-Short.missing ≤ longest c.args.limits) × (c.take_one.new.out.items ≡ c.requests.out.items) = subst P c.in-Ok-Short.field-0-is c.in-Ok-Short.ensures in
    omega (arith, h.2, ap length (take_rest bytes at), length-drop at bytes)

pub returns-in-Ok-Short-clause-answered : goal.returns-in-Ok-Short-clause-answered
returns-in-Ok-Short-clause-answered g c =
    let bytes = c.args.bytes.now in
    let at = c.requests.at in
    let out = c.requests.out.items in
    let made = c.take_one.new.out.items in
    let P : Taken → Type 0 = λ t. Takes g.S.Service.does c.args.limits c.args.connection c.requests.service c.take_one.new.service (take (length bytes - at) (drop at bytes)) out made t in
    let h : (c.requests.service ≡ c.take_one.new.service) × Lacks command (IsAdmitted c.args.limits) (take (length bytes - at) (drop at bytes)) c.in-Ok-Short.missing × (length (take (length bytes - at) (drop at bytes)) + c.in-Ok-Short.missing ≤ longest c.args.limits) × (made ≡ out) = subst P c.in-Ok-Short.field-0-is c.in-Ok-Short.ensures in
    let S : List ℕ → Type 0 = λ l. Lacks command (IsAdmitted c.args.limits) l c.in-Ok-Short.missing in
    let wanted : length bytes - at + c.in-Ok-Short.missing ≡ length (drop at bytes) + c.in-Ok-Short.missing = omega (arith, length-drop at bytes) in
    let begun = begun_rest c.args.limits (drop at bytes) c.in-Ok-Short.missing (length bytes - at + c.in-Ok-Short.missing) (subst S (take_rest bytes at) h.1) wanted (omega (arith, h.2, ap length (take_rest bytes at))) in
    λ start x past slots entered.
    let t = c.requests.invariant.turns start x past slots entered in
    let Y = λ (y : g.row.S.Denot). Turns (IsAnswered c.args.limits (drop at bytes)) g.D.Duplex.tells g.S.Service.does c.args.limits past c.args.connection start c.requests.duplex x y slots out in
    let O : List ℕ → Type 0 = λ l. Turns (IsAnswered c.args.limits (drop at bytes)) g.D.Duplex.tells g.S.Service.does c.args.limits past c.args.connection start c.requests.duplex x c.take_one.new.service slots l in
    (c.requests.invariant.within, begun, subst O (sym h.3) (subst Y h.0 t))

pub returns-in-Err-go_on-clause-begun : goal.returns-in-Err-go_on-clause-begun
returns-in-Err-go_on-clause-begun g c =
    let bytes = c.args.bytes.now in
    let at = c.requests.at in
    let out = c.requests.out.items in
    let made = c.take_one.new.out.items in
    let n = c.in-Ok-Whole.consumed in
    let P : Taken → Type 0 = λ t. Takes g.S.Service.does c.args.limits c.args.connection c.requests.service c.take_one.new.service (take (length bytes - at) (drop at bytes)) out made t in
    let L : List ℕ → Type 0 = λ l. TakesWhole g.S.Service.does c.args.limits c.args.connection c.requests.service c.take_one.new.service l n c.in-Ok-Whole.next out made in
    let w : TakesWhole g.S.Service.does c.args.limits c.args.connection c.requests.service c.take_one.new.service (drop at bytes) n c.in-Ok-Whole.next out made = subst L (take_rest bytes at) (subst P c.in-Ok-Whole.field-0-is c.in-Ok-Whole.ensures) in
    λ start x past slots entered.
    let t = c.requests.invariant.turns start x past slots entered in
    whole_faulty g.D.Duplex.tells g.S.Service.does c.args.limits past c.args.connection start c.requests.duplex c.go_on.new.duplex x c.requests.service c.take_one.new.service slots bytes out made c.in-Err-go_on.ensures.part.0 at n c.in-Ok-Whole.next w t c.in-Err-go_on.ensures.part.1

pub returns-then-at-bytes-clause-answered : goal.returns-then-at-bytes-clause-answered
returns-then-at-bytes-clause-answered g c =
    let rest = drop c.requests.at c.args.bytes.now in
    let all : length rest ≡ 0 = omega (arith, c.if-at-bytes.true, length-drop c.requests.at c.args.bytes.now) in
    let B : List ℕ → Type 0 = λ l. IsBegun c.args.limits l 1 in
    let begun : IsBegun c.args.limits rest 1 = subst B (sym (nil_from_length rest all)) (nothing_begun c.args.limits) in
    λ start x past slots entered. (c.requests.invariant.within, begun, c.requests.invariant.turns start x past slots entered)

pub returns-in-Ok-Refused-clause-answered : goal.returns-in-Ok-Refused-clause-answered
returns-in-Ok-Refused-clause-answered g c =
    let bytes = c.args.bytes.now in
    let at = c.requests.at in
    let out = c.requests.out.items in
    let made = c.take_one.new.out.items in
    let P : Taken → Type 0 = λ t. Takes g.S.Service.does c.args.limits c.args.connection c.requests.service c.take_one.new.service (take (length bytes - at) (drop at bytes)) out made t in
    let b : (c.requests.service ≡ c.take_one.new.service) × (made ≡ out) = subst P c.in-Ok-Refused.field-0-is c.in-Ok-Refused.ensures in
    let some : 0 < length (drop at bytes) = omega (arith, c.if-at-bytes.false, c.requests.invariant.within, length-drop at bytes) in
    λ start x past slots entered.
    let t = c.requests.invariant.turns start x past slots entered in
    let Y = λ (y : g.row.S.Denot). Turns (IsOver c.args.limits) g.D.Duplex.tells g.S.Service.does c.args.limits past c.args.connection start c.requests.duplex x y slots made in
    let O : List ℕ → Type 0 = λ l. Turns (IsOver c.args.limits) g.D.Duplex.tells g.S.Service.does c.args.limits past c.args.connection start c.requests.duplex x c.requests.service slots l in
    subst Y b.0 (subst O (sym b.1) (turn_shed g.D.Duplex.tells g.S.Service.does c.args.limits past c.args.connection start c.requests.duplex x c.requests.service slots (drop at bytes) out some t))

pub returns-in-Ok-Bad-clause-answered : goal.returns-in-Ok-Bad-clause-answered
returns-in-Ok-Bad-clause-answered g c =
    let bytes = c.args.bytes.now in
    let at = c.requests.at in
    let out = c.requests.out.items in
    let made = c.take_one.new.out.items in
    let P : Taken → Type 0 = λ t. Takes g.S.Service.does c.args.limits c.args.connection c.requests.service c.take_one.new.service (take (length bytes - at) (drop at bytes)) out made t in
    let b : (c.requests.service ≡ c.take_one.new.service) × (i : ℕ) × (fault : ParseFault) × Spoilt command (IsAdmitted c.args.limits) (take (length bytes - at) (drop at bytes)) i × IsCause c.args.limits (take (length bytes - at) (drop at bytes)) i fault × (made ≡ out ++ protocol_error (take (length bytes - at) (drop at bytes)) i fault) = subst P c.in-Ok-Bad.field-0-is c.in-Ok-Bad.ensures in
    let S : List ℕ → Type 0 = λ l. Spoilt command (IsAdmitted c.args.limits) l b.1 in
    let C : List ℕ → Type 0 = λ l. IsCause c.args.limits l b.1 b.2 in
    let E : List ℕ → Type 0 = λ l. made ≡ out ++ protocol_error l b.1 b.2 in
    λ start x past slots entered.
    let t = c.requests.invariant.turns start x past slots entered in
    let Y = λ (y : g.row.S.Denot). Turns (IsOver c.args.limits) g.D.Duplex.tells g.S.Service.does c.args.limits past c.args.connection start c.requests.duplex x y slots made in
    subst Y b.0 (turn_bad g.D.Duplex.tells g.S.Service.does c.args.limits past c.args.connection start c.requests.duplex x c.requests.service slots (drop at bytes) out made b.1 b.2 (subst S (take_rest bytes at) b.3) (subst C (take_rest bytes at) b.4) (subst E (take_rest bytes at) b.5) t)

pub returns-in-Err-clause-begun : goal.returns-in-Err-clause-begun
returns-in-Err-clause-begun g c =
    λ start x past slots entered.
    let t = c.requests.invariant.turns start x past slots entered in
    let rest = drop c.requests.at c.args.bytes.now in
    turn_faulty (IsAnswered c.args.limits rest) g.D.Duplex.tells g.S.Service.does c.args.limits past c.args.connection start c.requests.duplex c.requests.duplex x c.requests.service slots c.requests.out.items (begun_answered c.args.limits rest) t t.told
