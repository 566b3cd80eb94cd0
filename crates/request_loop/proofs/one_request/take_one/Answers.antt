use Rattle.std.proofs.Common.{◌≡◌, ◌<◌, ℕ, List, ◌++◌, length, ap, subst, ◌∙◌, rules}
use Rattle.std.proofs.lemmas.List.{nil_from_length}
use Rattle.resp.specs.declared.place.Span.{Span}
use Rattle.resp.specs.declared.outcome.Parsed.{Parsed}
use Rattle.resp.specs.Parsing.{arguments_in, Parses}
use Rattle.resp.specs.Replies.{Token, token}
use Rattle.std.specs.List.{flat_map}
use Rattle.request_loop.specs.Calls.{Asked}
use Rattle.request_loop.proofs.Requesting.{took_request, passed_request}
use Rattle.request_loop.proofs.one_request.take_one.Goals as goal

pub returns-then-is_empty : goal.returns-then-is_empty
returns-then-is_empty g c =
    let spans = c.parse.new.spans.items in
    let P : Parsed → Type 0 = λ p. Parses c.args.limits c.args.bytes.now spans p in
    let none : length spans ≡ 0 = search rules in
    passed_request g.S.Service.does c.args.limits c.args.connection c.args.service.now c.args.bytes.now spans c.in-Request.consumed c.args.out.now.items (subst P c.in-Request.is c.in-Ok.ensures.parses) (nil_from_length spans none)

pub returns-in_ok-next-in-Request : goal.returns-in_ok-next-in-Request
returns-in_ok-next-in-Request g c =
    let spans = c.parse.new.spans.items in
    let P : Parsed → Type 0 = λ p. Parses c.args.limits c.args.bytes.now spans p in
    let some : 0 < length spans = search rules in
    let next = c.in_ok-next-in-Request.next in
    let step : (r : List Token) × g.S.Service.does c.args.service.now (Asked c.args.connection (arguments_in c.args.bytes.now c.as_slice.result.now) r next) c.answer.new.self × (c.answer.new.out.items ≡ c.reserve.new.self.items ++ flat_map token r) = c.in_ok-next-in-Request.ensures in
    let A : List Span → Type 0 = λ s. g.S.Service.does c.args.service.now (Asked c.args.connection (arguments_in c.args.bytes.now s) step.0 next) c.answer.new.self in
    let same : c.as_slice.result.now ≡ spans = search rules in
    took_request g.S.Service.does c.args.limits c.args.connection c.args.service.now c.answer.new.self c.args.bytes.now spans c.in-Request.consumed next step.0 c.args.out.now.items c.answer.new.out.items (subst P c.in-Request.is c.in-Ok.ensures.parses) some (subst A same step.1) (step.2 ∙ ap (λ (l : List ℕ). l ++ flat_map token step.0) c.reserve.ensures.items)
