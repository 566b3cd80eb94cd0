use Rattle.std.proofs.Common.{[], ◌∷◌, inl, inr, refl}
use Rattle.resp.specs.Replies.{Failure}
use Rattle.farcalls.specs.Answers.{unknown_text}
use Rattle.farcalls.proofs.Pushed.{on_ok, single}
use Rattle.farcalls.proofs.answer.answer.Goals as goal

pub returns-in-None : goal.returns-in-None
returns-in-None g c = on_ok c.push_failure.result (λ is. (Failure unknown_text ∷ [], single c.args.out.now.items (Failure unknown_text) c.push_failure.new.out.items is, inr (c.in-None.ensures, refl, refl))) c.push_failure.ensures.items

pub returns-in-Some : goal.returns-in-Some
returns-in-Some g c = on_ok c.answer_request.result (λ p. (p.0, p.1, inl (c.in-Some.request, c.in-Some.ensures, p.2))) c.answer_request.ensures
