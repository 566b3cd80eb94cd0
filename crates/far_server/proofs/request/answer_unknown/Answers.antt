use Rattle.std.proofs.Common.{[], ◌∷◌, refl, inl, inr}
use Rattle.resp.specs.Replies.{Failure}
use Rattle.commands.specs.Arguments.{listed}
use Rattle.far_server.proofs.Passing.{no_excess}
use Rattle.far_server.proofs.request.answer_unknown.Goals as goal

pub returns-in-Ok-clause-gated : goal.returns-in-Ok-clause-gated
returns-in-Ok-clause-gated c = (
  Failure c.in-Some.text.now ∷ [],
  c.in-Ok.ensures.exact,
  inl (c.in-Some.text.now, c.in-Some.ensures, refl, refl),
  λ end. inr (inl (c.requires.may_not, (c.in-Some.text.now, c.in-Some.ensures, refl))),
)

pub returns-in-Ok-refuse_or_log_in-clause-gated : goal.returns-in-Ok-refuse_or_log_in-clause-gated
returns-in-Ok-refuse_or_log_in-clause-gated c =
    let gated = c.in-Ok-refuse_or_log_in.ensures.gated in
    (gated.0, gated.1, inr (c.in_default.ensures, gated.2), λ end. inl (c.requires.quits end))

pub returns-in-Ok-refuse_or_log_in-clause-ends : goal.returns-in-Ok-refuse_or_log_in-clause-ends
returns-in-Ok-refuse_or_log_in-clause-ends c = λ text exceeds. absurd (no_excess (listed c.args.request) text c.in_default.ensures exceeds)
