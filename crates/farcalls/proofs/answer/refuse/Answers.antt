use Rattle.std.proofs.Common.{List, ℕ, ◌++◌, ap, ◌∙◌}
use Rattle.resp.specs.Replies.{Failure, token}
use Rattle.farcalls.proofs.Pushed.{on_ok}
use Rattle.farcalls.proofs.answer.refuse.Goals as goal

pub returns : goal.returns
returns g c = on_ok c.push_failure.result (λ is. (c.get.result, is ∙ ap (λ (text : List ℕ). c.args.out.now.items ++ token (Failure text)) c.error_text.ensures)) c.push_failure.ensures.items
