use Rattle.std.proofs.Common.{[], ◌∷◌, inr, refl}
use Rattle.std.proofs.Common.{List, ℕ, ◌++◌, ap, ◌∙◌}
use Rattle.resp.specs.Replies.{Failure, token}
use Rattle.farcalls.specs.Answers.{error_text}
use Rattle.farcalls.proofs.Pushed.{on_ok, single}
use Rattle.farcalls.proofs.answer.answer_request.Goals as goal

pub returns-in-Err : goal.returns-in-Err
returns-in-Err g c =
    let why = c.in-Err.why in
    let old = c.args.out.now.items in
    let failed = c.in-Err.ensures in
    on_ok c.refuse.result (λ p.
    let t = Failure (error_text c.args.context.now.settings.now.is_far p.0 why) in
    (t ∷ [], single old t c.refuse.new.out.items (p.1 ∙ ap (λ (l : List ℕ). l ++ token t) failed.0), inr (why, p.0, failed.1, refl))) c.refuse.ensures
