use Rattle.std.proofs.Common.{List, ℕ, [], ◌∷◌, ◌++◌, sym, ap, ◌∙◌, append-nil}
use Rattle.resp.specs.Replies.{token, Simple}
use Rattle.request_player.proofs.manners.say_line.Goals as goal

pub returns-in-Ok : goal.returns-in-Ok
returns-in-Ok c =
    let said = c.args.said.now in
    (Simple said ∷ [], c.in-Ok.ensures.items ∙ ap (λ (l : List ℕ). c.args.out.now.items ++ l) (sym (append-nil (token (Simple said)))))
