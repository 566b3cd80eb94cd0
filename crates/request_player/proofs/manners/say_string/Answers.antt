use Rattle.std.proofs.Common.{List, ℕ, [], ◌∷◌, ◌++◌, sym, ap, ◌∙◌, append-nil}
use Rattle.resp.specs.Replies.{token, String}
use Rattle.request_player.proofs.manners.say_string.Goals as goal

pub returns-in-Ok : goal.returns-in-Ok
returns-in-Ok c =
    let said = c.args.said.now in
    (String said ∷ [], c.in-Ok.ensures.items ∙ ap (λ (l : List ℕ). c.args.out.now.items ++ l) (sym (append-nil (token (String said)))))
