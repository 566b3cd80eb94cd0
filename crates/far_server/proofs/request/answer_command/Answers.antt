use Rattle.std.proofs.Common.{◌∷◌, [], refl, sym, subst}
use Rattle.std.specs.Prelude.{codes}
use Rattle.resp.specs.Replies.{Simple}
use Rattle.commands.specs.Arguments.{listed}
use Rattle.commands.specs.declared.command.Command.{Command}
use Rattle.far_server.specs.Answers.{known, IsServedAs}
use Rattle.far_server.proofs.Pushed.{on_ok}
use Rattle.far_server.proofs.request.answer_command.Goals as goal

pub returns-in-Quit : goal.returns-in-Quit
returns-in-Quit g c =
    let k = known c.args.connection.now in
    let session = g.S.Calls.shown c.args.me.now in
    let settings = c.args.context.now.settings.now in
    let Q : Command → Type 0 = λ a. IsServedAs g.S.Calls.limits settings.digest_keys settings.bounds settings.password a k k (listed c.args.request) session session (Simple (codes "OK") ∷ []) in
    on_ok c.push_one_simple.result (λ is. (Simple (codes "OK") ∷ [], is, subst Q (sym c.in-Quit.is) (refl, refl, refl))) c.push_one_simple.ensures.exact
