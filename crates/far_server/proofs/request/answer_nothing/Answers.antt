use Rattle.std.proofs.Common.{◌∷◌, [], refl, sym, subst}
use Rattle.std.specs.Prelude.{codes}
use Rattle.resp.specs.Replies.{Simple}
use Rattle.commands.specs.Arguments.{listed}
use Rattle.commands.specs.declared.command.Command.TheVariants as command
use Rattle.commands.specs.declared.name.OfNothing.{OfNothing}
use Rattle.far_server.specs.Answers.{known, IsServedAs}
use Rattle.far_server.proofs.Pushed.{on_ok}
use Rattle.far_server.proofs.request.answer_nothing.Goals as goal

pub returns-in-Reset : goal.returns-in-Reset
returns-in-Reset g c =
    let session = g.S.Calls.shown c.args.me.now in
    let settings = c.args.context.now.settings.now in
    let R : OfNothing → Type 0 = λ of. IsServedAs g.S.Calls.limits settings.digest_keys settings.bounds settings.password (command.Nothing of) (known c.args.connection.now) (known c.answer_reset.new.connection) (listed c.args.request) session session (Simple (codes "RESET") ∷ []) in
    on_ok c.answer_reset.result (λ said. (Simple (codes "RESET") ∷ [], said, subst R (sym c.in-Reset.is) (c.answer_reset.ensures.known, refl, refl))) c.answer_reset.ensures.said
