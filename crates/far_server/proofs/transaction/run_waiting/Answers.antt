use Rattle.std.proofs.Common.{ℕ, List, subst}
use Rattle.far_server.specs.Runs.{IsRequest}
use Rattle.far_server.proofs.Pushed.{on_ok}
use Rattle.far_server.proofs.transaction.run_waiting.Goals as goal

pub returns-clause-ran : goal.returns-clause-ran
returns-clause-ran g c = on_ok c.run.result (λ p.
    let Q : List (List ℕ) → Type 0 = λ words. IsRequest g.S.Calls.limits c.args.context.now.settings.now.digest_keys c.args.context.now.settings.now.bounds c.args.limit c.args.connection.now.selected c.run.new.connection.selected words (g.S.Calls.shown c.args.me.now) (g.S.Calls.shown c.run.new.me) p.0 in
    (p.0, p.1, subst Q c.arguments-request.ensures p.2)) c.run.ensures.ran
