use Rattle.std.proofs.Common.{◌≡◌, ◌≤◌, ◌==◌, List, length, sym, subst, arith}
use Rattle.std.proofs.lemmas.Bool.Decides.{nat_tests}
use Rattle.command_file.specs.declared.command.Command.{Command}
use Rattle.threaded_run.specs.Runs.{EndedIs}
use Rattle.threaded_run.proofs.Working.{idle, past_end}
use Rattle.threaded_run.proofs.worker.FilesWorkText.work.Goals as goal

-- there is no such file
pub returns-in-None : goal.returns-in-None
returns-in-None g c =
    let l = g.S.Calls.limits in
    let now = g.S.Calls.shown c.args.me.now in
    let scripts = c.args.self.now.scripts.now in
    let none = c.in-None.ensures.lookup in
    let past : length scripts ≤ c.args.worker = grind (arith, nat_tests, none) in
    subst (λ (cs : List Command). EndedIs l now.limit now.pass cs (record { pass = now.pass; text = c.new.result.items })) (sym (past_end scripts c.args.worker past)) (idle l now.limit now.pass c.new.result.items c.new.ensures.items c.requires.new)
