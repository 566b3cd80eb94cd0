use Rattle.std.proofs.lemmas.Result.{on_ok_weaker}
use Rattle.plain_run.proofs.Runs.{ran}
use Rattle.plain_run.proofs.run.run_file.Goals as goal

pub returns-clause-ran : goal.returns-clause-ran
returns-clause-ran g c =
    on_ok_weaker c.write_run.result
    (ran c.args.buckets c.args.limit (g.R.Read.remaining c.args.file.now) c.in-Ok.script c.in-Ok-open.table c.run.new.table c.in-Ok-run.lines.items
    (g.W.Write.contents c.args.out.now) (g.W.Write.contents c.write_run.new.out) c.in-Ok.ensures.said c.in-Ok-run.ensures.ran c.in-Ok-open.ensures.settings.0 c.in-Ok-open.ensures.settings.1)
    c.write_run.ensures.written
