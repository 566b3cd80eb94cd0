use Rattle.run_lines.proofs.Written.{more_files}
use Rattle.run_lines.proofs.output.write_files.Goals as goal

pub loop-at-preserved : goal.loop-at-preserved
loop-at-preserved g c =
    more_files (g.W.Write.contents c.args.out.now) (g.W.Write.contents c.loop-at.out) (g.W.Write.contents c.write_file.new.out) c.args.texts.now c.loop-at.at c.index-texts-at.result c.as_slice.result.now
    c.loop-at-test.true c.index-texts-at.is c.as_slice.ensures.value c.loop-at.invariant c.in_ok-write_file.ensures
