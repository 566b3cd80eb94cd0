use Rattle.run_lines.proofs.Written.{nothing, more_pairs, all_pairs}
use Rattle.run_lines.proofs.output.write_pairs.Goals as goal

pub loop-pair-init : goal.loop-pair-init
loop-pair-init g c = nothing (g.W.Write.contents c.args.out.now)

pub loop-pair-preserved : goal.loop-pair-preserved
loop-pair-preserved g c =
    more_pairs g.P.Pair.texts_of (g.W.Write.contents c.args.out.now) (g.W.Write.contents c.loop-pair.out) (g.W.Write.contents c.write_pair.new.out) c.args.pairs.now c.loop-pair.pair-index c.pair-item.result
    c.loop-pair-test.true c.pair-item.is c.loop-pair.invariant c.in_ok-write_pair.ensures

pub returns : goal.returns
returns g c = all_pairs g.P.Pair.texts_of (g.W.Write.contents c.args.out.now) (g.W.Write.contents c.loop-pair.out) c.args.pairs.now c.loop-pair.pair-index c.loop-pair-test.false c.loop-pair.invariant
