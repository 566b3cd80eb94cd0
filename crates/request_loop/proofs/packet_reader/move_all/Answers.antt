use Rattle.std.proofs.Common.{rules, arith}
use Rattle.request_loop.proofs.Known.{keeps-refl, keeps-trans}
use Rattle.request_loop.proofs.packet_reader.move_all.Goals as goal

pub loop-round-init : goal.loop-round-init
loop-round-init g c = record { moved = search rules; counted = search (rules, arith); same = keeps-refl (g.W.Write.contents c.args.output.now) }

pub loop-round-preserved : goal.loop-round-preserved
loop-round-preserved g c = record { moved = search rules; counted = search (rules, arith); same = keeps-trans (g.W.Write.contents c.args.output.now) (g.W.Write.contents c.loop-round.output) (g.W.Write.contents c.make_ready.new.output) c.loop-round.invariant.same c.make_ready.ensures.same }

pub returns-then-left-eq0-clause-same : goal.returns-then-left-eq0-clause-same
returns-then-left-eq0-clause-same g c = c.loop-round.invariant.same

pub returns-in_err-make_ready-clause-same : goal.returns-in_err-make_ready-clause-same
returns-in_err-make_ready-clause-same g c = keeps-trans (g.W.Write.contents c.args.output.now) (g.W.Write.contents c.loop-round.output) (g.W.Write.contents c.make_ready.new.output) c.loop-round.invariant.same c.make_ready.ensures.same

pub returns-then-n-eq0-clause-same : goal.returns-then-n-eq0-clause-same
returns-then-n-eq0-clause-same g c = keeps-trans (g.W.Write.contents c.args.output.now) (g.W.Write.contents c.loop-round.output) (g.W.Write.contents c.make_ready.new.output) c.loop-round.invariant.same c.make_ready.ensures.same

pub returns-in-Err-clause-same : goal.returns-in-Err-clause-same
returns-in-Err-clause-same g c = keeps-trans (g.W.Write.contents c.args.output.now) (g.W.Write.contents c.loop-round.output) (g.W.Write.contents c.make_ready.new.output) c.loop-round.invariant.same c.make_ready.ensures.same

pub returns-clause-same : goal.returns-clause-same
returns-clause-same g c = c.loop-round.invariant.same
