use Rattle.std.proofs.Common.{[], sym, subst, Bool}
use Rattle.swapper.specs.Evictors.{Tries}
use Rattle.swapper.proofs.Collecting.{tried_none, tried_own, tried_empty}
use Rattle.swapper.proofs.evictor.Evictor.empty_limbo.Goals as goal

pub loop-init : goal.loop-init
loop-init g c = ([], tried_none c.args.self.now c.args.failed)

pub loop-preserved : goal.loop-preserved
loop-preserved g c =
    tried_own c.args.self.now c.loop.self c.draw_own.new.self c.try_one.new.self c.in-Some-draw_own.spare c.loop.all.reclaimed c.try_one.result.reclaimed c.and-all.result.reclaimed c.args.failed c.loop.all.failed c.and-all.result.failed c.loop.invariant
    c.in-Some-draw_own.ensures (subst (λ (failed : Bool). Tries c.draw_own.new.self c.try_one.new.self c.in-Some-draw_own.spare c.loop.all.failed c.try_one.result.reclaimed failed) (sym c.and-all.ensures.failed) c.try_one.ensures) c.and-all.ensures.reclaimed

pub returns-in_default-clause-tried : goal.returns-in_default-clause-tried
returns-in_default-clause-tried g c = tried_empty c.args.self.now c.loop.self c.draw_own.new.self c.args.failed c.loop.all.reclaimed c.loop.all.failed c.loop.invariant c.in_default.ensures
