use Rattle.swapper.proofs.Collecting.{put_none, put_first}
use Rattle.swapper.proofs.evictor.Evictor.put_first_behind.Goals as goal

pub returns-in_default : goal.returns-in_default
returns-in_default g c = put_none c.args.self.now c.draw_kept.new.self c.args.failed c.if-not-failed.false c.in_default.ensures

pub returns : goal.returns
returns g c = put_first c.args.self.now c.draw_kept.new.self c.keep.new.self c.in-Some.first c.args.failed c.if-not-failed.false c.in-Some.ensures c.keep.ensures
