use Rattle.far_map.specs.Loads.{lost_of}
use Rattle.far_map.proofs.Carrying.{loading_none}
use Rattle.far_map.proofs.load.put_all.Goals as goal

pub loop-init : goal.loop-init
loop-init g c = (loading_none g.D.Device.HONEST c.args.rest.now (g.S.Calls.shown c.args.me.now).pass (lost_of c.args.before), λ none. none)
