-- What is read is what its receipt says.
use Rattle.lane_store.proofs.Reading.{read_tells}
use Rattle.lane_store.proofs.store.LaneStore.read.Goals as goal

pub returns-clause-found : goal.returns-clause-found
returns-clause-found g c =
    read_tells g.D.Device.state g.D.Device.labels g.K.FarObject.enc g.V.FarObject.enc g.K.FarObject.admits g.V.FarObject.admits g.J.Naming.limits g.D.Device.HONEST _ _ c.args.name c.args.out.now.items c.read.new.out.items c.read.result
    c.read.ensures.reads c.read.ensures.stored
