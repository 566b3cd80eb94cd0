use Rattle.lane_store.specs.Stores.{was_stored}
use Rattle.lane_store.proofs.store.LaneStore.write.Goals as goal

pub returns : goal.returns
returns g c = record { stored = was_stored g.D.Device.state g.D.Device.labels g.K.FarObject.enc g.V.FarObject.enc _ _ c.args.name.now c.args.format c.write.result c.write.ensures.writes }
