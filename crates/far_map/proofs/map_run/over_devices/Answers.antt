use Rattle.std.specs.Prelude.{vec_len}
use Rattle.far_map.proofs.Settling.{settled}
use Rattle.far_map.proofs.map_run.over_devices.Goals as goal

pub over_row-requires-clause-frames : goal.over_row-requires-clause-frames
over_row-requires-clause-frames g c κs within = let s = settled (vec_len c.args.devices) c.config-config.result c.in_ok-opening.ensures.within in s.frames

pub over_row-requires-clause-spares : goal.over_row-requires-clause-spares
over_row-requires-clause-spares g c κs within = let s = settled (vec_len c.args.devices) c.config-config.result c.in_ok-opening.ensures.within in s.spares
