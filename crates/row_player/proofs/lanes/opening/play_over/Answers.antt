use denote.Param.Send.{sendable}
use Rattle.std.proofs.Crossing as vecs
use Rattle.std.proofs.MapsCrossing as maps
use Rattle.file_device.proofs.Sent.{device_send}
use Rattle.row_player.proofs.lanes.opening.play_over.Goals as goal

-- the device over a disk of the process may go to another thread
pub over-requires-in-Ok-send-D : goal.over-requires-in-Ok-send-D
over-requires-in-Ok-send-D g c κs within = search (sendable, vecs.crosses, maps.crosses, device_send) depth 40 fits 100000
