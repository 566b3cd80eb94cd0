use denote.Param.Send.{sendable}
use Rattle.std.proofs.Crossing as vecs
use Rattle.std.proofs.MapsCrossing as maps
use Rattle.file_device.proofs.Sent.{device_send, disk_send}
use Rattle.first_map.proofs.main.Goals as goal

-- the device may be sent to other threads
pub run-requires-send-D : goal.run-requires-send-D
run-requires-send-D g c κs = search (sendable, vecs.crosses, maps.crosses, device_send, disk_send) depth 40 fits 100000
