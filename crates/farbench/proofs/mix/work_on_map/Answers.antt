use denote.Param.Send.{sendable}
use Rattle.std.proofs.Crossing as vecs
use Rattle.std.proofs.MapsCrossing as maps
use Rattle.file_device.proofs.Sent.{device_send, disk_send}
use Rattle.farbench.proofs.mix.work_on_map.Goals as goal

pub work_over-requires-in-Ok-send-D : goal.work_over-requires-in-Ok-send-D
work_over-requires-in-Ok-send-D g c κs within = search (sendable, vecs.crosses, maps.crosses, device_send, disk_send) depth 40 fits 100000
