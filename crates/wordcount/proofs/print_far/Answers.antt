use denote.Param.Send.{sendable}
use Rattle.std.proofs.Crossing as vecs
use Rattle.std.proofs.MapsCrossing as maps
use Rattle.file_device.proofs.Sent.{device_send, disk_send}
use Rattle.wordcount.proofs.print_far.Goals as goal

pub print_top-requires-send-D : goal.print_top-requires-send-D
print_top-requires-send-D g c κs within = search (sendable, vecs.crosses, maps.crosses, device_send, disk_send) depth 40 fits 100000
