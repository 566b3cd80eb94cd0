use denote.Param.Send.{sendable}
use Rattle.std.proofs.Crossing as vecs
use Rattle.resp_device.proofs.Sent.{device_send}
use Rattle.object_player.proofs.stores.run_locked.Goals as goal

pub behind_lock-requires-send-D : goal.behind_lock-requires-send-D
behind_lock-requires-send-D g c = search (sendable, vecs.crosses, device_send) depth 40 fits 100000
