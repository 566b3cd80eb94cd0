use denote.Param.Send.{sendable}
use Rattle.std.proofs.Common.{refl}
use Rattle.std.proofs.Crossing as vecs
use Rattle.std.proofs.MapsCrossing as maps
use Rattle.file_device.proofs.Sent.{disk_send}
use Rattle.farcalls.proofs.Served.{has_served}
use Rattle.farcalls.proofs.Sent.{reasoned_send}
use Rattle.farcalls.proofs.serve.Goals as goal

pub serve_over-requires-send-D : goal.serve_over-requires-send-D
serve_over-requires-send-D g c κs within = search (sendable, vecs.crosses, maps.crosses, reasoned_send, disk_send) depth 40 fits 100000

pub serve_over-requires-else-is_far-send-D : goal.serve_over-requires-else-is_far-send-D
serve_over-requires-else-is_far-send-D g c κs within = search (sendable, vecs.crosses, maps.crosses, reasoned_send) depth 40 fits 100000

pub returns-then-is_far : goal.returns-then-is_far
returns-then-is_far g c = record { served = has_served c.serve_over.result c.args.asked.now c.in_ok-settings.settings _ _ c.in_ok-settings.ensures (λ unless. unless) c.serve_over.ensures.served }

pub returns : goal.returns
returns g c = record { served = has_served c.serve_over-else-is_far.result c.args.asked.now c.in_ok-settings.settings _ _ c.in_ok-settings.ensures (λ unless. refl) c.serve_over-else-is_far.ensures.served }
