use denote.Param.Send.{sendable}
use Rattle.std.proofs.Common.{refl}
use Rattle.std.proofs.Crossing as vecs
use Rattle.std.proofs.MapsCrossing as maps
use Rattle.file_device.proofs.Sent.{disk_send}
use Rattle.farserve.proofs.Served.{has_served}
use Rattle.farserve.proofs.Sent.{counted_send, resting_send}
use Rattle.farserve.proofs.serve.Goals as goal

pub serve_over-requires-send-D : goal.serve_over-requires-send-D
serve_over-requires-send-D g c κs within = search (sendable, vecs.crosses, maps.crosses, counted_send) depth 40 fits 100000

pub serve_over-requires-in-Files-send-D : goal.serve_over-requires-in-Files-send-D
serve_over-requires-in-Files-send-D g c κs within = search (sendable, vecs.crosses, maps.crosses, counted_send, disk_send) depth 40 fits 100000

pub serve_over-requires-in-Store-send-D : goal.serve_over-requires-in-Store-send-D
serve_over-requires-in-Store-send-D g c κs within = search (sendable, resting_send) depth 40 fits 100000

pub returns-in_ok-tell-in-Nowhere : goal.returns-in_ok-tell-in-Nowhere
returns-in_ok-tell-in-Nowhere g c = record { served = has_served c.serve_over.result c.args.asked.now c.settings-settings.result _ _ c.settings-settings.ensures (λ unless. refl) c.serve_over.ensures.served }

pub returns-in_ok-tell-in-Files : goal.returns-in_ok-tell-in-Files
returns-in_ok-tell-in-Files g c = record { served = has_served c.serve_over-in-Files.result c.args.asked.now c.settings-settings.result _ _ c.settings-settings.ensures (λ unless. unless) c.serve_over-in-Files.ensures.served }

pub returns-in_ok-devices-in-Store : goal.returns-in_ok-devices-in-Store
returns-in_ok-devices-in-Store g c = record { served = has_served c.serve_over-in-Store.result c.args.asked.now c.settings-settings.result _ _ c.settings-settings.ensures (λ unless. unless) c.serve_over-in-Store.ensures.served }
