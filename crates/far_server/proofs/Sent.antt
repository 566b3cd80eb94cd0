-- What devices report to may be shared between threads.
use denote.Param.Send.{IsSync, sendable}
use Rattle.std.proofs.Crossing as vecs
use Rattle.file_device.proofs.Sent.{space_send, space_sync}
use Rattle.far_server.specs.contracts.usage.FarUsage as FarUsage

pub usage_sync : IsSync FarUsage.the_row
usage_sync = let send = space_send in let sync = space_sync in search (sendable, vecs.crosses) depth 40 fits 100000
