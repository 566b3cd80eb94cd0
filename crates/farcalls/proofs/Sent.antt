-- Which devices may go to another thread: one that reports why it failed, whose disk may.
use denote.RattleType.{RattleType}
use denote.Ref.{NamedLft}
use denote.Param.Send.{IsSend, sendable}
use denote.Param.SendFields.{declared_send, FieldsHave}
use Rattle.std.proofs.Crossing as vecs
use Rattle.file_device.specs.declared.disk.Disk.{Ghosts}
use Rattle.file_device.proofs.Sent.{device_send}
use Rattle.farcalls.specs.contracts.devices.ReasonedDevice as ReasonedDevice

pub reasoned_send : (κ : NamedLft) (K : RattleType) (g : Ghosts K.Denot) → IsSend K → IsSend (ReasonedDevice.the_row κ K g)
reasoned_send κ K g disk =
    let device = device_send K g disk in
    let all : FieldsHave IsSend (ReasonedDevice.the_type κ K g).parts = (search (sendable, device), (search (sendable, vecs.crosses) depth 40, tt)) in
    declared_send (ReasonedDevice.the_type κ K g) all
