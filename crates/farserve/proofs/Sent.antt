-- Which devices may go to another thread: a counted one whose disk may, and one over a store whose clock may.
use denote.RattleType.{RattleType}
use denote.Ref.{NamedLft}
use denote.Param.Send.{IsSend, sendable}
use denote.Param.SendFields.{declared_send, FieldsHave}
use Rattle.std.proofs.Crossing as vecs
use Rattle.file_device.specs.declared.disk.Disk.{Ghosts}
use Rattle.std.proofs.MapsCrossing as maps
use Rattle.far_server.proofs.Sent.{usage_sync}
use Rattle.file_device.proofs.Sent.{device_send}
use Rattle.resp_device.proofs.Sent as resp
use Rattle.std.specs.contracts.fs.File as File
use Rattle.streams.proofs.Sent.{reader_send, writer_send}
use Rattle.server_commands.specs.contracts.device_reason.DeviceReason as DeviceReason
use Rattle.farserve.specs.contracts.counted_device.CountedDevice as CountedDevice
use Rattle.farserve.specs.contracts.link.Link as Link
use Rattle.farserve.specs.contracts.link.Ends as Ends
use Rattle.farserve.specs.contracts.rest.Rest as Rest
use Rattle.farserve.specs.contracts.resting_store.RestingStore as RestingStore
use Rattle.farserve.specs.contracts.stores.StoreDevice as StoreDevice

pub counted_send : (κ : NamedLft) (K C : RattleType) (g : Ghosts K.Denot) → IsSend K → IsSend C → IsSend (CountedDevice.the_row κ K C g)
counted_send κ K C g disk clock =
    let device = device_send K g disk in
    let usage = usage_sync in
    let all : FieldsHave IsSend (CountedDevice.the_type κ K C g).parts = (search (sendable, device), (search (sendable, clock), (search (sendable, vecs.crosses) depth 40, tt))) in
    declared_send (CountedDevice.the_type κ K C g) all

ends_send : IsSend Ends.the_row
ends_send = search (sendable, vecs.crosses, reader_send, writer_send) depth 40 fits 100000

link_send : IsSend Link.the_row
link_send = let ends = ends_send in search (sendable, vecs.crosses) depth 40

pub stored_send : (κ : NamedLft) → IsSend (StoreDevice.the_row κ)
stored_send κ =
    let device = resp.device_send Link.the_row link_send in
    let usage = usage_sync in
    let all : FieldsHave IsSend (StoreDevice.the_type κ).parts = (search (sendable, device), (search (sendable, vecs.crosses, maps.crosses) depth 40, (search (sendable, vecs.crosses) depth 40, tt))) in
    declared_send (StoreDevice.the_type κ) all

rest_send : IsSend Rest.the_row
rest_send = search sendable depth 40

reason_send : IsSend DeviceReason.the_row
reason_send = search sendable depth 40

pub resting_send : (κ : NamedLft) (C : RattleType) → IsSend C → IsSend (RestingStore.the_row κ C)
resting_send κ C clock =
    let inner = stored_send κ in
    let rest = rest_send in
    let reason = reason_send in
    let usage = usage_sync in
    let all : FieldsHave IsSend (RestingStore.the_type κ C).parts = (search (sendable, inner), (search (sendable, clock), (search (sendable, rest), (search (sendable, rest), (search (sendable, reason), (search (sendable, reason), (search sendable, (search (sendable, vecs.crosses) depth 40, tt)))))))) in
    declared_send (RestingStore.the_type κ C) all
