-- Which devices may go to another thread: those whose pipes may.
use denote.RattleType.{RattleType}
use denote.Param.Send.{IsSend, sendable}
use denote.Param.SendFields.{declared_send, FieldsHave}
use Rattle.std.proofs.Crossing as vecs
use Rattle.std.proofs.MapsCrossing as maps
use Rattle.resp_device.specs.contracts.object_record.Kept as Kept
use Rattle.resp_device.specs.contracts.index.Index as Index
use Rattle.resp_device.specs.contracts.link.Link as Link
use Rattle.resp_device.specs.contracts.requests.Requests as Requests
use Rattle.resp_device.specs.contracts.failures.Failures as Failures
use Rattle.resp_device.specs.contracts.fault.StoreFailure as StoreFailure
use Rattle.std.specs.contracts.io.ErrorKind as ErrorKind
use Rattle.resp_device.specs.contracts.device.RespDevice as RespDevice

kept_send : IsSend Kept.the_row
kept_send = search (sendable, vecs.crosses, maps.crosses) depth 20

index_send : IsSend Index.the_row
index_send = let kept = kept_send in search (sendable, vecs.crosses, maps.crosses) depth 20

requests_send : IsSend Requests.the_row
requests_send = search (sendable, vecs.crosses) depth 20

-- Step by step, since a search that goes down through all of it runs out of steps.
kind_send : IsSend ErrorKind.the_row
kind_send = search sendable depth 120 fits 100000

failure_send : IsSend StoreFailure.the_row
failure_send = let kind = kind_send in search sendable depth 200 fits 100000

failures_send : IsSend Failures.the_row
failures_send = let failure = failure_send in search sendable depth 200 fits 100000

link_send : (P : RattleType) → IsSend P → IsSend (Link.the_row P)
link_send P pipes =
    let all : FieldsHave IsSend (Link.the_type P).parts = (search (sendable, pipes), (search sendable, (search (sendable, vecs.crosses), (search (sendable, vecs.crosses), tt)))) in
    declared_send (Link.the_type P) all

pub device_send : (P : RattleType) → IsSend P → IsSend (RespDevice.the_row P)
device_send P pipes =
    let all : FieldsHave IsSend (RespDevice.the_type P).parts = (link_send P pipes, (search sendable, (requests_send, (index_send, (search (sendable, vecs.crosses), (failures_send, tt)))))) in
    declared_send (RespDevice.the_type P) all
