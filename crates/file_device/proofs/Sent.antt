-- Which devices may go to another thread: those whose disk may.
use denote.RattleType.{RattleType}
use denote.Param.Send.{IsSend, IsSync, sendable}
use denote.Param.SendFields.{declared_send, FieldsHave}
use Rattle.std.proofs.Crossing as vecs
use Rattle.std.proofs.MapsCrossing as maps
use Rattle.file_device.specs.declared.disk.Disk.{Ghosts}
use Rattle.file_device.specs.contracts.ledger.Ledger as Ledger
use Rattle.file_device.specs.contracts.owners.Owners as Owners
use Rattle.file_device.specs.contracts.place.Place as Place
use Rattle.file_device.specs.contracts.catalog.Catalog as Catalog
use Rattle.file_device.specs.contracts.failures.Failures as Failures
use Rattle.file_device.specs.contracts.fault.DiskFault as DiskFault
use Rattle.file_device.specs.contracts.fault.FileFailure as FileFailure
use Rattle.file_device.specs.contracts.fault.Step as Step
use Rattle.std.specs.contracts.io.ErrorKind as ErrorKind
use Rattle.file_device.specs.contracts.device.FileDevice as FileDevice
use Rattle.file_device.specs.contracts.file_disk.FileDisk as FileDisk
use Rattle.file_device.specs.contracts.scratch.ScratchFolder as ScratchFolder
use Rattle.file_device.specs.contracts.scratch_file.Share as Share
use Rattle.file_device.specs.contracts.scratch_file.ScratchFile as ScratchFile
use Rattle.file_device.specs.contracts.space.IdleFile as IdleFile
use Rattle.file_device.specs.contracts.space.LaneFiles as LaneFiles
use Rattle.file_device.specs.contracts.space.ScratchSpace as ScratchSpace

ledger_send : IsSend Ledger.the_row
ledger_send = search (sendable, vecs.crosses, maps.crosses) depth 20

owners_send : IsSend Owners.the_row
owners_send = let ledger = ledger_send in search (sendable, vecs.crosses, maps.crosses) depth 20

place_send : IsSend Place.the_row
place_send = search (sendable, vecs.crosses, maps.crosses) depth 20

catalog_send : IsSend Catalog.the_row
catalog_send = let owners = owners_send in let place = place_send in search (sendable, vecs.crosses, maps.crosses) depth 20

-- Step by step, since a search that goes down through all of it runs out of steps.
kind_send : IsSend ErrorKind.the_row
kind_send = search sendable depth 120 fits 100000

step_send : IsSend Step.the_row
step_send = search sendable depth 20

fault_send : IsSend DiskFault.the_row
fault_send = search sendable depth 200 fits 100000

failure_send : IsSend FileFailure.the_row
failure_send = search sendable depth 200 fits 100000

failures_send : IsSend Failures.the_row
failures_send = let failure = failure_send in search sendable depth 200 fits 100000

pub device_send : (K : RattleType) (g : Ghosts K.Denot) → IsSend K → IsSend (FileDevice.the_row K g)
device_send K g disk =
    let all : FieldsHave IsSend (FileDevice.the_type K g).parts = (search (sendable, disk), (search sendable, (catalog_send, (search (sendable, vecs.crosses), (failures_send, tt))))) in
    declared_send (FileDevice.the_type K g) all

idle_send : IsSend IdleFile.the_row
idle_send = search sendable depth 40

lane_files_send : IsSend LaneFiles.the_row
lane_files_send = let idle = idle_send in search (sendable, vecs.crosses) depth 40

lane_files_sync : IsSync LaneFiles.the_row
lane_files_sync = let idle = idle_send in search (sendable, vecs.crosses) depth 40

-- a space, which devices share with the thread that cuts files
pub space_send : IsSend ScratchSpace.the_row
space_send = let files = lane_files_send in search (sendable, vecs.crosses) depth 40

pub space_sync : IsSync ScratchSpace.the_row
space_sync = let files = lane_files_sync in search (sendable, vecs.crosses) depth 40

share_send : IsSend Share.the_row
share_send = let send = space_send in let sync = space_sync in search (sendable, vecs.crosses) depth 40

file_send : IsSend ScratchFile.the_row
file_send = let share = share_send in search sendable depth 40

folder_send : (R : RattleType) → IsSend R → IsSend (ScratchFolder.the_row R)
folder_send R handle =
    let share = share_send in
    let all : FieldsHave IsSend (ScratchFolder.the_type R).parts = (search (sendable, handle), (search sendable, (search (sendable, vecs.crosses) depth 40, (search sendable depth 40, tt)))) in
    declared_send (ScratchFolder.the_type R) all

-- a disk in scratch files, whose handle may
pub disk_send : (R : RattleType) → IsSend R → IsSend (FileDisk.the_row (ScratchFolder.the_row R) ScratchFile.the_row)
disk_send R handle =
    let folder = folder_send R handle in
    let file = file_send in
    let all : FieldsHave IsSend (FileDisk.the_type (ScratchFolder.the_row R) ScratchFile.the_row).parts = (search (sendable, folder), (search (sendable, vecs.crosses) depth 40, (search (sendable, vecs.crosses) depth 40, tt))) in
    declared_send (FileDisk.the_type (ScratchFolder.the_row R) ScratchFile.the_row) all
