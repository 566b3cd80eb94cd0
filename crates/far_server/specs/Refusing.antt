-- What is replied for a call that the map refuses.
use Rattle.std.specs.Prelude.{◌≡◌, ◌⊎◌, ℕ, List, Option, None, Some, codes}
use Rattle.far_map.specs.declared.refusal.MapRefusal.{MapRefusal}
use Rattle.far_map.specs.declared.refusal.MapRefusal.TheVariants as refusal
use Rattle.server_commands.specs.declared.device_reason.DeviceReason.{DeviceReason}
use Rattle.server_commands.specs.declared.device_reason.DeviceReason.TheVariants as reason

abbrev pub text_of : MapRefusal → List ℕ
text_of refusal.TooLong = codes "ERR bucket is full"
text_of (refusal.Full what) = codes "OOM command not allowed: nothing can be swapped out"
text_of refusal.NamesSpent = codes "ERR the map is being renewed, try again"
text_of refusal.Device = codes "ERR far device failed"
text_of refusal.Damaged = codes "ERR far device gave back damaged bytes"
text_of refusal.Memory = codes "OOM command not allowed: out of memory"

-- of a device that failed for this reason
abbrev pub device_text : DeviceReason → List ℕ
device_text reason.NoSpace = codes "ERR far device failed: no space left on device"
device_text reason.InputOutput = codes "ERR far device failed: input/output error"
device_text reason.PermissionDenied = codes "ERR far device failed: permission denied"
device_text reason.ReadOnly = codes "ERR far device failed: read-only file system"
device_text reason.Missing = codes "ERR far device failed: no such file or directory"
device_text reason.Unreachable = codes "ERR far device failed: store unreachable"
device_text reason.Refused = codes "ERR far device failed: store replied with an error"
device_text reason.Lost = codes "ERR far device failed: store has lost the object"
device_text reason.Damaged = codes "ERR far device failed: damaged object"
device_text reason.Other = codes "ERR far device failed: other error"

-- A refusal's text has a reason only where a device failed, and the reason is known. So all texts are of a finite list.
abbrev pub text_with : MapRefusal → Option DeviceReason → List ℕ
text_with refusal.Device (Some why) = device_text why
text_with refusal.Device None = text_of refusal.Device
text_with refusal.TooLong known = text_of refusal.TooLong
text_with (refusal.Full what) known = text_of (refusal.Full what)
text_with refusal.NamesSpent known = text_of refusal.NamesSpent
text_with refusal.Damaged known = text_of refusal.Damaged
text_with refusal.Memory known = text_of refusal.Memory

-- A refusal is told as it is, or as want of memory: so is one of a device where none keeps anything.
abbrev pub IsTold : MapRefusal → MapRefusal → Type 0
IsTold why told = (told ≡ why) ⊎ ((why ≡ refusal.Device) × (told ≡ refusal.Memory))

-- where memory is full, and nothing can be swapped out: with the reason for which a device failed, if that is known
abbrev pub no_room : Option DeviceReason → List ℕ
no_room None = codes "OOM command not allowed when used memory > 'maxmemory'."
no_room (Some reason.NoSpace) = codes "OOM command not allowed when used memory > 'maxmemory'. Far device failed: no space left on device"
no_room (Some reason.InputOutput) = codes "OOM command not allowed when used memory > 'maxmemory'. Far device failed: input/output error"
no_room (Some reason.PermissionDenied) = codes "OOM command not allowed when used memory > 'maxmemory'. Far device failed: permission denied"
no_room (Some reason.ReadOnly) = codes "OOM command not allowed when used memory > 'maxmemory'. Far device failed: read-only file system"
no_room (Some reason.Missing) = codes "OOM command not allowed when used memory > 'maxmemory'. Far device failed: no such file or directory"
no_room (Some reason.Unreachable) = codes "OOM command not allowed when used memory > 'maxmemory'. Far device failed: store unreachable"
no_room (Some reason.Refused) = codes "OOM command not allowed when used memory > 'maxmemory'. Far device failed: store replied with an error"
no_room (Some reason.Lost) = codes "OOM command not allowed when used memory > 'maxmemory'. Far device failed: store has lost the object"
no_room (Some reason.Damaged) = codes "OOM command not allowed when used memory > 'maxmemory'. Far device failed: damaged object"
no_room (Some reason.Other) = codes "OOM command not allowed when used memory > 'maxmemory'. Far device failed: other error"

-- where others were faster each time
abbrev pub overtaken : List ℕ
overtaken = codes "ERR the key is under contention, try again"

-- where a key has more bytes than one that is stored
abbrev pub key_too_long : List ℕ
key_too_long = codes "ERR key is too long"
