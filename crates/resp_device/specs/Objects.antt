-- Which objects a device has in its store.
use Rattle.std.specs.Prelude.{◌≡◌, ℕ, List, length, map, cond, Option, Some, nat_eq}
use Rattle.std.specs.Map.{lookup}
use Rattle.std.specs.FinMap.{from_entries}
use Rattle.std.specs.declared.random_state.RandomState.{RandomState}
use Rattle.digests.specs.Digests.{digest_under}
use Rattle.far_device.specs.DeviceState.{DeviceState, Contents}
use Rattle.resp_device.specs.declared.object_record.Kept.{Kept}

-- what was written
abbrev pub bytes_of : Kept → List ℕ
bytes_of kept = kept.written.value.items

-- what the index knows of an object
abbrev pub kept_at : List (ℕ × Kept) → ℕ → Option Kept
kept_at entries id = lookup (nat_eq id) entries

-- what the index says that the device holds
abbrev pub contents_of : List (ℕ × Kept) → Contents
contents_of entries = from_entries (map (λ entry. (entry.0, bytes_of entry.1)) entries)

abbrev pub state_of : List (ℕ × Kept) → ℕ → DeviceState
state_of entries failures = record { contents = contents_of entries; failures = failures }

-- new has this at the id, and elsewhere what old has
abbrev pub ChangesAt : List (ℕ × Kept) → List (ℕ × Kept) → ℕ → Option Kept → Type 0
ChangesAt old new id found = (other : ℕ) → kept_at new other ≡ cond (nat_eq id other) found (kept_at old other)

-- length and digest are those of what was written
abbrev pub IsSound : RandomState → Kept → Type 0
IsSound keys kept = (kept.len ≡ length (bytes_of kept)) × (kept.digest ≡ digest_under keys (bytes_of kept))

abbrev pub AreSound : RandomState → List (ℕ × Kept) → Type 0
AreSound keys entries = (id : ℕ) (kept : Kept) → kept_at entries id ≡ Some kept → IsSound keys kept
