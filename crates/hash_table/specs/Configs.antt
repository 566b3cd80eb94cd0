-- The limits of the settings.
use Rattle.std.specs.Prelude.{◌≡◌, ℕ, true, false, Some, None, min, ◌==◌, ◌+◌, ◌<◌, ◌≤◌, ◌^◌, ◌&&◌, Bool, not, nat_le, List, [], ◌∷◌, Option, option_map, position}
use Rattle.hash_table.specs.declared.config.Config.{Config}
use Rattle.hash_table.specs.declared.config.Field.{Field}
use Rattle.hash_table.specs.declared.config.Width.{Width}
use Rattle.table_core.specs.Limits.{most_buckets, last_name, last_pass}
use Rattle.version_words.specs.declared.sizes.Sizes.{Sizes}
use Rattle.frame_cache.specs.Slots.{most_frames}

-- the greatest buckets, frames and limit of a table, and of a wide one
abbrev pub usual : Width
usual = record { buckets = 65536; frames = 65536; limit = 1048576 }

abbrev pub wide : Width
wide = record { buckets = most_buckets; frames = most_frames; limit = 2 ^ 24 }

abbrev pub bounded : ℕ → ℕ → ℕ → Field
bounded least greatest value = record { least = least; greatest = greatest; value = value }

-- the fields of a table that may be so wide, in the order of their numbers
abbrev pub fields : Width → Config → List Field
fields width c =
    bounded 1 width.buckets c.buckets
    ∷ bounded 1 width.frames c.frames
    ∷ bounded 4 width.limit c.limit
    ∷ bounded 1 last_name c.names
    ∷ bounded 1 last_pass c.passes
    ∷ bounded 1 64 c.lanes
    ∷ bounded 1 4096 c.spares
    ∷ bounded 1 2 c.format
    ∷ []

abbrev pub is_within : Field → Bool
is_within f = nat_le f.least f.value && nat_le f.value f.greatest

abbrev pub is_outside : Field → Bool
is_outside f = not (is_within f)

-- the number of the first field that is outside its limits, counted from 1
abbrev pub first_bad_of : Width → Config → Option ℕ
first_bad_of width c = option_map (λ i. i + 1) (position is_outside (fields width c))

abbrev pub first_bad : Config → Option ℕ
first_bad c = first_bad_of usual c

abbrev pub first_bad_wide : Config → Option ℕ
first_bad_wide c = first_bad_of wide c

-- the first bad field, where the lanes are as many as the devices or not
abbrev pub or_lanes : Option ℕ → Bool → Option ℕ
or_lanes first true = first
or_lanes None false = Some 6
or_lanes (Some n) false = Some (min n 6)

-- the same, where just so many devices are handed in: as many as there are lanes
abbrev pub first_bad_with : ℕ → Config → Option ℕ
first_bad_with devices c = or_lanes (first_bad c) (c.lanes == devices)

abbrev pub first_bad_wide_with : ℕ → Config → Option ℕ
first_bad_wide_with devices c = or_lanes (first_bad_wide c) (c.lanes == devices)

-- settings that a table can have, over so many devices
pub record IsSettled (devices : ℕ) (c : Config) : Type 0 where
  pub some_buckets : 0 < c.buckets
  pub buckets : c.buckets ≤ most_buckets
  pub frames : c.frames ≤ most_frames
  pub names : c.names ≤ last_name
  pub passes : c.passes ≤ last_pass
  pub some : 0 < devices
  pub most : devices ≤ 64
  pub lanes : c.lanes ≡ devices

-- the sizes of the row of words
abbrev pub sizes_of : Config → Sizes
sizes_of c = record { buckets = c.buckets; names = c.names; passes = c.passes }
