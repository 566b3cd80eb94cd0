-- The settings of a map, and which of them a fault names.
use Rattle.std.specs.Prelude.{ℕ, ◌==◌, ◌-◌, ◌^◌, min, if◌then◌else◌, Option}
use Rattle.std.specs.Option.{option_map}
use Rattle.hash_table.specs.Configs.{first_bad_wide_with}
use Rattle.hash_table.specs.declared.config.Config.{Config}
use Rattle.far_map.specs.declared.settings.Settings.{Settings}
use Rattle.far_map.specs.declared.settings.Setting.{Setting}
use Rattle.far_map.specs.declared.settings.Setting.TheVariants as setting

-- all names and passes that there can be, 256 spares, no bound on the bytes in frames, and the second format
abbrev pub new_settings : ℕ → ℕ → ℕ → Settings
new_settings buckets frames limit = record { buckets = buckets; frames = frames; limit = limit; names = 2 ^ 40 - 1; passes = 65535; spares = 256; bytes = 2 ^ 64 - 1; format = 2 }

-- the table's settings, with a lane for each device; more than 64 devices are one too many
abbrev pub config_of : Settings → ℕ → Config
config_of s devices = record { buckets = s.buckets; frames = s.frames; limit = s.limit; names = s.names; passes = s.passes; lanes = min devices 65; spares = s.spares; format = s.format }

-- the setting that the table calls by this number
abbrev pub setting_of : ℕ → Setting
setting_of n =
    if n == 1 then setting.Buckets
    else (if n == 2 then setting.Frames
    else (if n == 3 then setting.Limit
    else (if n == 4 then setting.Names
    else (if n == 5 then setting.Passes
    else (if n == 6 then setting.Lanes
    else (if n == 7 then setting.Spares
    else setting.Format))))))

-- the first setting that is outside its limits, where there are so many devices
abbrev pub first_bad : Settings → ℕ → Option Setting
first_bad s devices = option_map setting_of (first_bad_wide_with devices (config_of s devices))
