-- The settings of a run's map.
use Rattle.std.specs.Prelude.{◌-◌, ◌^◌}
use Rattle.hash_table.specs.declared.config.Config.{Config}
use Rattle.far_map.specs.declared.settings.Settings.{Settings}

-- all but the lanes, of which there is one for each device; the bytes in frames are not bounded
abbrev pub settings_of : Config → Settings
settings_of c = record { buckets = c.buckets; frames = c.frames; limit = c.limit; names = c.names; passes = c.passes; spares = c.spares; bytes = 2 ^ 64 - 1; format = c.format }
