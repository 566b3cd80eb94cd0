use Rattle.std.proofs.Common.{◌≡◌, IsTrue}
use Rattle.std.specs.Prelude.{vec_len}
use Rattle.version_words.specs.Rows.{limits_of}
use Rattle.hash_table.specs.Configs.{sizes_of}
use Rattle.far_map.specs.Settings.{config_of}
use Rattle.far_map.specs.Loads.{Comes}
use Rattle.far_map.specs.Generations.{Reached}
use Rattle.far_map.specs.Views.{Pairs}
use Rattle.far_map.proofs.renewal.run_renewed.Given as goal

-- generations so far, and what waits of the last one's map; the devices are as many as first, and so are the workers
abbrev pub invariant-loop : goal.invariant-loop
invariant-loop g l =
    (before : Pairs g.row.V.Denot)
    × Reached g.V.FarObject.enc (g.W.RenewableWork.done l.fn.work) (limits_of (sizes_of (config_of l.fn.settings (vec_len l.fn.devices))) g.D.Device.HONEST) l.fn.settings.limit l.fn.states.items l.states.items l.lost before
    × (IsTrue g.D.Device.HONEST → Comes before l.rest l.left.lost)
    × (vec_len l.left.devices ≡ vec_len l.fn.devices)
    × (vec_len l.states ≡ vec_len l.fn.states)
