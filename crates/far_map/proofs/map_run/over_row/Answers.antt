use Rattle.std.proofs.Common.{sym, ap, ◌∙◌}
use Rattle.version_words.specs.Rows.{limits_of}
use Rattle.hash_table.specs.Configs.{sizes_of}
use Rattle.hash_table.specs.declared.config.Config.{Config}
use Rattle.far_map.proofs.Working.{run_as}
use Rattle.far_map.proofs.map_run.over_row.Goals as goal

pub returns-clause-ran : goal.returns-clause-ran
returns-clause-ran g c =
    run_as g.V.FarObject.enc c.over_queue.result (λ r. r.0.items) (λ r. r.1) (g.W.Work.done c.args.work.now) g.T.TakesPairs.takes g.T.TakesPairs.stops c.args.taker.now c.over_queue.new.taker (limits_of (sizes_of c.args.config) g.D.Device.HONEST) g.J.Naming.limits c.args.config.limit c.in_ok-table.table.limit c.args.count c.args.end
    (sym c.requires.limits ∙ ap (λ (k : Config). limits_of (sizes_of k) g.D.Device.HONEST) c.requires.config) (c.in_ok-table.ensures.limit ∙ ap (λ (k : Config). k.limit) c.requires.config) c.over_queue.ensures.ran
