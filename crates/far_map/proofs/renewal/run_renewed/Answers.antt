use Rattle.std.proofs.Common.{◌≡◌, [], length, refl, ◌∙◌, arith}
use Rattle.std.specs.Prelude.{vec_len}
use Rattle.far_object.specs.Encodings.{enc_text}
use Rattle.table_core.specs.Maps.{map_of}
use Rattle.table_core.specs.Logs.{history}
use Rattle.version_words.specs.Rows.{limits_of}
use Rattle.hash_table.specs.Configs.{sizes_of}
use Rattle.far_map.specs.Settings.{config_of}
use Rattle.far_map.specs.Generations.Reached.{First}
use Rattle.far_map.proofs.Carrying.{some_is}
use Rattle.far_map.proofs.Generating.{none_waits, waits_some, turn_over, reached_more, renewed, kept_count}
use Rattle.far_map.proofs.renewal.run_renewed.Goals as goal

pub loop-init : goal.loop-init
loop-init g c = ([], First, λ honest. none_waits c.in-Ok-over.rest 0 c.in-Ok-over.ensures, refl, refl)

pub returns-in-None-next-clause-ran : goal.returns-in-None-next-clause-ran
returns-in-None-next-clause-ran g c =
    let inv = c.loop.invariant in
    let ended = c.in-Ok-over_devices.generation in
    let config = config_of c.args.settings (vec_len c.args.devices) in
    let t = turn_over g.V.FarObject.enc (g.W.RenewableWork.done c.args.work.now) g.D.Device.HONEST c.in-Ok.config config c.loop.rest c.over_devices.new.rest ended.lost c.loop.states.items ended.kept.items ended.next c.in-Ok.ensures.config c.in-Ok-over_devices.ensures.ran in
    renewed g.V.FarObject.enc (g.W.RenewableWork.done c.args.work.now) (limits_of (sizes_of config) g.D.Device.HONEST) c.args.settings.limit c.args.states.items c.loop.states.items ended.kept.items c.loop.lost ended.lost c.saturating_add-lost.result
    c.loop.left.lost inv.0 c.loop.rest c.over_devices.new.rest ended.next inv.1 inv.2 t (λ none. c.behind-before.ensures (c.in-Ok-over_devices.ensures.counted none)) c.saturating_add-lost.ensures

pub loop-preserved : goal.loop-preserved
loop-preserved g c =
    let inv = c.loop.invariant in
    let ended = c.in-Ok-over_devices.generation in
    let config = config_of c.args.settings (vec_len c.args.devices) in
    let t = turn_over g.V.FarObject.enc (g.W.RenewableWork.done c.args.work.now) g.D.Device.HONEST c.in-Ok.config config c.loop.rest c.over_devices.new.rest ended.lost c.loop.states.items ended.kept.items ended.next c.in-Ok.ensures.config c.in-Ok-over_devices.ensures.ran in
    let count : length ended.kept.items ≡ length c.loop.states.items = kept_count g.V.FarObject.enc (g.W.RenewableWork.done c.args.work.now) (limits_of (sizes_of config) g.D.Device.HONEST) c.args.settings.limit c.loop.rest c.over_devices.new.rest ended.lost c.loop.states.items ended.kept.items ended.next t in (
      map_of enc_text g.V.FarObject.enc (history t.log),
      reached_more g.V.FarObject.enc (g.W.RenewableWork.done c.args.work.now) (limits_of (sizes_of config) g.D.Device.HONEST) c.args.settings.limit c.args.states.items c.loop.states.items ended.kept.items c.loop.lost ended.lost c.saturating_add-lost.result
          c.loop.left.lost inv.0 c.loop.rest c.over_devices.new.rest ended.next inv.1 inv.2 t (λ none. c.behind-before.ensures (c.in-Ok-over_devices.ensures.counted none)) c.saturating_add-lost.ensures,
      λ honest. waits_some g.V.FarObject.enc (limits_of (sizes_of config) g.D.Device.HONEST) t.log c.over_devices.new.rest ended.next c.in-Some-next.next c.in-Some-next.is t.waits honest,
      some_is (λ left. vec_len left.devices ≡ vec_len c.loop.left.devices) ended.next c.in-Some-next.next c.in-Some-next.is c.in-Ok-over_devices.ensures.devices ∙ inv.3,
      omega (arith, count, ended.kept.ok, c.loop.states.ok, inv.4),
    )
