use Rattle.std.proofs.Common.{◌≡◌, ℕ, None, IfOk, sym, ap, ◌∙◌, subst}
use Rattle.std.specs.Prelude.{IfSome, vec_len}
use Rattle.table_core.specs.declared.limits.Limits.{Limits}
use Rattle.version_words.specs.Rows.{limits_of}
use Rattle.hash_table.specs.Configs.{sizes_of}
use Rattle.hash_table.specs.declared.config.Config.{Config}
use Rattle.far_map.specs.declared.fault.MapFault.{MapFault}
use Rattle.far_map.specs.Faults.{IsRunFault}
use Rattle.far_map.proofs.Working.{later_faults, made_fault, named_badly}
use Rattle.far_map.proofs.Generating.{turn_as}
use Rattle.far_map.proofs.renewal.over_row.Goals as goal

pub returns-clause-ran : goal.returns-clause-ran
returns-clause-ran g c =
    turn_as g.V.FarObject.enc (g.W.RenewableWork.done c.args.work.now) c.over_queue.result (λ x. x.lost) (λ x. x.kept.items) (λ x. x.next) (limits_of (sizes_of c.args.config) g.D.Device.HONEST) g.J.Naming.limits c.args.config.limit c.in_ok-table.table.limit
    c.args.rest.now c.over_queue.new.rest c.args.states.items
    (sym c.requires.limits ∙ ap (λ (k : Config). limits_of (sizes_of k) g.D.Device.HONEST) c.requires.config) (c.in_ok-table.ensures.limit ∙ ap (λ (k : Config). k.limit) c.requires.config) c.over_queue.ensures.ran

pub returns-clause-devices : goal.returns-clause-devices
returns-clause-devices g c =
    subst (λ (n : ℕ). IfOk c.over_queue.result (λ x. IfSome x.next (λ left. vec_len left.devices ≡ n))) (c.in_ok-table.ensures.lanes ∙ ap (λ (k : Config). k.lanes) c.requires.config) c.over_queue.ensures.devices

pub returns-clause-fault : goal.returns-clause-fault
returns-clause-fault g c = later_faults c.over_queue.result g.J.Naming.limits.honest g.D.Device.HONEST (sym (ap (λ (l : Limits). l.honest) c.requires.limits)) c.over_queue.ensures.fault

pub returns-in_err-table-clause-fault : goal.returns-in_err-table-clause-fault
returns-in_err-table-clause-fault g c =
    made_fault c.from_residual.result _ (IsRunFault g.D.Device.HONEST None) c.from_residual.ensures.1
    (λ fault is. subst (λ (f : MapFault). IsRunFault g.D.Device.HONEST None f) (sym is) (named_badly g.D.Device.HONEST c.in_err-table.field-0.0 c.in_err-table.ensures.fault))
