use Rattle.std.proofs.Common.{◌≡◌, ℕ, None, IfOk, sym, subst}
use Rattle.std.specs.Prelude.{IfSome, vec_len}
use Rattle.hash_table.specs.Configs.{first_bad_wide_with}
use Rattle.far_map.proofs.Settling.{settled, lanes_are}
use Rattle.far_map.specs.declared.fault.MapFault.{MapFault}
use Rattle.far_map.specs.Faults.{IsRunFault}
use Rattle.far_map.proofs.Working.{made_fault, opened_badly}
use Rattle.far_map.proofs.renewal.over_devices.Goals as goal

pub over_row-requires-clause-frames : goal.over_row-requires-clause-frames
over_row-requires-clause-frames g c κs within = let s = settled (vec_len c.args.devices) c.args.config c.requires.good in s.frames

pub over_row-requires-clause-spares : goal.over_row-requires-clause-spares
over_row-requires-clause-spares g c κs within = let s = settled (vec_len c.args.devices) c.args.config c.requires.good in s.spares

pub returns-clause-devices : goal.returns-clause-devices
returns-clause-devices g c =
    subst (λ (n : ℕ). IfOk c.over_row.result (λ x. IfSome x.next (λ left. vec_len left.devices ≡ n))) (lanes_are (vec_len c.args.devices) c.args.config c.requires.good) c.over_row.ensures.devices

pub returns-in_err-opening-clause-fault : goal.returns-in_err-opening-clause-fault
returns-in_err-opening-clause-fault g c =
    made_fault c.from_residual.result _ (IsRunFault g.D.Device.HONEST None) c.from_residual.ensures.1
    (λ fault is. subst (λ (f : MapFault). IsRunFault g.D.Device.HONEST None f) (sym is) (opened_badly g.D.Device.HONEST (first_bad_wide_with (vec_len c.args.devices) c.args.config) c.in_err-opening.field-0.0 c.requires.good c.in_err-opening.ensures.fault))
