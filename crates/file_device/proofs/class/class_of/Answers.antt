use Rattle.std.proofs.Common.{◌/◌, ℕ, ap}
use Rattle.file_device.proofs.Classes.{class_of-fits}
use Rattle.file_device.proofs.class.class_of.Goals as goal

pub returns-clause-known : goal.returns-clause-known
returns-clause-known c =
    (class_of-fits c.args.len _ (ap (λ (n : ℕ). n / 64) c.saturating_sub-whole.ensures) c.requires).0

pub returns-clause-fits : goal.returns-clause-fits
returns-clause-fits c =
    (class_of-fits c.args.len _ (ap (λ (n : ℕ). n / 64) c.saturating_sub-whole.ensures) c.requires).1
