use Rattle.std.proofs.Common.{ℕ, vec_len, ap, sym, ◌∙◌}
use Rattle.hash_table.specs.Configs.{first_bad_wide_with}
use Rattle.hash_table.proofs.Settings.{settled_wide}
use Rattle.hash_table.proofs.opening.Opening.open_wide.Goals as goal

pub over-requires : goal.over-requires
over-requires g c =
    let none = ap (λ (n : ℕ). first_bad_wide_with n c.args.config) (sym c.len.ensures) ∙ (sym c.first_bad_wide_with.ensures.is ∙ c.in-None.is) in
    record { settled = settled_wide (vec_len c.args.devices) c.args.config none }
