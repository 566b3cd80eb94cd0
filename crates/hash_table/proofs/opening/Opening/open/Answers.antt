use Rattle.std.proofs.Common.{ℕ, vec_len, ap, sym, ◌∙◌}
use Rattle.hash_table.specs.Configs.{first_bad_with}
use Rattle.hash_table.proofs.Settings.{settled}
use Rattle.hash_table.proofs.opening.Opening.open.Goals as goal

pub over-requires : goal.over-requires
over-requires g c =
    let none = ap (λ (n : ℕ). first_bad_with n c.args.config) (sym c.len.ensures) ∙ (sym c.first_bad_with.ensures ∙ c.in-None.is) in
    record { settled = settled (vec_len c.args.devices) c.args.config none }
