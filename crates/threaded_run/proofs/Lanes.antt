-- Settings of which none is bad come back from those of the map.
use Rattle.std.proofs.Common.{◌≡◌, ℕ, ◌<◌, ◌≤◌, ◌==◌, Bool, true, false, Option, Some, None, refl, ap, sym, ◌∙◌, arith, rules}
use Rattle.std.specs.Prelude.{min}
use Rattle.std.specs.Option.{option_map}
use Rattle.std.proofs.lemmas.Bool.Decides.{nat_tests}
use Rattle.std.proofs.lemmas.Grind.{common_steps}
use Rattle.hash_table.specs.declared.config.Config.{Config}
use Rattle.hash_table.specs.Configs.{first_bad, first_bad_with, first_bad_wide_with, or_lanes}
use Rattle.hash_table.proofs.Settings.{usual_is_wide}
use Rattle.far_map.specs.Settings.{config_of, setting_of}
use Rattle.far_map.specs.Settings.{first_bad as first_bad_setting}
use Rattle.threaded_run.specs.Settings.{settings_of}

first_of : (first : Option ℕ) (same : Bool) → or_lanes first same ≡ None → (first ≡ None) × (same ≡ true)
first_of first true h = (h, refl)
first_of None false h = absurd cc
first_of (Some n) false h = absurd cc

lanes_are : (devices : ℕ) (c : Config) → first_bad_with devices c ≡ None → min devices 65 ≡ c.lanes
lanes_are devices c h =
    let both = first_of (first_bad c) (c.lanes == devices) h in
    let none = both.0 in
    let same : c.lanes ≡ devices = let e = both.1 in grind (arith, nat_tests) in
    let few : c.lanes ≤ 64 = search (rules, arith) in
    omega (arith, same, few)

pub config_back : (devices : ℕ) (c : Config) → first_bad_with devices c ≡ None → config_of (settings_of c) devices ≡ c
config_back devices c h = ap (λ (n : ℕ). record c { lanes = n }) (lanes_are devices c h)

pub none_bad : (devices : ℕ) (c : Config) → first_bad_with devices c ≡ None → first_bad_setting (settings_of c) devices ≡ None
none_bad devices c h = ap (λ (k : Config). option_map setting_of (first_bad_wide_with devices k)) (config_back devices c h) ∙ ap (option_map setting_of) (usual_is_wide devices c h)
