-- Settings of which none is bad, in a usual table or a wide one.
use Rattle.std.proofs.Common.{◌≡◌, ℕ, ◌≤◌, ◌==◌, ◌^◌, Bool, true, false, Option, Some, None, refl, sym, subst, arith, rules}
use Rattle.std.proofs.lemmas.Bool.Decides.{nat_tests}
use Rattle.std.proofs.lemmas.Grind.{common_steps}
use Rattle.hash_table.specs.declared.config.Config.{Config}
use Rattle.hash_table.specs.declared.config.Width.{Width}
use Rattle.hash_table.specs.Configs.{first_bad, first_bad_of, first_bad_with, first_bad_wide, first_bad_wide_with, or_lanes, usual, wide, IsSettled}

split : (first : Option ℕ) (same : Bool) → or_lanes first same ≡ None → (first ≡ None) × (same ≡ true)
split first true h = (h, refl)
split None false h = absurd cc
split (Some n) false h = absurd cc

module _ (width : Width) (buckets : width.buckets ≤ 2 ^ 22) (frames : width.frames ≤ 2 ^ 22) (devices : ℕ) (c : Config) where
  pub settled_of : or_lanes (first_bad_of width c) (c.lanes == devices) ≡ None → IsSettled devices c
  settled_of h =
      let s = split (first_bad_of width c) (c.lanes == devices) h in
      let same : c.lanes ≡ devices = let is = s.1 in grind (arith, nat_tests) in
      let none = s.0 in
      record {
        some_buckets = search (rules, arith);
        buckets = search (rules, arith);
        frames = search (rules, arith);
        names = search (rules, arith);
        passes = search (rules, arith);
        some = search (rules, arith);
        most = search (rules, arith);
        lanes = same;
      }

pub settled : (devices : ℕ) (c : Config) → first_bad_with devices c ≡ None → IsSettled devices c
settled devices c h = settled_of usual (omega arith) (omega arith) devices c h

pub settled_wide : (devices : ℕ) (c : Config) → first_bad_wide_with devices c ≡ None → IsSettled devices c
settled_wide devices c h = settled_of wide (omega arith) (omega arith) devices c h

-- settings of a usual table are settings of a wide one
none_wide : (c : Config) → first_bad c ≡ None → first_bad_wide c ≡ None
none_wide c h = grind (arith, common_steps)

pub usual_is_wide : (devices : ℕ) (c : Config) → first_bad_with devices c ≡ None → first_bad_wide_with devices c ≡ None
usual_is_wide devices c h =
    let s = split (first_bad c) (c.lanes == devices) h in
    subst (λ (b : Bool). or_lanes (first_bad_wide c) b ≡ None) (sym s.1) (none_wide c s.0)
