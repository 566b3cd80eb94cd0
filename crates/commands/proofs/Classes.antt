-- What stands behind a part of a pattern is no longer than the pattern.
use Rattle.std.proofs.Common.{ℕ, zero, suc, ◌≤◌, ◌==◌, Bool, true, false, if◌then◌else◌, List, [], ◌∷◌, drop, length, arith}
use Rattle.commands.specs.Patterns.{Member, End, Bytes, member, after, behind_class, behind_brackets, behind_part}

after_short : (m : Member) (behind : List ℕ) (more : ℕ → List ℕ) → ((skip : ℕ) → length (more skip) ≤ length behind) → length (after m behind more) ≤ length behind
after_short End behind more h = omega arith
after_short (Bytes first last width) behind more h = h width

pub class_short : (skip : ℕ) (class : List ℕ) → length (behind_class skip class) ≤ length class
class_short skip [] = omega arith
class_short (suc skip) (a ∷ class) = omega (arith, class_short skip class)
class_short zero (a ∷ class) = omega (arith, after_short (member a class) class (λ skip. behind_class skip class) (λ skip. class_short skip class))

brackets_short : (behind : List ℕ) → length (behind_brackets behind) ≤ length behind
brackets_short [] = omega arith
brackets_short (a ∷ class) = cases (a == 94) where
  cases : (b : Bool) → length (if b then behind_class 0 class else behind_class 0 (a ∷ class)) ≤ length (a ∷ class)
  cases true = omega (arith, class_short 0 class)
  cases false = class_short 0 (a ∷ class)

drop_short : (behind : List ℕ) → length (drop 1 behind) ≤ length behind
drop_short [] = omega arith
drop_short (a ∷ behind) = omega arith

pub part_short : (pattern : List ℕ) → length (behind_part pattern) ≤ length pattern
part_short [] = omega arith
part_short (a ∷ behind) = cases (a == 63) (a == 91) (a == 92) where
  cases : (x y z : Bool) → length (if x then behind else (if y then behind_brackets behind else (if z then drop 1 behind else behind))) ≤ length (a ∷ behind)
  cases true y z = omega arith
  cases false true z = omega (arith, brackets_short behind)
  cases false false true = omega (arith, drop_short behind)
  cases false false false = omega arith
