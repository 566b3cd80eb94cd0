-- The range has the part.
use Rattle.std.proofs.Common.{ℤ, length, subst, to_z, of_z}
use Rattle.std.specs.Int.{w64}
use Rattle.std.proofs.lemmas.Int.{to_z-of_z}
use Rattle.commands.specs.Ranges.{IsRange}
use Rattle.key_commands.proofs.Parts.{part_of_range}
use Rattle.key_commands.proofs.range.part.Goals as goal

pub returns : goal.returns
returns c =
    let is : ℤ → ℤ → Type 0 = λ first last. IsRange first last (length c.args.bytes.now) c.range_of-range.result in
    let first = to_z-of_z w64 c.args.first c.ranges.first in
    let last = to_z-of_z w64 c.args.last c.ranges.last in
    let range = subst (λ (f : ℤ). is f c.args.last) first (subst (λ (l : ℤ). is (to_z w64 (of_z w64 c.args.first)) l) last c.range_of-range.ensures) in
    part_of_range c.args.first c.args.last c.args.bytes.now c.range_of-range.result range
