use Rattle.std.proofs.Common.{◌≡◌, eqb, take}
use Rattle.std.specs.Prelude.{count_by}
use Rattle.command_file.proofs.search.times_in_block.Given as goal

abbrev pub invariant-loop-b : goal.invariant-loop-b
invariant-loop-b l = l.count ≡ count_by (λ b. eqb b l.byte) (take l.b-index l.block)
