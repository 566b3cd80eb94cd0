use Rattle.std.proofs.Common.{◌≡◌, ◌+◌, eqb, length}
use Rattle.std.specs.Prelude.{count_by}
use Rattle.command_file.proofs.search.times.Given as goal

abbrev pub invariant-loop-rest : goal.invariant-loop-rest
invariant-loop-rest l = l.count + count_by (λ b. eqb b l.byte) l.rest ≡ count_by (λ b. eqb b l.byte) l.bytes

abbrev pub decreases-loop-rest : goal.decreases-loop-rest
decreases-loop-rest l = length l.rest
