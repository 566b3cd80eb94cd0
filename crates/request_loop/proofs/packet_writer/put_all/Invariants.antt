use Rattle.std.proofs.Common.{◌≡◌, ℕ, List, ◌++◌}
use Rattle.std.specs.Io.KnownBytes.{Appends}
use Rattle.request_loop.proofs.packet_writer.put_all.Given as goal

abbrev pub invariant-loop-round : goal.invariant-loop-round
invariant-loop-round g l = (part : List ℕ) × Appends (g.W.Write.contents l.fn.output) (g.W.Write.contents l.output) part × (part ++ l.rest ≡ l.bytes)
