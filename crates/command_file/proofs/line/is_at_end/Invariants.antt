use Rattle.std.specs.Io.KnownBytes.{Keeps}
use Rattle.command_file.proofs.line.is_at_end.Given as goal

abbrev pub invariant-loop : goal.invariant-loop
invariant-loop g l = Keeps (g.R.Read.remaining l.initial.file) (g.R.Read.remaining l.file)
