use Rattle.command_file.proofs.Scanning.{Scanned}
use Rattle.command_file.proofs.part.place_lines.Given as goal

abbrev pub invariant-loop-number : goal.invariant-loop-number
invariant-loop-number l = Scanned l.bytes l.from l.rest l.number l.places.items
