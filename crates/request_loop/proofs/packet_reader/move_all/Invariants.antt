use Rattle.std.proofs.Common.{◌≡◌, ◌+◌, length}
use Rattle.std.specs.Io.KnownBytes.{Keeps, prepend_known}
use Rattle.request_loop.proofs.packet_reader.move_all.Given as goal

abbrev pub invariant-loop-round : goal.invariant-loop-round
invariant-loop-round g l = record {
  moved : Keeps (prepend_known l.fn.room.items (g.R.Read.remaining l.fn.input)) (prepend_known l.room.items (g.R.Read.remaining l.input));
  counted : length l.room.items + l.left ≡ length l.fn.room.items + l.count;
  same : Keeps (g.W.Write.contents l.fn.output) (g.W.Write.contents l.output);
}
