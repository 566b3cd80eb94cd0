use Rattle.std.proofs.Common.{◌≡◌, ◌≤◌, ◌+◌, length}
use Rattle.std.specs.Io.KnownBytes.{Consumes}
use Rattle.resp_device.proofs.exchange.receive.Given as goal

-- what was read lies in the room
abbrev pub invariant-loop-round : goal.invariant-loop-round
invariant-loop-round g l = record {
  taken : Consumes (g.R.Read.remaining l.fn.input) (g.R.Read.remaining l.input) l.room.items;
  bounded : length l.room.items ≤ l.limits.bytes + l.limits.line + 23 + length l.piece;
  piece : length l.piece ≡ length l.fn.piece;
}
