use Rattle.std.proofs.Common.{◌≡◌, ◌≤◌, ◌-◌, length, drop}
use Rattle.request_loop.specs.Turns.{Sends}
use Rattle.request_loop.proofs.requests.put_pieces.Given as goal

abbrev pub invariant-loop-at : goal.invariant-loop-at
invariant-loop-at g l = record {
  within : l.at ≤ length l.bytes;
  sends : Sends g.D.Duplex.tells l.fn.connection l.fn.duplex l.duplex l.bytes (drop l.at l.bytes);
  limits : g.D.Duplex.limits l.duplex ≡ g.D.Duplex.limits l.fn.duplex;
}

abbrev pub decreases-loop-at : goal.decreases-loop-at
decreases-loop-at g l = length l.bytes - l.at
