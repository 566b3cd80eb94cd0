use Rattle.std.proofs.Common.{◌≡◌, List, []}
use Rattle.request_loop.specs.Marks.{Mark}
use Rattle.request_loop.specs.Calls.{Exchange}
use Rattle.request_loop.specs.Standing.{Standing}
use Rattle.request_loop.specs.Turns.{Stands}
use Rattle.request_loop.proofs.worker_loop.serve_packets.Given as goal

abbrev pub invariant-loop-round : goal.invariant-loop-round
invariant-loop-round g l = record {
  stands : (start : g.row.D.Denot) (past : List (Mark Exchange)) → Standing g.D.Duplex.tells l.limits start l.fn.duplex l.fn.holds past → Stands g.D.Duplex.tells g.S.Service.does l.limits past start l.duplex l.fn.service l.service l.slots;
  empty : l.out.items ≡ [];
  limits : g.D.Duplex.limits l.duplex ≡ l.limits;
  limits_then : g.D.Duplex.limits l.fn.duplex ≡ l.limits;
}
