use Rattle.std.proofs.Common.{◌≡◌, ◌≤◌, ◌-◌, List, length, drop}
use Rattle.request_loop.specs.declared.slots.Slots.{Slots}
use Rattle.request_loop.specs.Marks.{Mark}
use Rattle.request_loop.specs.Calls.{Exchange}
use Rattle.request_loop.specs.Slots.{IsAnswered}
use Rattle.request_loop.specs.Turns.{Turns}
use Rattle.request_loop.proofs.requests.answer_all.Given as goal

abbrev pub invariant-requests : goal.invariant-requests
invariant-requests g l = record {
  limits : g.D.Duplex.limits l.duplex ≡ g.D.Duplex.limits l.fn.duplex;
  within : l.at ≤ length l.bytes;
  turns : (start : g.row.D.Denot) (x : g.row.S.Denot) (past : List (Mark Exchange)) (slots : Slots) → Turns (IsAnswered l.fn.limits l.fn.bytes) g.D.Duplex.tells g.S.Service.does l.fn.limits past l.fn.connection start l.fn.duplex x l.fn.service slots l.fn.out.items → Turns (IsAnswered l.fn.limits (drop l.at l.bytes)) g.D.Duplex.tells g.S.Service.does l.fn.limits past l.fn.connection start l.duplex x l.service slots l.out.items;
}

abbrev pub decreases-requests : goal.decreases-requests
decreases-requests g l = length l.bytes - l.at
