use Rattle.std.proofs.Common.{◌≡◌, ◌++◌, ℕ, List, length}
use Rattle.far_server.specs.Keyed.{Idles}
use Rattle.far_server.proofs.one_key.try_often.Given as goal

abbrev pub invariant-loop : goal.invariant-loop
invariant-loop g l = ((pushed : List ℕ) × (l.reply.items ≡ l.fn.reply.items ++ pushed)) × (l.before ≡ length l.fn.reply.items) × Idles g.S.Calls.limits l.key (g.S.Calls.shown l.fn.me) (g.S.Calls.shown l.me)
