use Rattle.version_words.specs.Views.{Goes}
use Rattle.far_server.proofs.all_keys.find.Given as goal

abbrev pub invariant-loop-bucket : goal.invariant-loop-bucket
invariant-loop-bucket g l = Goes (g.S.Calls.shown l.fn.me).pass (g.S.Calls.shown l.me).pass
