use Rattle.std.proofs.Common.{◌≡◌, length}
use Rattle.std.specs.Prelude.{IsTrue}
use Rattle.server_commands.specs.SlowLog.{IsRedacted}
use Rattle.server_commands.proofs.slow_log.kept_arguments.Given as goal

abbrev pub invariant-loop-index : goal.invariant-loop-index
invariant-loop-index l = (length l.kept.items ≡ l.index) × (IsTrue l.is_secret → IsRedacted l.kept.items)
