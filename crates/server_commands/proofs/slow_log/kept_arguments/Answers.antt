use Rattle.std.proofs.Common.{sym, subst}
use Rattle.server_commands.specs.SlowLog.{IsRedacted}
use Rattle.server_commands.proofs.Redacted.{hidden_more, one_more}
use Rattle.server_commands.proofs.slow_log.kept_arguments.Goals as goal

pub loop-index-preserved : goal.loop-index-preserved
loop-index-preserved c =
    let items = c.in_ok-push.ensures.items in
    let counted = c.loop-index.invariant.0 in (
      one_more c.loop-index.kept.items _ _ c.loop-index.index items counted,
      λ is_secret. subst IsRedacted (sym items) (hidden_more c.loop-index.kept.items _ c.loop-index.index counted (c.loop-index.invariant.1 is_secret) (λ behind. c.in_ok-kept_argument.ensures is_secret behind)),
    )
