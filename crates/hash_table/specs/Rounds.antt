-- What one round of a call tells.
use Rattle.std.specs.Prelude.{ℕ, List}
use Rattle.table_core.specs.declared.limits.Limits.{Limits}
use Rattle.table_core.specs.declared.operation.Operation.{Operation}
use Rattle.version_words.specs.Views.{PassView, Goes}
use Rattle.hash_table.specs.Calls.{IsFinished}
use Rattle.hash_table.specs.declared.round.Round.{Round}
use Rattle.hash_table.specs.declared.round.Round.TheVariants.{Finished, Again}

module _ {K V : Type 0} (ek : K → List ℕ) (ev : V → List ℕ) (l : Limits) where
  -- the call is finished, or the round has made none
  abbrev pub IsRound : PassView K V → Operation K V → Round V → PassView K V → Type 0
  IsRound old o (Finished answer) new = IsFinished ek ev l old o answer new
  IsRound old o Again new = Goes old new
