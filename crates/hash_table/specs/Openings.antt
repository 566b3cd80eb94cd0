-- What the opening of a table tells.
use Rattle.std.specs.Prelude.{◌≡◌, ℕ, ◌==◌, if◌then◌else◌, Option, Some, None, ⊤}
use Rattle.far_object.specs.declared.format.Format.{Format}
use Rattle.far_object.specs.declared.format.Format.TheVariants.{One, Two}
use Rattle.version_words.specs.Views.{OpenedView}
use Rattle.hash_table.specs.declared.config.Config.{Config}
use Rattle.hash_table.specs.declared.refusal.OpenFault.{OpenFault}
use Rattle.hash_table.specs.declared.refusal.OpenFault.TheVariants.{BadConfig, Memory, Device}

-- a table that has no name yet: its row of words, and its settings
pub record OpeningView : Type 0 where
  pub row : OpenedView
  pub config : Config

-- the format that a setting stands for
abbrev pub format_of : ℕ → Format
format_of n = if n == 1 then One else Two

-- a table was opened with these settings, which `Opening::named` says more of. It is opaque: who promises it had that open one, or cites the lemma below, which is for its proof alone
pub WasOpened : Config → Type 0
WasOpened config = Unit {0}

pub was_opened : (config : Config) → WasOpened config
unfolding WasOpened
was_opened config = tt

-- the first bad setting is named; want of memory comes where none is bad
abbrev pub IsOpenFault : Option ℕ → OpenFault → Type 0
IsOpenFault first (BadConfig n) = first ≡ Some n
IsOpenFault first Memory = first ≡ None
IsOpenFault first Device = ⊥

-- the second step looks at no setting
abbrev pub IsNamedFault : OpenFault → Type 0
IsNamedFault (BadConfig n) = ⊥
IsNamedFault Memory = ⊤
IsNamedFault Device = ⊤
