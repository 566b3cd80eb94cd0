-- What contracts see of a session, whose keys are texts and whose values are of the type V.
use Rattle.std.specs.Prelude.{ℕ, List}
use Rattle.table_core.specs.declared.event.Event.{Event}
use Rattle.table_core.specs.declared.operation.Operation.{Operation}
use Rattle.version_words.specs.Views.{PassView, SpareView}
use Rattle.far_map.specs.declared.stats.Stats.{Stats}

abbrev pub Log : Type 0 → Type 0
Log V = List (Event (List ℕ) V)

abbrev pub View : Type 0 → Type 0
View V = PassView (List ℕ) V

abbrev pub Call : Type 0 → Type 0
Call V = Operation (List ℕ) V

abbrev pub Spare : Type 0 → Type 0
Spare V = SpareView (List ℕ) V

abbrev pub Pairs : Type 0 → Type 0
Pairs V = List (List ℕ × V)

-- its pass, the most bytes of an object of its map, and what it has counted
pub record SessionView (V : Type 0) : Type 0 where
  pub pass : PassView (List ℕ) V
  pub limit : ℕ
  pub stats : Stats
