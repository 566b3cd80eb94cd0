-- What becomes of the spares of a session's calls.
use Rattle.std.specs.Prelude.{List, ◌⊎◌}
use Rattle.std.specs.List.{Contains}
use Rattle.hash_table.specs.Reclaims.{IsReclaimed}
use Rattle.swapper.specs.declared.rule.SeatView.{SeatView}
use Rattle.far_map.specs.Views.{Spare}

-- no spare is lost: each that waited with the caller waits still, was handed over, or was reclaimed; and what its seat knows to be handed over stays so
pub record LosesNone {V : Type 0} (before : List (Spare V)) (seat : SeatView (Spare V)) (after : List (Spare V)) (left : SeatView (Spare V)) : Type 0 where
  pub spares : (s : Spare V) → Contains before s → Contains after s ⊎ (Contains left.handed s ⊎ IsReclaimed s)
  pub handed : (s : Spare V) → Contains seat.handed s → Contains left.handed s
