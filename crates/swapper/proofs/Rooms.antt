-- A caller that makes room by itself.
use Rattle.std.proofs.Common.{◌≡◌, ℕ, false, List, [], ◌∷◌, Option, Some, None, Ok, sym, subst, inl, inr}
use Rattle.std.specs.Prelude.{IfNone, IfSome}
use Rattle.table_core.specs.declared.limits.Limits.{Limits}
use Rattle.version_words.specs.Views.{SpareView}
use Rattle.hash_table.specs.Reclaims.{WasTried, IsReclaimed}
use Rattle.hash_table.specs.Steps.{IsSwapped}
use Rattle.hash_table.specs.declared.caller.Caller.{Caller}
use Rattle.swapper.specs.Chances.{ClockView}
use Rattle.far_object.specs.declared.format.Format.{Format}
use Rattle.swapper.specs.Evictors.{GivesOneUp}
use Rattle.swapper.specs.Rooms.{IsRecycled}

module _ {K V : Type 0} where
  pub recycled_none : (before after : List (SpareView K V)) → before ≡ [] → after ≡ [] → IsRecycled before after
  recycled_none before after none is = subst (λ (l : List (SpareView K V)). IsRecycled l after) (sym none) is

  pub recycled_gone : (s : SpareView K V) (before rest after : List (SpareView K V)) → before ≡ s ∷ rest → WasTried s → IsReclaimed s → after ≡ rest → IsRecycled before after
  recycled_gone s before rest after oldest was gone is = subst (λ (l : List (SpareView K V)). IsRecycled l after) (sym oldest) (was, inl (is, gone))

  pub recycled_back : (s : SpareView K V) (before rest after : List (SpareView K V)) → before ≡ s ∷ rest → WasTried s → after ≡ s ∷ rest → IsRecycled before after
  recycled_back s before rest after oldest was is = subst (λ (l : List (SpareView K V)). IsRecycled l after) (sym oldest) (was, inr is)

module _ {K V J : Type 0} (ek : K → List ℕ) (ev : V → List ℕ) (l : Limits) (format : Format) where
  -- where no frame was given up no spare came
  pub none_given : (old new : Caller K V J) (clock moved : ClockView) → GivesOneUp ek ev l format old new clock moved (Ok false) → new.limbo ≡ old.limbo
  none_given old new clock moved g = by g.victim _ g.none g.swapped
    where
      by : (victim : Option ℕ) (Same : Type 0) → IfNone victim (Same × (new.pass ≡ g.picked) × (new.limbo ≡ old.limbo)) → IfSome victim (λ frame. IsSwapped ek l format frame g.picked old.limbo new.pass new.limbo false) → new.limbo ≡ old.limbo
      by None Same none swapped = none.2
      by (Some frame) Same none swapped = swapped
