-- What a caller that makes room leaves among its spares.
use Rattle.std.specs.Prelude.{◌≡◌, ℕ, ◌⊎◌, Bool, true, false, List, [], ◌∷◌, Result, Ok, Err}
use Rattle.table_core.specs.declared.limits.Limits.{Limits}
use Rattle.version_words.specs.Views.{PassView, SpareView, Goes}
use Rattle.hash_table.specs.Calls.{AtMostOneMore, IsRefused}
use Rattle.hash_table.specs.Reclaims.{WasTried, IsReclaimed}
use Rattle.hash_table.specs.declared.refusal.Refusal.{Refusal}

module _ {K V : Type 0} where
  -- the oldest spare was tried, and was reclaimed or waits as before; the others wait
  abbrev pub IsRecycled : List (SpareView K V) → List (SpareView K V) → Type 0
  IsRecycled [] after = after ≡ []
  IsRecycled (s ∷ rest) after = WasTried s × (((after ≡ rest) × IsReclaimed s) ⊎ (after ≡ s ∷ rest))

  -- a frame was given up, which leaves one spare more at most, and then the oldest was tried; or none was given up. A refusal may leave the spare of the name that it gave up
  abbrev pub LeavesRoom : List (SpareView K V) → List (SpareView K V) → Result Bool Refusal → Type 0
  LeavesRoom before after (Ok true) = (given : List (SpareView K V)) × AtMostOneMore before given × IsRecycled given after
  LeavesRoom before after (Ok false) = after ≡ before
  LeavesRoom before after (Err e) = AtMostOneMore before after

  -- the same, or nothing was done
  abbrev pub MayLeaveRoom : List (SpareView K V) → List (SpareView K V) → Type 0
  MayLeaveRoom before after = (after ≡ before) ⊎ ((made : Result Bool Refusal) × LeavesRoom before after made)

-- a call of some bucket was refused so, behind what the pass had seen by then
abbrev pub WasRefusedBehind : {K V : Type 0} → (K → List ℕ) → (V → List ℕ) → Limits → PassView K V → PassView K V → Refusal → Type 0
WasRefusedBehind {K} {V} ek ev l old new e = (seen : PassView K V) × Goes old seen × ((b : ℕ) × IsRefused ek ev l b seen new e)
