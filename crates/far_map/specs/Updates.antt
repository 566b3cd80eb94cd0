-- What an update tells: a get and a put_if that expects what was got, tried again while somebody else is faster.
use Rattle.std.specs.Prelude.{◌≡◌, ◌≢◌, ℕ, zero, suc, List, Option, Some, None, Result, Ok, Err, ◌⊎◌}
use Rattle.table_core.specs.declared.limits.Limits.{Limits}
use Rattle.table_core.specs.declared.operation.Operation.TheVariants as op
use Rattle.far_map.specs.declared.refusal.MapRefusal.{MapRefusal}
use Rattle.far_map.specs.declared.update.Updated.{Updated}
use Rattle.far_map.specs.declared.update.Updated.TheVariants as updated
use Rattle.far_map.specs.Views.{Call, SessionView}
use Rattle.far_map.specs.Answers.{Answers}
use Rattle.far_map.specs.Counts.{Counts}

-- the session made this call, was answered so, and counted it
pub record Called {V : Type 0} (ev : V → List ℕ) (l : Limits) (old new : SessionView V) (o : Call V) (result : Result (Option V) MapRefusal) : Type 0 where
  pub answers : Answers ev l old new o result
  pub counts : Counts old new o result

module _ {V : Type 0} (ev : V → List ℕ) (l : Limits) (k : List ℕ) (Makes : Option V → Option V → Type 0) where
  -- the key's value was got, and this was made of it
  pub record Finds (old got : SessionView V) (found made : Option V) : Type 0 where
    pub called : Called ev l old got (op.Get k) (Ok found)
    pub makes : Makes found made

  -- what was made of the value that was found was put where that stands, which was answered so
  abbrev pub Puts : SessionView V → SessionView V → Option V → Result (Option V) MapRefusal → Type 0
  Puts old new found result = (got : SessionView V) × (value : V) × Finds old got found (Some value) × Called ev l got new (op.PutIf k found value) result

  -- one try: the value was set, nothing was made of it, or somebody else was faster; or a call was refused
  abbrev pub IsTried : SessionView V → SessionView V → Result (Option (Updated V)) MapRefusal → Type 0
  IsTried old new (Ok (Some (updated.Set before))) = Puts old new before (Ok before)
  IsTried old new (Ok (Some (updated.Left found))) = Finds old new found None
  IsTried old new (Ok (Some updated.Overtaken)) = ⊥
  IsTried old new (Ok None) = (found before : Option V) × Puts old new found (Ok before) × (before ≢ found)
  IsTried old new (Err why) = Called ev l old new (op.Get k) (Err why) ⊎ ((found : Option V) × Puts old new found (Err why))

  -- so many tries, at each of which somebody else was faster
  abbrev pub AreOvertaken : ℕ → SessionView V → SessionView V → Type 0
  AreOvertaken zero old new = new ≡ old
  AreOvertaken (suc n) old new = (mid : SessionView V) × AreOvertaken n old mid × IsTried mid new (Ok None)

  -- the last of these tries ended it
  abbrev pub EndsAfter : SessionView V → SessionView V → Result (Option (Updated V)) MapRefusal → Type 0
  EndsAfter old new last = (n : ℕ) × (mid : SessionView V) × AreOvertaken n old mid × IsTried mid new last

  -- an update
  abbrev pub IsUpdated : SessionView V → SessionView V → Result (Updated V) MapRefusal → Type 0
  IsUpdated old new (Ok updated.Overtaken) = (n : ℕ) × (n ≡ 1000) × AreOvertaken n old new
  IsUpdated old new (Ok (updated.Set before)) = EndsAfter old new (Ok (Some (updated.Set before)))
  IsUpdated old new (Ok (updated.Left found)) = EndsAfter old new (Ok (Some (updated.Left found)))
  IsUpdated old new (Err why) = EndsAfter old new (Err why)
