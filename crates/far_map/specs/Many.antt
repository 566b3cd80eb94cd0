-- What gets of several keys tell.
use Rattle.std.specs.Prelude.{◌≡◌, ◌⊎◌, ℕ, List, [], ◌∷◌, ◌++◌, Option, Result, Ok, Err}
use Rattle.std.specs.Global.{Vec}
use Rattle.table_core.specs.declared.limits.Limits.{Limits}
use Rattle.table_core.specs.declared.operation.Operation.TheVariants as op
use Rattle.far_map.specs.declared.refusal.MapRefusal.{MapRefusal}
use Rattle.far_map.specs.declared.refusal.MapRefusal.TheVariants as refusal
use Rattle.far_map.specs.Views.{SessionView}
use Rattle.far_map.specs.Updates.{Called}

module _ {V : Type 0} (ev : V → List ℕ) (l : Limits) where
  -- these keys were got, one after another, each by a call of its own, and these are the answers
  abbrev pub AreGot : List (List ℕ) → List (Option V) → SessionView V → SessionView V → Type 0
  AreGot [] answers old new = (old ≡ new) × (answers ≡ [])
  AreGot (k ∷ ks) answers old new = (mid : SessionView V) × (answer : Option V) × (rest : List (Option V)) × Called ev l old mid (op.Get k) (Ok answer) × AreGot ks rest mid new × (answers ≡ answer ∷ rest)

  -- some of these keys were got, and then the get of the next one was refused
  pub record IsGotUntil (ks : List (List ℕ)) (old new : SessionView V) (why : MapRefusal) : Type 0 where
    pub before : List (List ℕ)
    pub key : List ℕ
    pub behind : List (List ℕ)
    pub answers : List (Option V)
    pub mid : SessionView V
    pub keys_are : ks ≡ before ++ key ∷ behind
    pub got : AreGot before answers old mid
    pub refused : Called ev l mid new (op.Get key) (Err why)

  -- all were got; or some, and then one was refused; or none, since the list of the answers was refused its memory
  abbrev pub IsGotEach : List (List ℕ) → SessionView V → SessionView V → Result (Vec (Option V)) MapRefusal → Type 0
  IsGotEach ks old new (Ok answers) = AreGot ks answers.items old new
  IsGotEach ks old new (Err why) = ((why ≡ refusal.Memory) × (new ≡ old)) ⊎ IsGotUntil ks old new why
