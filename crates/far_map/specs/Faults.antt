-- Why a run ends early.
use Rattle.std.specs.Prelude.{◌≡◌, Bool, IsTrue, Option, Some, None, ⊤}
use Rattle.hash_table.specs.declared.refusal.OpenFault.{OpenFault}
use Rattle.hash_table.specs.declared.refusal.OpenFault.TheVariants as opened
use Rattle.far_map.specs.declared.settings.Setting.{Setting}
use Rattle.far_map.specs.declared.fault.MapFault.{MapFault}
use Rattle.far_map.specs.declared.fault.MapFault.TheVariants as run
use Rattle.hash_table.specs.Closes.{Hands}
use Rattle.far_map.specs.Settings.{setting_of}
use Rattle.far_map.specs.Views.{Pairs}

-- the table's fault as it was opened
abbrev pub of_opening : OpenFault → MapFault
of_opening (opened.BadConfig n) = run.BadSetting (setting_of n)
of_opening opened.Memory = run.Memory
of_opening opened.Device = run.Device

-- a fault as sessions enter: of growths and of passes
abbrev pub IsOfEntering : MapFault → Type 0
IsOfEntering run.Memory = ⊤
IsOfEntering run.PassesSpent = ⊤
IsOfEntering _ = ⊥

-- a fault before the end: the first bad setting is named exactly where there is one
abbrev pub IsEarlyFault : Option Setting → MapFault → Type 0
IsEarlyFault first (run.BadSetting s) = first ≡ Some s
IsEarlyFault first run.PassesSpent = first ≡ None
IsEarlyFault first run.Memory = first ≡ None
IsEarlyFault first run.Device = first ≡ None
IsEarlyFault first _ = ⊥

-- a fault that comes where no setting is bad; what is damaged comes over no honest device
abbrev pub IsLater : Bool → MapFault → Type 0
IsLater is_honest (run.BadSetting s) = ⊥
IsLater is_honest run.Stopped = ⊥
IsLater is_honest run.Damaged = IsTrue is_honest → ⊥
IsLater is_honest _ = ⊤

-- a bad setting is named exactly where there is one, and it is the first
abbrev pub IsRunFault : Bool → Option Setting → MapFault → Type 0
IsRunFault is_honest first (run.BadSetting s) = first ≡ Some s
IsRunFault is_honest first run.Stopped = ⊥
IsRunFault is_honest first run.Damaged = (first ≡ None) × (IsTrue is_honest → ⊥)
IsRunFault is_honest first _ = first ≡ None

-- why not all pairs were handed over: the taker stopped, or the map was not closed. It took what was handed over before
abbrev pub IsHandingFault : {V S : Type 0} → (S → Pairs V → S → Type 0) → (S → S → Type 0) → Bool → S → S → MapFault → Type 0
IsHandingFault {V} {S} Takes Stops is_honest old new run.Stopped = (mid : S) × Hands Takes (λ _. ⊤) old mid × Stops mid new
IsHandingFault {V} {S} Takes Stops is_honest old new fault = IsLater is_honest fault × Hands Takes (λ _. ⊤) old new
