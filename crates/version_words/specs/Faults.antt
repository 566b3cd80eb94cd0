-- What the faults of a row tell.
use Rattle.std.specs.Prelude.{◌≡◌, ◌<◌, ⊤, ℕ, List}
use Rattle.table_core.specs.declared.event.Event.{Event}
use Rattle.table_core.specs.declared.limits.Limits.{Limits}
use Rattle.table_core.specs.Logs.{names_of, passes_of}
use Rattle.table_core.specs.Lawful.{IsLawful}
use Rattle.version_words.specs.declared.fault.EnterFault.{EnterFault}
use Rattle.version_words.specs.declared.fault.EnterFault.TheVariants as enter
use Rattle.version_words.specs.declared.gather_fault.GatherFault.{GatherFault}
use Rattle.version_words.specs.declared.gather_fault.GatherFault.TheVariants as gather
use Rattle.version_words.specs.declared.fault.NameFault.{NameFault}
use Rattle.version_words.specs.declared.fault.NameFault.TheVariants as name

-- another pass was drawn between the look and the step of one call, which then saw this front, and drew none. It is opaque: who promises it had `Words::enter` say `Moved`, or cites the lemma below
pub WasPassedOver : {K V : Type 0} → List (Event K V) → Type 0
WasPassedOver log = Unit {0}

-- for the proof of `Words::enter` alone
pub was_passed_over : {K V : Type 0} (log : List (Event K V)) → WasPassedOver log
unfolding WasPassedOver
was_passed_over log = tt

module _ {K V J : Type 0} (ek : K → List ℕ) (ev : V → List ℕ) (l : Limits) where
  -- at the mark's front the last pass was drawn; or a pass, which was drawn meanwhile by another call of `enter`
  abbrev pub IsEnterFault : EnterFault K V J → Type 0
  IsEnterFault (enter.PassesSpent mark) = IsLawful ek ev l mark × (passes_of mark ≡ l.passes)
  IsEnterFault (enter.Moved mark) = IsLawful ek ev l mark × (0 < passes_of mark) × WasPassedOver mark

  -- at the mark's front more passes were drawn than were handed in; of a refused growth nothing is said
  abbrev pub IsGatherFault : ℕ → GatherFault K V J → Type 0
  IsGatherFault count (gather.Missing mark) = IsLawful ek ev l mark × (count < passes_of mark)
  IsGatherFault count gather.Memory = ⊤

-- another name was drawn at the moment of a drawing, which then saw this front, and drew none. It is opaque: who promises it had `Words::name` say `Moved`, or cites the lemma below
pub WasOvertaken : {K V : Type 0} → List (Event K V) → Type 0
WasOvertaken log = Unit {0}

-- for the proof of `Words::name` alone
pub was_overtaken : {K V : Type 0} (log : List (Event K V)) → WasOvertaken log
unfolding WasOvertaken
was_overtaken log = tt

module _ {K V : Type 0} (l : Limits) where
  -- the last name was drawn; or another was, so that the front has more names than what had been seen before the call
  abbrev pub IsNameFault : List (Event K V) → List (Event K V) → NameFault → Type 0
  IsNameFault seen log name.NamesSpent = names_of log ≡ l.names
  IsNameFault seen log name.Moved = (names_of seen < names_of log) × WasOvertaken log
