-- What contracts see of a machine, and what its calls do.
use Rattle.std.specs.Prelude.{zero, suc, ◌≡◌, ℕ, ◌+◌, ◌<◌, List, [], ◌∷◌, ◌++◌, length, slice_index, slice_get, Option, None, ◌⊎◌}
use Rattle.table_core.specs.Maps.{map_of, reply}
use Rattle.table_core.specs.Logs.{history, passes_of, word}
use Rattle.table_core.specs.Lawful.{PassRule, NumberRule, DrawnRule, NewerRule, ContentsRule, MayFollow, IsLawful, widest}
use Rattle.table_core.specs.declared.event.Event.{Event}
use Rattle.table_core.specs.declared.event.Event.TheVariants.{Named, Done}
use Rattle.table_core.specs.declared.fault.CoreFault.{CoreFault}
use Rattle.table_core.specs.declared.fault.Rule.{Rule}
use Rattle.table_core.specs.declared.fault.Rule.TheVariants.{NameUsed, NotNewer, WrongContents, WrongPass, Memory}
use Rattle.table_core.specs.declared.limits.Limits.{Limits}
use Rattle.table_core.specs.declared.operation.Operation.{Operation}

-- the words of the buckets, the bucket and the contents of each name in order, and the last pass
pub record MachineView (K V : Type 0) : Type 0 where
  pub words : List ℕ
  pub names : List (ℕ × List (K × V))
  pub passes : ℕ

module _ {K V : Type 0} where
  abbrev pub buckets_of : MachineView K V → ℕ
  buckets_of m = length m.words

  -- the buckets and the contents that names were drawn for, in order
  abbrev pub namings : List (Event K V) → List (ℕ × List (K × V))
  namings [] = []
  namings (Named n b es ∷ log) = (b, es) ∷ namings log
  namings (_ ∷ log) = namings log

  -- the one of the name n, counted from 1
  abbrev pub numbered : List (ℕ × List (K × V)) → ℕ → Option (ℕ × List (K × V))
  numbered names zero = None
  numbered names (suc n) = slice_get names n

module _ {K V : Type 0} (ek : K → List ℕ) (ev : V → List ℕ) where
  -- the machine has the words, the contents, the last name and the last pass of a lawful log
  pub record StandsAt (m : MachineView K V) (log : List (Event K V)) : Type 0 where
    pub lawful : IsLawful ek ev (widest (buckets_of m)) log
    pub words : (b : ℕ) → b < buckets_of m → slice_index m.words b ≡ word ek (buckets_of m) log b
    pub names : m.names ≡ namings log
    pub passes : m.passes ≡ passes_of log

  -- the machine goes on by one event
  pub record GoesOn (old new : MachineView K V) (log : List (Event K V)) (e : Event K V) : Type 0 where
    pub stands : StandsAt new (log ++ e ∷ [])
    pub buckets : buckets_of new ≡ buckets_of old

  -- the machine goes on by a call, which is answered as the map of the history answers it
  pub record Answers (old new : MachineView K V) (log : List (Event K V)) (pass : ℕ) (op : Operation K V) (w : Option ℕ) (answer : Option V) : Type 0 where
    pub goes_on : GoesOn old new log (Done pass op w)
    pub answered : answer ≡ reply ek (map_of ek ev (history log)) op

-- the event breaks the rule, and none that is looked at before it; want of memory comes only where the event may follow
module _ {K V : Type 0} (ek : K → List ℕ) (ev : V → List ℕ) (l : Limits) where
  abbrev pub Breaks : List (Event K V) → Event K V → Rule → Type 0
  Breaks log e WrongPass = PassRule ek ev l log e → ⊥
  Breaks log e NameUsed = PassRule ek ev l log e × (NumberRule ek ev l log e → ⊥)
  Breaks log e NotNewer = PassRule ek ev l log e × NumberRule ek ev l log e × DrawnRule ek ev l log e × (NewerRule ek ev l log e → ⊥)
  Breaks log e WrongContents =
      PassRule ek ev l log e × NumberRule ek ev l log e
      × ((DrawnRule ek ev l log e → ⊥) ⊎ (DrawnRule ek ev l log e × NewerRule ek ev l log e × (ContentsRule ek ev l log e → ⊥)))
  Breaks log e Memory = MayFollow ek ev l log e

module _ {K V : Type 0} (ek : K → List ℕ) (ev : V → List ℕ) where
  -- a call is refused: its own fault has the place 0, and the event breaks the rule that it names
  pub record Refuses (m : MachineView K V) (log : List (Event K V)) (e : Event K V) (fault : CoreFault) : Type 0 where
    pub place : fault.place ≡ 0
    pub breaks : Breaks ek ev (widest (buckets_of m)) log e fault.rule

-- a replay that stops
module _ {K V : Type 0} (ek : K → List ℕ) (ev : V → List ℕ) (l : Limits) where
  -- at an event, whose place is counted from 1: those before it are lawful, and it breaks the rule
  pub record StopsAt (log : List (Event K V)) (fault : CoreFault) : Type 0 where
    pub before : List (Event K V)
    pub event : Event K V
    pub later : List (Event K V)
    pub log_is : log ≡ before ++ event ∷ later
    pub place : fault.place ≡ length before + 1
    pub lawful : IsLawful ek ev l before
    pub breaks : Breaks ek ev l before event fault.rule
    pub no_memory : fault.rule ≡ Memory → ⊥

  -- or for want of memory, which has no place
  abbrev pub Stops : List (Event K V) → CoreFault → Type 0
  Stops log fault = (fault ≡ record { place = 0; rule = Memory }) ⊎ StopsAt log fault
