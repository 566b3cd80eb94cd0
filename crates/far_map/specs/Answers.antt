-- What a session's call tells of the logs that its pass has seen.
use Rattle.std.specs.Prelude.{◌≡◌, ℕ, IsTrue, List, [], ◌∷◌, ◌++◌, true, false, Bool, Option, Some, None, Result, Ok, Err, ⊤}
use Rattle.far_object.specs.Encodings.{enc_text}
use Rattle.far_object.specs.Buckets.{bucket}
use Rattle.table_core.specs.declared.event.Event.{Event}
use Rattle.table_core.specs.declared.limits.Limits.{Limits}
use Rattle.table_core.specs.declared.operation.Operation.TheVariants as op
use Rattle.table_core.specs.Maps.{key_of}
use Rattle.table_core.specs.Logs.{names_of}
use Rattle.version_words.specs.Views.{Goes}
use Rattle.hash_table.specs.declared.refusal.Refusal.{Refusal as TableRefusal}
use Rattle.hash_table.specs.Calls.{SeenInCall, IsFinished, IsTooLong}
use Rattle.hash_table.specs.Changes.{Sets}
use Rattle.far_map.specs.declared.refusal.MapRefusal.{MapRefusal}
use Rattle.far_map.specs.declared.refusal.MapRefusal.TheVariants as refusal
use Rattle.far_map.specs.Refusals.{said}
use Rattle.far_map.specs.Views.{View, Log, Call, SessionView}

-- what a get answers whose value is held: what this shows of it
abbrev pub held_in : {H V E : Type 0} → (H → Option V) → Result (Option H) E → Result (Option V) E
held_in shows (Ok None) = Ok None
held_in shows (Ok (Some h)) = Ok (shows h)
held_in shows (Err e) = Err e

module _ {V : Type 0} (ev : V → List ℕ) (l : Limits) (limit : ℕ) where
  -- behind this log the operation sets its key, and its bucket's object would be longer than the limit
  abbrev pub IsLong : Call V → Log V → Type 0
  IsLong o log = IsTooLong enc_text ev l limit (bucket enc_text l.buckets (key_of o)) o log

  -- for which reason a call may be refused at a log: its object would be too long there, or the last name is drawn there; what is damaged comes over no honest device; of the others nothing is said
  abbrev pub MayRefuse : Call V → MapRefusal → Log V → Type 0
  MayRefuse o refusal.TooLong log = Sets o × IsLong o log
  MayRefuse o refusal.NamesSpent log = names_of log ≡ l.names
  MayRefuse o refusal.Damaged log = ⊥
  MayRefuse o _ log = ⊤

  -- the pass made no call, and at a log that was seen meanwhile the call may be refused so
  pub record IsRefused (old new : View V) (o : Call V) (why : MapRefusal) : Type 0 where
    pub goes : Goes old new
    pub seen : IsTrue l.honest → SeenInCall old new (MayRefuse o why)

  -- a log ends with the call, and behind the log before it was not too long
  abbrev pub Fits : Call V → Log V → Type 0
  Fits o log = (before : Log V) × (e : Event (List ℕ) V) × (log ≡ before ++ e ∷ []) × (IsLong o before → ⊥)

  -- the call was finished as the last event of the new front, where it was not too long
  pub record IsMade (old new : View V) (o : Call V) (answer : Option V) : Type 0 where
    pub finished : IsFinished enc_text ev l old o answer new
    pub fits : IsTrue l.honest → Fits o new.front

  -- the call was finished at a front, behind which the pass went on and made no call
  pub record IsDone (old new : View V) (o : Call V) (answer : Option V) : Type 0 where
    pub front : View V
    pub made : IsMade old front o answer
    pub goes : Goes front new

  -- the pass made the call and was answered, or was refused and made none
  abbrev pub AnswersBy : View V → View V → Call V → Result (Option V) MapRefusal → Type 0
  AnswersBy old new o (Ok answer) = IsDone old new o answer
  AnswersBy old new o (Err why) = IsRefused old new o why

  -- the same of one try, whose refusal is the table's, and which nothing follows
  abbrev pub Tries : View V → View V → Call V → Result (Option V) TableRefusal → Type 0
  Tries old new o (Ok answer) = IsMade old new o answer
  Tries old new o (Err e) = IsRefused old new o (said e)

  -- a get whose value a reader was given, which made this of it
  abbrev pub IsReadBy : {T : Type 0} → View V → View V → List ℕ → (V → T → Type 0) → Result (Option T) MapRefusal → Type 0
  IsReadBy old new k Makes (Ok None) = IsDone old new (op.Get k) None
  IsReadBy old new k Makes (Ok (Some made)) = (value : V) × IsDone old new (op.Get k) (Some value) × Makes value made
  IsReadBy old new k Makes (Err why) = IsRefused old new (op.Get k) why

module _ {V : Type 0} (ev : V → List ℕ) (l : Limits) where
  -- a session made the call and was answered, or was refused and made none
  abbrev pub Answers : SessionView V → SessionView V → Call V → Result (Option V) MapRefusal → Type 0
  Answers old new o result = AnswersBy ev l old.limit old.pass new.pass o result

  -- a session's get whose value a reader was given
  abbrev pub IsRead : {T : Type 0} → SessionView V → SessionView V → List ℕ → (V → T → Type 0) → Result (Option T) MapRefusal → Type 0
  IsRead old new k Makes result = IsReadBy ev l old.limit old.pass new.pass k Makes result

  -- a session's get, of which is told whether there is a value
  abbrev pub IsFound : SessionView V → SessionView V → List ℕ → Result Bool MapRefusal → Type 0
  IsFound old new k (Ok true) = (value : V) × IsDone ev l old.limit old.pass new.pass (op.Get k) (Some value)
  IsFound old new k (Ok false) = IsDone ev l old.limit old.pass new.pass (op.Get k) None
  IsFound old new k (Err why) = IsRefused ev l old.limit old.pass new.pass (op.Get k) why
