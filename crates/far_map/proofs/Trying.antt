-- One try of a call after another.
use Rattle.std.proofs.Common.{◌≡◌, ℕ, List, Option, Some, None, Result, Ok, Err, sym, subst, inl, inr, ◌⊎◌}
use Rattle.far_object.specs.Encodings.{enc_text}
use Rattle.far_object.specs.Buckets.{bucket}
use Rattle.table_core.specs.declared.limits.Limits.{Limits}
use Rattle.table_core.specs.declared.event.Event.TheVariants.{Done}
use Rattle.table_core.specs.declared.operation.Operation.TheVariants as op
use Rattle.table_core.specs.Maps.{key_of}
use Rattle.version_words.specs.Views.{Goes, SpareView}
use Rattle.version_words.proofs.Fronts.{prefix_self, prefix_trans}
use Rattle.hash_table.specs.declared.refusal.Refusal.{Refusal as TableRefusal}
use Rattle.hash_table.specs.declared.refusal.Refusal.TheVariants as table
use Rattle.hash_table.specs.Calls.{IsUnchanged, IsFinished, IsRefused as IsRefusedCall}
use Rattle.hash_table.specs.Refusals.{OfGet, OfFetch}
use Rattle.hash_table.specs.Scopes.{ScopeView, shown}
use Rattle.hash_table.specs.Steps.{IsInstalledLater}
use Rattle.hash_table.proofs.Fronts.{goes_self, goes_trans, finished_from}
use Rattle.far_map.specs.declared.refusal.MapRefusal.{MapRefusal}
use Rattle.far_map.specs.declared.refusal.MapRefusal.TheVariants as refusal
use Rattle.far_map.specs.declared.refusal.Lack.TheVariants as lack
use Rattle.far_map.specs.Refusals.{said, IsOfRoom, IsUnread}
use Rattle.far_map.specs.Views.{View, Call}
use Rattle.far_map.specs.Answers.{MayRefuse, IsRefused, IsMade, IsDone, AnswersBy, Tries, IsReadBy, held_in}

module _ {V : Type 0} (ev : V → List ℕ) (l : Limits) (limit : ℕ) where
  -- a refusal of which this is so at the new front
  here : (old new : View V) (o : Call V) (why : MapRefusal) → MayRefuse ev l limit o why new.front → Goes old new → IsRefused ev l limit old new o why
  here old new o why may goes = record { goes = goes; seen = λ _. (new.front, goes.grows, prefix_self new.front, may) }

  abbrev at : Call V → ℕ
  at o = bucket enc_text l.buckets (key_of o)

  pub change_refused : (old new : View V) (o : Call V) (e : TableRefusal) → Goes old new → IsUnchanged enc_text ev l limit (at o) o old new e → IsRefused ev l limit old new o (said e)
  change_refused old new o table.Memory goes h = here old new o refusal.Memory tt goes
  change_refused old new o table.Far goes h = here old new o (refusal.Full lack.Frame) tt goes
  change_refused old new o table.Moved goes h = here old new o (refusal.Full lack.Frame) tt goes
  change_refused old new o table.Missed goes h = here old new o (refusal.Full lack.Frame) tt goes
  change_refused old new o table.NoFrame goes h = here old new o (refusal.Full lack.Frame) tt goes
  change_refused old new o table.TooLong goes h = record { goes = goes; seen = λ honest. let s = h.1 honest in (s.0, s.1, s.2, (h.0, s.3)) }
  change_refused old new o table.NamesSpent goes h = here old new o refusal.NamesSpent h goes
  change_refused old new o table.LimboFull goes h = here old new o (refusal.Full lack.Spare) tt goes
  change_refused old new o table.Device goes h = here old new o refusal.Device tt goes
  change_refused old new o table.Damaged goes h = record { goes = goes; seen = λ honest. absurd (h honest) }

  -- the same of a get
  pub get_refused : (b : ℕ) (old new : View V) (o : Call V) (e : TableRefusal) → Goes old new → IsRefusedCall enc_text ev l b old new e → OfGet e → IsRefused ev l limit old new o (said e)
  get_refused b old new o table.Memory goes h of = here old new o refusal.Memory tt goes
  get_refused b old new o table.Far goes h of = absurd of
  get_refused b old new o table.Moved goes h of = absurd of
  get_refused b old new o table.Missed goes h of = absurd of
  get_refused b old new o table.NoFrame goes h of = absurd of
  get_refused b old new o table.TooLong goes h of = absurd of
  get_refused b old new o table.NamesSpent goes h of = absurd of
  get_refused b old new o table.LimboFull goes h of = absurd of
  get_refused b old new o table.Device goes h of = here old new o refusal.Device tt goes
  get_refused b old new o table.Damaged goes h of = record { goes = goes; seen = λ honest. absurd (h honest) }

  pub unread : (b : ℕ) (old new : View V) (e : TableRefusal) → IsRefusedCall enc_text ev l b old new e → OfGet e → IsUnread l.honest (said e)
  unread b old new table.Memory h of = tt
  unread b old new table.Far h of = absurd of
  unread b old new table.Moved h of = absurd of
  unread b old new table.Missed h of = absurd of
  unread b old new table.NoFrame h of = absurd of
  unread b old new table.TooLong h of = absurd of
  unread b old new table.NamesSpent h of = absurd of
  unread b old new table.LimboFull h of = absurd of
  unread b old new table.Device h of = tt
  unread b old new table.Damaged h of = h

  -- the same of a swap-in
  pub fetch_refused : (b : ℕ) (old new : View V) (o : Call V) (e : TableRefusal) → Goes old new → IsRefusedCall enc_text ev l b old new e → OfFetch e → IsRefused ev l limit old new o (said e)
  fetch_refused b old new o table.Memory goes h of = here old new o refusal.Memory tt goes
  fetch_refused b old new o table.Far goes h of = absurd of
  fetch_refused b old new o table.Moved goes h of = here old new o (refusal.Full lack.Frame) tt goes
  fetch_refused b old new o table.Missed goes h of = here old new o (refusal.Full lack.Frame) tt goes
  fetch_refused b old new o table.NoFrame goes h of = here old new o (refusal.Full lack.Frame) tt goes
  fetch_refused b old new o table.TooLong goes h of = absurd of
  fetch_refused b old new o table.NamesSpent goes h of = here old new o refusal.NamesSpent h goes
  fetch_refused b old new o table.LimboFull goes h of = here old new o (refusal.Full lack.Spare) tt goes
  fetch_refused b old new o table.Device goes h of = here old new o refusal.Device tt goes
  fetch_refused b old new o table.Damaged goes h of = record { goes = goes; seen = λ honest. absurd (h honest) }

  -- ---- a try that was answered

  -- a get is never too long
  pub get_made : (old new : View V) (k : List ℕ) (answer : Option V) → IsFinished enc_text ev l old (op.Get k) answer new → IsMade ev l limit old new (op.Get k) answer
  get_made old new k answer h = record { finished = h; fits = λ honest. (h.last.1.0, Done old.number (op.Get k) h.last.0, h.last.1.1, λ long. long.0) }

  -- what a change installed was not too long
  pub change_made : (frames : ℕ) (before after : List (SpareView (List ℕ) V)) (old new : View V) (o : Call V) (answer : Option V) → IsFinished enc_text ev l old o answer new
      → IsInstalledLater enc_text ev l limit frames (at o) o old before new after → IsMade ev l limit old new o answer
  change_made frames before after old new o answer h later =
      let i = later.2 in
      record { finished = h; fits = λ honest. (i.follows.0, Done old.number o i.word, i.follows.1, i.fits honest) }

  -- ---- tries that were refused before

  pub refused_from : (old mid new : View V) (o : Call V) (why : MapRefusal) → Goes old mid → IsRefused ev l limit mid new o why → IsRefused ev l limit old new o why
  refused_from old mid new o why goes h = record {
    goes = goes_trans goes h.goes;
    seen = λ honest. let s = h.seen honest in (s.0, prefix_trans old.front mid.front s.0 goes.grows s.1, s.2, s.3);
  }

  made_from : (old mid new : View V) (o : Call V) (answer : Option V) → Goes old mid → IsMade ev l limit mid new o answer → IsMade ev l limit old new o answer
  made_from old mid new o answer goes h = record { finished = finished_from enc_text ev l o answer goes h.finished; fits = h.fits }

  pub done_from : (old mid new : View V) (o : Call V) (answer : Option V) → Goes old mid → IsMade ev l limit mid new o answer → IsDone ev l limit old new o answer
  done_from old mid new o answer goes h = record { front = new; made = made_from old mid new o answer goes h; goes = goes_self new }

  pub made_late : (old mid new : View V) (k : List ℕ) (answer : Option V) → Goes old mid → IsFinished enc_text ev l mid (op.Get k) answer new → IsMade ev l limit old new (op.Get k) answer
  made_late old mid new k answer goes h = made_from old mid new (op.Get k) answer goes (get_made mid new k answer h)

  done_later : (old mid new : View V) (o : Call V) (answer : Option V) → Goes old mid → IsDone ev l limit mid new o answer → IsDone ev l limit old new o answer
  done_later old mid new o answer goes h = record { front = h.front; made = made_from old mid h.front o answer goes h.made; goes = h.goes }

  pub answers_from : (old mid new : View V) (o : Call V) (r : Result (Option V) MapRefusal) → Goes old mid → AnswersBy ev l limit mid new o r → AnswersBy ev l limit old new o r
  answers_from old mid new o (Ok answer) goes h = done_later old mid new o answer goes h
  answers_from old mid new o (Err why) goes h = refused_from old mid new o why goes h

  -- it was read where it lies
  pub read_near : (old new : View V) (k : List ℕ) (answer : Option V) → IsFinished enc_text ev l old (op.Get k) answer new → IsDone ev l limit old new (op.Get k) answer
  read_near old new k answer h = record { front = new; made = get_made old new k answer h; goes = goes_self new }

  -- a copy was read
  pub read_none : (old mid new : View V) (k : List ℕ) (answer : Option V) → answer ≡ None → Goes old mid → IsDone ev l limit mid new (op.Get k) answer → IsDone ev l limit old new (op.Get k) None
  read_none old mid new k answer is goes h = done_later old mid new (op.Get k) None goes (subst (λ (a : Option V). IsDone ev l limit mid new (op.Get k) a) is h)

  pub read_some : {T : Type 0} (old mid new : View V) (k : List ℕ) (Makes : V → T → Type 0) (answer : Option V) (value : V) (made : T) → answer ≡ Some value → Goes old mid
      → IsDone ev l limit mid new (op.Get k) answer → Makes value made → (x : V) × IsDone ev l limit old new (op.Get k) (Some x) × Makes x made
  read_some old mid new k Makes answer value made is goes h makes =
      (value, done_later old mid new (op.Get k) (Some value) goes (subst (λ (a : Option V). IsDone ev l limit mid new (op.Get k) a) is h), makes)

  pub gone_on : (old mid new : View V) (o : Call V) (why : MapRefusal) → IsRefused ev l limit old mid o why → Goes mid new → IsRefused ev l limit old new o why
  gone_on old mid new o why h goes = record {
    goes = goes_trans h.goes goes;
    seen = λ honest. let s = h.seen honest in (s.0, s.1, prefix_trans s.0 mid.front new.front s.2 goes.grows, s.3);
  }

  of_room : (old new : View V) (o : Call V) (why : MapRefusal) → Goes old new → IsOfRoom l new.front why → IsRefused ev l limit old new o why
  of_room old new o refusal.Memory goes t = here old new o refusal.Memory tt goes
  of_room old new o refusal.TooLong goes t = absurd t
  of_room old new o (refusal.Full what) goes t = absurd t
  of_room old new o refusal.NamesSpent goes t = here old new o refusal.NamesSpent t goes
  of_room old new o refusal.Device goes t = here old new o refusal.Device tt goes
  of_room old new o refusal.Damaged goes t = absurd t

  -- what no room helps is the refusal, and so is what was refused to what makes room, behind which the pass has gone on
  pub replied_why : (old mid new later : View V) (o : Call V) (e : TableRefusal) (why : MapRefusal) → Goes old mid → IsRefused ev l limit mid new o (said e) → Goes new later → (why ≡ said e) ⊎ IsOfRoom l later.front why → IsRefused ev l limit old later o why
  replied_why old mid new later o e why goes h on (inl is) = gone_on old new later o why (refused_from old mid new o why goes (subst (λ (w : MapRefusal). IsRefused ev l limit mid new o w) (sym is) h)) on
  replied_why old mid new later o e why goes h on (inr t) = of_room old later o why (goes_trans goes (goes_trans h.goes on)) t

  -- ---- a pass that goes on behind a call

  done_on : (old mid new : View V) (o : Call V) (answer : Option V) → IsDone ev l limit old mid o answer → Goes mid new → IsDone ev l limit old new o answer
  done_on old mid new o answer h goes = record { front = h.front; made = h.made; goes = goes_trans h.goes goes }

  pub answers_on : (old mid new : View V) (o : Call V) (r : Result (Option V) MapRefusal) → AnswersBy ev l limit old mid o r → Goes mid new → AnswersBy ev l limit old new o r
  answers_on old mid new o (Ok answer) h goes = done_on old mid new o answer h goes
  answers_on old mid new o (Err why) h goes = gone_on old mid new o why h goes

  pub read_on : {T : Type 0} (old mid new : View V) (k : List ℕ) (Makes : V → T → Type 0) (r : Result (Option T) MapRefusal) → IsReadBy ev l limit old mid k Makes r → Goes mid new → IsReadBy ev l limit old new k Makes r
  read_on old mid new k Makes (Ok None) h goes = done_on old mid new (op.Get k) None h goes
  read_on old mid new k Makes (Ok (Some made)) h goes = (h.0, done_on old mid new (op.Get k) (Some h.0) h.1 goes, h.2)
  read_on old mid new k Makes (Err why) h goes = gone_on old mid new (op.Get k) why h goes

  -- ---- a value that is held

  pub held_tries : (old mid new : View V) (k : List ℕ) (held : Option (ScopeView V)) → Goes old mid → IsFinished enc_text ev l mid (op.Get k) (shown held) new
      → Tries ev l limit old new (op.Get k) (held_in {H = ScopeView V} {E = TableRefusal} (λ s. s.value) (Ok held))
  held_tries old mid new k None goes h = made_late old mid new k None goes h
  held_tries old mid new k (Some s) goes h = made_late old mid new k s.value goes h

  pub held_answers : (old mid new : View V) (k : List ℕ) (held : Option (ScopeView V)) → Goes old mid
      → Tries ev l limit mid new (op.Get k) (held_in {H = ScopeView V} {E = TableRefusal} (λ s. s.value) (Ok held))
      → AnswersBy ev l limit old new (op.Get k) (held_in {H = ScopeView V} {E = MapRefusal} (λ s. s.value) (Ok held))
  held_answers old mid new k None goes h = done_from old mid new (op.Get k) None goes h
  held_answers old mid new k (Some s) goes h = done_from old mid new (op.Get k) s.value goes h

  pub done_now : (old new : View V) (o : Call V) (answer : Option V) → IsMade ev l limit old new o answer → IsDone ev l limit old new o answer
  done_now old new o answer h = record { front = new; made = h; goes = goes_self new }

  pub read_scope : (old new : View V) (k : List ℕ) (shown_value : V) (value : Option V) → value ≡ Some shown_value → IsMade ev l limit old new (op.Get k) value → IsDone ev l limit old new (op.Get k) (Some shown_value)
  read_scope old new k shown_value value is h = done_now old new (op.Get k) (Some shown_value) (subst (λ (v : Option V). IsMade ev l limit old new (op.Get k) v) is h)
