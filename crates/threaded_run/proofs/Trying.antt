-- A session's answer as a command's reply.
use Rattle.std.proofs.Common.{◌≡◌, ℕ, IsTrue, List, Option, Some, None, Result, Ok, Err, refl, sym, ◌∙◌, subst, inr}
use Rattle.std.specs.Prelude.{codes, is_some, false}
use Rattle.std.proofs.lemmas.List.{same_from_push}
use Rattle.table_core.specs.declared.limits.Limits.{Limits}
use Rattle.table_core.specs.Logs.{history}
use Rattle.version_words.specs.Views.{Goes}
use Rattle.version_words.proofs.Fronts.{prefix_self}
use Rattle.hash_table.proofs.Fronts.{goes_self}
use Rattle.far_object.specs.Encodings.{enc_text}
use Rattle.far_map.specs.declared.refusal.MapRefusal.{MapRefusal as MapRefusal}
use Rattle.far_map.specs.declared.refusal.MapRefusal.TheVariants as map
use Rattle.far_map.specs.declared.refusal.Lack.TheVariants as lack
use Rattle.far_map.specs.Answers.{AnswersBy, held_in, IsMade, IsDone as IsDoneBy, IsRefused as IsRefusedBy}
use Rattle.command_file.specs.declared.command.Command.{Command}
use Rattle.command_file.specs.declared.command.Command.TheVariants.{Map, Table}
use Rattle.command_file.specs.declared.command.MapCommand.{MapCommand}
use Rattle.command_file.specs.declared.command.MapCommand.TheVariants.{Hold}
use Rattle.command_file.specs.declared.command.MapCommand.TheVariants as command
use Rattle.run_lines.specs.declared.refusal.LineRefusal.{LineRefusal}
use Rattle.run_lines.specs.declared.refusal.LineRefusal.TheVariants as refusal
use Rattle.run_lines.specs.Calls.{Asked, operation_of}
use Rattle.run_lines.specs.Replies.{text_of, refusal_text, TellsTable, held_past}
use Rattle.command_file.specs.declared.command.TableCommand.{TableCommand}
use Rattle.threaded_run.specs.Replies.{View, Log, MayReply, said, shown, held_behind, IsDone, IsRefused, RunsTo, RunsOn}
use Rattle.threaded_run.proofs.TooLong.{too_long_in, too_long_there}

module _ (l : Limits) (limit : ℕ) where
  -- a refusal of which nothing else is said
  free : (old new : View) (c : MapCommand) (why : LineRefusal) → ((log : Log) → MayReply l.buckets limit (history log) c (Err why)) → Goes old new → IsRefused l limit old new c why
  free old new c why may goes = record { goes = goes; seen = λ _. (old.front, prefix_self old.front, goes.grows, may old.front) }

  refused : (old new : View) (c : MapCommand) (why : MapRefusal) → IsRefusedBy enc_text l limit old new (operation_of c) why → IsRefused l limit old new c (said why)
  refused old new c map.Memory h = free old new c refusal.Memory (λ _. tt) h.goes
  refused old new c map.TooLong h = record { goes = h.goes; seen = λ honest. let s = h.seen honest in (s.0, s.1, s.2, too_long_in l.buckets limit (history s.0) (operation_of c) s.3.1) }
  refused old new c (map.Full lack.Frame) h = free old new c refusal.Full (λ _. tt) h.goes
  refused old new c (map.Full lack.Spare) h = free old new c refusal.LimboFull (λ _. tt) h.goes
  refused old new c map.NamesSpent h = free old new c refusal.NamesSpent (λ _. tt) h.goes
  refused old new c map.Device h = free old new c refusal.Device (λ _. tt) h.goes
  refused old new c map.Damaged h = record { goes = h.goes; seen = λ honest. h.seen honest }

  done : (old new : View) (c : MapCommand) (answer : Option (List ℕ)) → IsMade enc_text l limit old new (operation_of c) answer → IsDone l limit old new c answer
  done old new c answer h = record {
    finished = h.finished;
    may = λ honest log last is.
        let f = h.fits honest in
        let same : f.0 ≡ log = let both = same_from_push f.0 log f.1 last (sym f.2 ∙ is) in both.0 in
        subst (λ (x : Log). MayReply l.buckets limit (history x) c (Ok answer)) same (λ long. f.3 (too_long_there l.buckets limit (history f.0) (operation_of c) long));
  }

  -- ---- a command that asks the map

  pub runs_done : (old new : View) (held later : Option (List ℕ)) (c : MapCommand) (answer : Option (List ℕ)) (line : List ℕ) → line ≡ text_of answer → later ≡ held_behind c (Ok answer) held
      → IsDoneBy enc_text l limit old new (operation_of c) answer → RunsOn l limit old new held later (Map c) line
  runs_done old new held later c answer line is behind h = record { front = h.front; runs = (Ok answer, is, done old h.front c answer h.made, behind); goes = h.goes }

  pub runs_refused : (old new : View) (held : Option (List ℕ)) (c : MapCommand) (why : MapRefusal) (line : List ℕ) → line ≡ refusal_text (said why) → IsRefusedBy enc_text l limit old new (operation_of c) why → RunsOn l limit old new held held (Map c) line
  runs_refused old new held c why line is h = record { front = new; runs = (Err (said why), is, refused old new c why h, refl); goes = goes_self new }

  pub held_already : (old new : View) (held : Option (List ℕ)) (k line : List ℕ) → line ≡ refusal_text refusal.HeldAlready → Goes old new → RunsOn l limit old new held held (Map (Hold k)) line
  held_already old new held k line is goes = record { front = new; runs = (Err refusal.HeldAlready, is, free old new (Hold k) refusal.HeldAlready (λ _. tt) goes, refl); goes = goes_self new }

  -- ---- a command that makes no call

  -- there was no memory for its texts
  pub unmade : (old new : View) (held : Option (List ℕ)) (c : Command) (line : List ℕ) → line ≡ refusal_text refusal.Memory → Goes old new → RunsOn l limit old new held held c line
  unmade old new held (Map c) line is goes = record { front = new; runs = (Err refusal.Memory, is, free old new c refusal.Memory (λ _. tt) goes, refl); goes = goes_self new }
  unmade old new held (Table c) line is goes = record { front = new; runs = (goes, inr (is, refl)); goes = goes_self new }

pub none_held : {H : Type 0} (shows : H → Option (List ℕ)) (held : Option H) → is_some held ≡ false → shown shows held ≡ None
none_held shows None is = refl
none_held shows (Some h) is = cc

-- a command that is no hold leaves what is held
pub unheld : (c : MapCommand) (answer held : Option (List ℕ)) → ((key : List ℕ) → c ≡ command.Hold key → ⊥) → held ≡ held_behind c (Ok answer) held
unheld (command.Put k v) answer held h = refl
unheld (command.Get k) answer held h = refl
unheld (command.Delete k) answer held h = refl
unheld (command.PutIf k expected v) answer held h = refl
unheld (command.PutNew k v) answer held h = refl
unheld (command.Hold k) answer held h = absurd (h k refl)

module _ {H : Type 0} (shows : H → Option (List ℕ)) (l : Limits) (limit : ℕ) (old new : View) (o : Asked) (found : Option H) where
  abbrev Held : Type 0
  Held = AnswersBy enc_text l limit old new o (held_in {H = H} {E = MapRefusal} shows (Ok found))

  pub none_answered : found ≡ None → Held → IsDoneBy enc_text l limit old new o None
  none_answered is h = subst (λ (f : Option H). AnswersBy enc_text l limit old new o (held_in {H = H} {E = MapRefusal} shows (Ok f))) is h

  pub some_answered : (value : H) → found ≡ Some value → Held → IsDoneBy enc_text l limit old new o (shows value)
  some_answered value is h = subst (λ (f : Option H). AnswersBy enc_text l limit old new o (held_in {H = H} {E = MapRefusal} shows (Ok f))) is h
