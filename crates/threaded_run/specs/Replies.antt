-- What a table that threads share replies to a command, and why it may refuse one.
use Rattle.std.specs.Prelude.{◌≡◌, ℕ, IsTrue, List, [], ◌∷◌, ◌++◌, Option, Some, None, Result, Ok, Err, ⊤}
use Rattle.far_object.specs.Encodings.{enc_text}
use Rattle.table_core.specs.declared.event.Event.{Event}
use Rattle.table_core.specs.declared.limits.Limits.{Limits}
use Rattle.table_core.specs.Maps.{map_of}
use Rattle.table_core.specs.Logs.{history}
use Rattle.version_words.specs.Views.{PassView, Goes}
use Rattle.hash_table.specs.Calls.{SeenInCall, IsFinished}
use Rattle.far_map.specs.declared.refusal.MapRefusal.{MapRefusal as MapRefusal}
use Rattle.far_map.specs.declared.refusal.MapRefusal.TheVariants as map
use Rattle.far_map.specs.declared.refusal.Lack.TheVariants as lack
use Rattle.command_file.specs.declared.command.Command.{Command}
use Rattle.command_file.specs.declared.command.Command.TheVariants.{Map, Table}
use Rattle.command_file.specs.declared.command.MapCommand.{MapCommand}
use Rattle.command_file.specs.declared.command.MapCommand.TheVariants.{Hold}
use Rattle.run_lines.specs.declared.refusal.LineRefusal.{LineRefusal}
use Rattle.run_lines.specs.declared.refusal.LineRefusal.TheVariants as refusal
use Rattle.run_lines.specs.Calls.{Call, operation_of, IsTooLong}
use Rattle.run_lines.specs.Replies.{line_of, IsTableLine, held_by}

abbrev pub Log : Type 0
Log = List (Event (List ℕ) (List ℕ))

abbrev pub View : Type 0
View = PassView (List ℕ) (List ℕ)

abbrev pub IsHold : MapCommand → Type 0
IsHold (Hold k) = ⊤
IsHold _ = ⊥

-- what a command may be replied behind these calls: it is answered where its object is not too long there, and refused as too long where it is; `held already` is a hold's, and what is damaged comes over no honest device; of the other refusals nothing is said
abbrev pub MayReply : ℕ → ℕ → List Call → MapCommand → Result (Option (List ℕ)) LineRefusal → Type 0
MayReply buckets limit before c (Ok answer) = IsTooLong buckets limit (map_of enc_text enc_text before) (operation_of c) → ⊥
MayReply buckets limit before c (Err refusal.TooLong) = IsTooLong buckets limit (map_of enc_text enc_text before) (operation_of c)
MayReply buckets limit before c (Err refusal.HeldAlready) = IsHold c
MayReply buckets limit before c (Err refusal.Damaged) = ⊥
MayReply buckets limit before c (Err _) = ⊤

-- the reply for a refusal of the map
abbrev pub said : MapRefusal → LineRefusal
said map.Memory = refusal.Memory
said map.TooLong = refusal.TooLong
said map.NamesSpent = refusal.NamesSpent
said map.Device = refusal.Device
said map.Damaged = refusal.Damaged
said (map.Full lack.Spare) = refusal.LimboFull
said (map.Full lack.Frame) = refusal.Full

-- the bytes of a value that is held, by what this shows of one
abbrev pub shown : {H : Type 0} → (H → Option (List ℕ)) → Option H → Option (List ℕ)
shown shows None = None
shown shows (Some h) = shows h

-- what is held behind a command on the map, whatever it was replied
abbrev pub held_behind : MapCommand → Result (Option (List ℕ)) LineRefusal → Option (List ℕ) → Option (List ℕ)
held_behind c (Ok answer) held = held_by c answer held
held_behind c (Err why) held = held

module _ (l : Limits) (limit : ℕ) where
  -- the pass made the command's call, and behind those that stand before it the command may be answered so
  pub record IsDone (old new : View) (c : MapCommand) (answer : Option (List ℕ)) : Type 0 where
    pub finished : IsFinished enc_text enc_text l old (operation_of c) answer new
    pub may : IsTrue l.honest → (before : Log) (last : Event (List ℕ) (List ℕ)) → new.front ≡ before ++ last ∷ [] → MayReply l.buckets limit (history before) c (Ok answer)

  -- the pass made no call, and at a log that was seen meanwhile the command may be refused so
  pub record IsRefused (old new : View) (c : MapCommand) (why : LineRefusal) : Type 0 where
    pub goes : Goes old new
    pub seen : IsTrue l.honest → SeenInCall old new (λ log. MayReply l.buckets limit (history log) c (Err why))

  -- the pass made the command's call and was answered, or was refused and made none
  abbrev pub AnswersWith : View → View → MapCommand → Result (Option (List ℕ)) LineRefusal → Type 0
  AnswersWith old new c (Ok answer) = IsDone old new c answer
  AnswersWith old new c (Err why) = IsRefused old new c why

  -- a command was run where the first value was held, and the second behind it, and this is its line: one that asks the map was answered or refused, and one that asks the table made no call
  abbrev pub RunsTo : View → View → Option (List ℕ) → Option (List ℕ) → Command → List ℕ → Type 0
  RunsTo old new held later (Map c) line = (r : Result (Option (List ℕ)) LineRefusal) × (line ≡ line_of r) × AnswersWith old new c r × (later ≡ held_behind c r held)
  RunsTo old new held later (Table c) line = Goes old new × IsTableLine c held line later

  -- the same, and then the pass went on and made no call
  pub record RunsOn (old new : View) (held later : Option (List ℕ)) (c : Command) (line : List ℕ) : Type 0 where
    pub front : View
    pub runs : RunsTo old front held later c line
    pub goes : Goes front new
