-- What a run's commands are replied.
use Rattle.std.specs.Prelude.{◌≡◌, ℕ, List, [], ◌∷◌, ◌++◌, codes, decimal, Option, Some, None, Result, Ok, Err, ◌⊎◌}
use Rattle.far_object.specs.Encodings.{enc_text}
use Rattle.table_core.specs.Maps.{reply, map_of}
use Rattle.command_file.specs.declared.command.Command.{Command}
use Rattle.command_file.specs.declared.command.Command.TheVariants.{Map, Table}
use Rattle.command_file.specs.declared.command.MapCommand.{MapCommand}
use Rattle.command_file.specs.declared.command.MapCommand.TheVariants as command
use Rattle.command_file.specs.declared.command.TableCommand.{TableCommand}
use Rattle.command_file.specs.declared.command.TableCommand.TheVariants as table
use Rattle.run_lines.specs.declared.refusal.LineRefusal.{LineRefusal}
use Rattle.run_lines.specs.declared.refusal.LineRefusal.TheVariants as refusal
use Rattle.run_lines.specs.Calls.{Asked, Call, calls_by, operation_of}

-- ---- texts

-- the text of a value, or of none
abbrev pub text_of : Option (List ℕ) → List ℕ
text_of None = codes "none"
text_of (Some value) = value

abbrev pub refusal_text : LineRefusal → List ℕ
refusal_text refusal.Memory = codes "memory"
refusal_text refusal.TooLong = codes "too long"
refusal_text refusal.NamesSpent = codes "names spent"
refusal_text refusal.LimboFull = codes "limbo full"
refusal_text refusal.Device = codes "device"
refusal_text refusal.Damaged = codes "damaged"
refusal_text refusal.Full = codes "full"
refusal_text refusal.HeldAlready = codes "held already"

-- the line of a reply
abbrev pub line_of : Result (Option (List ℕ)) LineRefusal → List ℕ
line_of (Ok answer) = text_of answer
line_of (Err why) = refusal_text why

-- the line of a value that is shown, or of none
abbrev pub shown_text : Option (List ℕ) → List ℕ
shown_text None = codes "nothing held"
shown_text (Some value) = value

-- the line of its release
abbrev pub released_text : Option (List ℕ) → List ℕ
released_text None = codes "nothing held"
released_text (Some value) = codes "released"

-- an object went to a device, none might, or the reason why none did
abbrev pub IsEvictLine : List ℕ → Type 0
IsEvictLine line = (line ≡ codes "evicted") ⊎ ((line ≡ codes "nothing") ⊎ ((why : LineRefusal) × (line ≡ refusal_text why)))

-- where an object lies, and its name
abbrev pub IsPlaceLine : List ℕ → Type 0
IsPlaceLine line = (name : ℕ) × ((line ≡ codes "empty " ++ decimal name) ⊎ ((line ≡ codes "local " ++ decimal name) ⊎ (line ≡ codes "far " ++ decimal name)))

-- ---- commands that ask the table

-- what the line tells, where this value is held
abbrev pub TellsTable : TableCommand → Option (List ℕ) → List ℕ → Type 0
TellsTable table.Show held line = line ≡ shown_text held
TellsTable table.Release held line = line ≡ released_text held
TellsTable table.Evict held line = IsEvictLine line
TellsTable (table.Where key) held line = IsPlaceLine line

-- what is held behind the command
abbrev pub held_past : TableCommand → Option (List ℕ) → Option (List ℕ)
held_past table.Release held = None
held_past _ held = held

-- the line of a command where the first value is held, and the second behind it; there may be no memory for its texts
abbrev pub IsTableLine : TableCommand → Option (List ℕ) → List ℕ → Option (List ℕ) → Type 0
IsTableLine c held line later = (TellsTable c held line × (later ≡ held_past c held)) ⊎ ((line ≡ refusal_text refusal.Memory) × (later ≡ held))

-- ---- commands that ask the map

-- what is held behind a command that was answered so: a hold's answer
abbrev pub held_by : MapCommand → Option (List ℕ) → Option (List ℕ) → Option (List ℕ)
held_by (command.Hold key) answer held = answer
held_by _ answer held = held

-- ---- replies in a history

-- a place in the history, at which the pass has made just these calls
pub record Place (calls : List Call) (p : ℕ) (done : List Asked) : Type 0 where
  pub before : List Call
  pub later : List Call
  pub stands : calls ≡ before ++ later
  pub past : calls_by p before ≡ done

-- MayReply: what a command may be replied at a beginning of the history
module _ (MayReply : List Call → MapCommand → Result (Option (List ℕ)) LineRefusal → Type 0) where
  -- the pass called the command's operation behind those that it had done, and the answer is the map's of all that stood before it, where it may be answered so
  pub record AnsweredAt (calls : List Call) (p : ℕ) (done : List Asked) (c : MapCommand) (answer : Option (List ℕ)) : Type 0 where
    pub before : List Call
    pub later : List Call
    pub stands : calls ≡ before ++ (p, operation_of c) ∷ later
    pub past : calls_by p before ≡ done
    pub told : answer ≡ reply enc_text (map_of enc_text enc_text before) (operation_of c)
    pub may : MayReply before c (Ok answer)

  -- the line is that of a refusal which came where the pass had made just these calls
  pub record RefusedAt (calls : List Call) (p : ℕ) (done : List Asked) (c : MapCommand) (line : List ℕ) : Type 0 where
    pub why : LineRefusal
    pub line_is : line ≡ refusal_text why
    pub place : Place calls p done
    pub may : MayReply place.before c (Err why)

  -- The commands, behind the calls that the pass had done and where the first value is held, were replied these lines, and it
  -- called nothing else; the last value is held behind them. A command that asks the map is answered by a call, or refused
  -- without one; one that asks the table makes none.
  abbrev pub RepliedFrom : List Call → ℕ → List Asked → Option (List ℕ) → List Command → List (List ℕ) → Option (List ℕ) → Type 0
  RepliedFrom calls p done held [] [] last = (calls_by p calls ≡ done) × (last ≡ held)
  RepliedFrom calls p done held [] (line ∷ lines) last = ⊥
  RepliedFrom calls p done held (c ∷ commands) [] last = ⊥
  RepliedFrom calls p done held (Table c ∷ commands) (line ∷ lines) last = (later : Option (List ℕ)) × IsTableLine c held line later × RepliedFrom calls p done later commands lines last
  RepliedFrom calls p done held (Map c ∷ commands) (line ∷ lines) last =
      ((answer : Option (List ℕ)) × (line ≡ text_of answer) × AnsweredAt calls p done c answer
      × RepliedFrom calls p (done ++ operation_of c ∷ []) (held_by c answer held) commands lines last)
      ⊎ (RefusedAt calls p done c line × RepliedFrom calls p done held commands lines last)

  -- the commands of a pass, which begins with no value held, were replied these lines
  abbrev pub RepliedIn : List Call → ℕ → List Command → List (List ℕ) → Type 0
  RepliedIn calls p commands lines = (last : Option (List ℕ)) × RepliedFrom calls p [] None commands lines last
