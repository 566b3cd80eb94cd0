-- A run of one file on the map of one thread.
use Rattle.std.specs.Prelude.{◌≡◌, ℕ, ◌+◌, List, [], ◌∷◌, ◌++◌, length, Option, Result, Ok, Err, IfSome, ⊤}
use Rattle.std.specs.List.{AllByRecursion}
use Rattle.std.specs.Io.KnownBytes.{Keeps}
use Rattle.far_object.specs.Encodings.{enc_text}
use Rattle.table_core.specs.Maps.{map_of}
use Rattle.table_core.specs.Logs.{history}
use Rattle.table_core.specs.Machines.{buckets_of}
use Rattle.command_file.specs.declared.command.Command.{Command}
use Rattle.command_file.specs.declared.command.Command.TheVariants.{Map, Table}
use Rattle.command_file.specs.declared.command.MapCommand.{MapCommand}
use Rattle.command_file.specs.declared.command.TableCommand.{TableCommand}
use Rattle.command_file.specs.Lines.{lines_of}
use Rattle.command_file.specs.Files.{IsFile, IsFileFault}
use Rattle.run_lines.specs.declared.refusal.LineRefusal.{LineRefusal}
use Rattle.run_lines.specs.Calls.{Call, operation_of, IsTooLong}
use Rattle.run_lines.specs.Replies.{RepliedIn}
use Rattle.run_lines.specs.Output.{written}
use Rattle.run_lines.specs.Runs.{Ran}
use Rattle.plain_run.specs.declared.fault.PlainFault.{PlainFault}
use Rattle.plain_run.specs.declared.fault.PlainFault.TheVariants as fault
use Rattle.plain_run.specs.declared.table.PlainTable.{PlainTable}
use Rattle.plain_run.specs.Tables.{Log, IsAt, IsWhy}

-- the command asks the map
abbrev pub IsOfMap : Command → Type 0
IsOfMap (Map c) = ⊤
IsOfMap (Table c) = ⊥

-- a command is answered where its object is not too long for the map of the calls before it, and refused where it is, or for want of memory
abbrev pub MayReply : ℕ → ℕ → List Call → MapCommand → Result (Option (List ℕ)) LineRefusal → Type 0
MayReply buckets limit before c (Ok answer) = IsTooLong buckets limit (map_of enc_text enc_text before) (operation_of c) → ⊥
MayReply buckets limit before c (Err why) = IsWhy buckets limit (map_of enc_text enc_text before) (operation_of c) why

-- the text is what the commands of the file are replied, each of which asks the map, and the contents behind them
pub record PlainRan (buckets limit : ℕ) (bytes text : List ℕ) : Type 0 where
  pub commands : List Command
  pub file : IsFile (lines_of bytes) commands
  pub mapped : AllByRecursion IsOfMap commands
  pub ran : Ran (MayReply buckets limit) (commands ∷ []) text

-- ---- why a run ends early

-- the n-th command, counted from 1, is the first that asks the table itself
pub record AsksTableAt (commands : List Command) (n : ℕ) : Type 0 where
  pub before : List Command
  pub command : TableCommand
  pub behind : List Command
  pub is : commands ≡ before ++ Table command ∷ behind
  pub mapped : AllByRecursion IsOfMap before
  pub counted : n ≡ length before + 1

-- the fault fits the file's bytes, where they are known
abbrev pub IsFaultOf : Option (List ℕ) → PlainFault → Type 0
IsFaultOf known (fault.File f) = IfSome known (λ bytes. IsFileFault (lines_of bytes) f)
IsFaultOf known (fault.AsksTable n) = IfSome known (λ bytes. (commands : List Command) × IsFile (lines_of bytes) commands × AsksTableAt commands n)
IsFaultOf known _ = ⊤

-- the fault comes while the commands are run
abbrev pub IsOfRunning : List Command → PlainFault → Type 0
IsOfRunning commands (fault.AsksTable n) = AsksTableAt commands n
IsOfRunning commands fault.Memory = ⊤
IsOfRunning commands _ = ⊥

-- the fault comes while the output is written
abbrev pub IsOfWriting : PlainFault → Type 0
IsOfWriting fault.Write = ⊤
IsOfWriting fault.Contents = ⊤
IsOfWriting _ = ⊥

-- before the first write the writer has what it had
abbrev pub KeepsBefore : Option (List ℕ) → Option (List ℕ) → PlainFault → Type 0
KeepsBefore old new fault.Write = ⊤
KeepsBefore old new fault.Contents = ⊤
KeepsBefore old new _ = Keeps old new

-- ---- the commands so far

-- the commands were run in order on a table of no history, and the text is their replies' lines
pub record RunsTo (old new : PlainTable) (commands : List Command) (text : List ℕ) : Type 0 where
  pub log : Log
  pub stands : IsAt new log
  pub lines : List (List ℕ)
  pub mapped : AllByRecursion IsOfMap commands
  pub replied : RepliedIn (MayReply (buckets_of old.machine) old.limit) (history log) 1 commands lines
  pub own : AllByRecursion (λ call. call.0 ≡ 1) (history log)
  pub text_is : text ≡ written lines
