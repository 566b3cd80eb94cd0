-- The workers of a run, and its faults.
use Rattle.std.specs.Prelude.{◌≡◌, ℕ, IsTrue, List, [], ◌∷◌, length, map, Option, Result, Ok, Err, ⊤}
use Rattle.std.specs.Global.{Vec}
use Rattle.std.specs.List.{AllByRecursion}
use Rattle.std.specs.Io.KnownBytes.{Keeps, Appends}
use Rattle.table_core.specs.declared.limits.Limits.{Limits}
use Rattle.table_core.specs.Logs.{history}
use Rattle.command_file.specs.declared.command.Command.{Command}
use Rattle.run_lines.specs.Replies.{RepliedIn}
use Rattle.run_lines.specs.Output.{written, file_lines}
use Rattle.threaded_run.specs.declared.fault.ThreadedFault.{ThreadedFault}
use Rattle.threaded_run.specs.declared.fault.ThreadedFault.TheVariants as fault
use Rattle.threaded_run.specs.declared.work_fault.WorkFault.{WorkFault}
use Rattle.threaded_run.specs.Replies.{View, MayReply}

-- a worker that has ended: its pass, and the text of its lines
pub record EndedView : Type 0 where
  pub pass : View
  pub text : List ℕ

-- a file that was run: the pass that ran it, at its front, its commands and their lines
pub record Served : Type 0 where
  pub pass : View
  pub commands : List Command
  pub lines : List (List ℕ)

module _ (l : Limits) (limit : ℕ) where
  -- each command has a line, and at the pass's front they are what the commands were replied
  pub record IsServed (s : Served) : Type 0 where
    pub count : length s.lines ≡ length s.commands
    pub replied : IsTrue l.honest → RepliedIn (MayReply l.buckets limit) (history s.pass.front) s.pass.number s.commands s.lines

  -- the same pass has run the commands, and the text is their lines
  pub record EndedIs (old : View) (commands : List Command) (e : EndedView) : Type 0 where
    pub number : e.pass.number ≡ old.number
    pub lines : List (List ℕ)
    pub text_is : e.text ≡ written lines
    pub served : IsServed (record { pass = e.pass; commands = commands; lines = lines })

  -- the files were run by these passes, which are at their fronts, and these are the texts of the lines
  pub record WorkedAll (files : List (List Command)) (passes : List View) (texts : List (List ℕ)) : Type 0 where
    pub all : List Served
    pub files_are : map (λ s. s.commands) all ≡ files
    pub passes_are : map (λ s. s.pass) all ≡ passes
    pub texts_are : map (λ s. written s.lines) all ≡ texts
    pub served : AllByRecursion IsServed all

-- all workers gave lines, and these are they
abbrev pub AreGiven : {E : Type 0} → List (Result (Vec ℕ) E) → List (List ℕ) → Type 0
AreGiven [] texts = texts ≡ []
AreGiven (Ok lines ∷ outs) texts = (more : List (List ℕ)) × (texts ≡ lines.items ∷ more) × AreGiven outs more
AreGiven (Err e ∷ outs) texts = ⊥

-- no worker has a fault
abbrev pub HaveLines : {E : Type 0} → List (Result (Vec ℕ) E) → Type 0
HaveLines [] = ⊤
HaveLines (Ok lines ∷ outs) = HaveLines outs
HaveLines (Err e ∷ outs) = ⊥

-- the fault of the first worker that has one
abbrev pub IsFirstFault : List (Result (Vec ℕ) WorkFault) → WorkFault → Type 0
IsFirstFault [] fault = ⊥
IsFirstFault (Ok lines ∷ outs) fault = IsFirstFault outs fault
IsFirstFault (Err e ∷ outs) fault = fault ≡ e

-- the text is the lines of the files, a line for each command
pub record AreLines (files : List (List Command)) (text : List ℕ) : Type 0 where
  pub lines : List (List (List ℕ))
  pub count : map (λ l. length l) lines ≡ map (λ c. length c) files
  pub is : text ≡ written (file_lines 1 lines)

module _ (files : List (List Command)) where
  -- after a fault the writer has all lines before the contents where these can't be read, and what it had where nothing was written yet
  abbrev pub WritesBefore : Option (List ℕ) → Option (List ℕ) → ThreadedFault → Type 0
  WritesBefore old new fault.Write = ⊤
  WritesBefore old new (fault.Contents r) = (text : List ℕ) × AreLines files text × Appends old new text
  WritesBefore old new _ = Keeps old new

-- the fault comes before anything is written
abbrev pub IsEarly : ThreadedFault → Type 0
IsEarly fault.Write = ⊥
IsEarly (fault.Contents r) = ⊥
IsEarly _ = ⊤

-- the fault comes when the text was to be written: after a failed write nothing is said, where the contents can't be read the text was written, and where a pass is missing nothing was
abbrev pub EndsAt : Option (List ℕ) → Option (List ℕ) → List ℕ → ThreadedFault → Type 0
EndsAt old new text fault.Write = ⊤
EndsAt old new text fault.Passes = Keeps old new
EndsAt old new text (fault.Contents r) = Appends old new text
EndsAt old new text _ = ⊥
