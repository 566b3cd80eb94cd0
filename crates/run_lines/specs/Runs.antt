-- A run of several files, each by a pass of its own.
use Rattle.std.specs.Prelude.{◌≡◌, ◌≢◌, ℕ, List, [], ◌∷◌, map, Option, Result, ⊤}
use Rattle.std.specs.List.{AllByRecursion}
use Rattle.far_object.specs.Encodings.{enc_text}
use Rattle.table_core.specs.Maps.{map_of}
use Rattle.command_file.specs.declared.command.Command.{Command}
use Rattle.command_file.specs.declared.command.MapCommand.{MapCommand}
use Rattle.run_lines.specs.declared.refusal.LineRefusal.{LineRefusal}
use Rattle.run_lines.specs.Calls.{Call, calls_by}
use Rattle.run_lines.specs.Replies.{RepliedIn}
use Rattle.run_lines.specs.Output.{output}

-- a file that was run: the number of its pass, its commands, and their lines
pub record Worked : Type 0 where
  pub pass : ℕ
  pub commands : List Command
  pub lines : List (List ℕ)

-- no two of the numbers are the same
abbrev pub AreApart : List ℕ → Type 0
AreApart [] = ⊤
AreApart (p ∷ passes) = AllByRecursion (λ q. p ≢ q) passes × AreApart passes

-- the text is what one history replies to the files, each by a pass of its own, and the contents behind them; the history has no other call
pub record Ran (MayReply : List Call → MapCommand → Result (Option (List ℕ)) LineRefusal → Type 0) (files : List (List Command)) (text : List ℕ) : Type 0 where
  pub calls : List Call
  pub all : List Worked
  pub files_are : map (λ w. w.commands) all ≡ files
  pub apart : AreApart (map (λ w. w.pass) all)
  pub replied : AllByRecursion (λ w. RepliedIn MayReply calls w.pass w.commands w.lines) all
  pub others : (p : ℕ) → AllByRecursion (λ w. w.pass ≢ p) all → calls_by p calls ≡ []
  pub text_is : text ≡ output (map (λ w. w.lines) all) (map_of enc_text enc_text calls)
