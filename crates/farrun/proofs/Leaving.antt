-- What the words ask for, with other lanes, and what the output has after a fault.
use Rattle.std.proofs.Common.{◌≡◌, ℕ, List, [], ◌∷◌, Option, subst, sym, length, map, ◌∙◌}
use Rattle.std.specs.Io.KnownBytes.{Keeps}
use Rattle.std.proofs.lemmas.List.{length-map}
use Rattle.hash_table.specs.declared.config.Config.{Config}
use Rattle.far_driver.specs.Arguments.{AskFor}
use Rattle.far_driver.specs.Sources.{IsSourceFault}
use Rattle.far_driver.specs.declared.fault.RunFault.{RunFault}
use Rattle.far_driver.specs.declared.status.ProgramFault.{ProgramFault}
use Rattle.far_driver.specs.declared.status.ProgramFault.TheVariants as program
use Rattle.far_driver.specs.Runs.{LeavesOutput, WritesBefore}
use Rattle.far_driver.proofs.Running.{left}

-- words say nothing of the lanes
pub with_lanes : (words : List (List ℕ)) (c : Config) (lanes count : ℕ) → AskFor words c count → AskFor words (record c { lanes = lanes }) count
with_lanes [] c lanes count asked = asked
with_lanes (a ∷ []) c lanes count asked = asked
with_lanes (a ∷ b ∷ []) c lanes count asked = asked
with_lanes (a ∷ b ∷ d ∷ files) c lanes count asked = asked

-- where a file was not opened nothing was written
pub unopened : (words names : List (List ℕ)) (old : Option (List ℕ)) (f : ProgramFault) → IsSourceFault names f → Keeps old old → LeavesOutput words old old f
unopened words names old program.Usage h keeps = absurd h
unopened words names old (program.CannotOpen number) h keeps = keeps
unopened words names old (program.Run f) h keeps = subst (λ (x : RunFault). LeavesOutput words old old (program.Run x)) (sym h) keeps

-- the fault of the run
pub left_run : {B : Type 0} (known : B → Option (List ℕ)) (readers : List B) (words : List (List ℕ)) (config : Config) (count : ℕ) (old new : Option (List ℕ)) (f : RunFault)
    → AskFor words config count → length readers ≡ count → WritesBefore (map known readers) old new f → LeavesOutput words old new (program.Run f)
left_run known readers words config count old new f asked readers_are h =
    let ask : AskFor words config (length (map known readers)) = subst (λ (n : ℕ). AskFor words config n) (sym (length-map readers known ∙ readers_are)) asked in
    left words config (map known readers) old new f ask h
