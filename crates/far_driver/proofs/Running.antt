-- A run of the files that the program's words name.
use Rattle.std.proofs.Common.{◌≡◌, ℕ, List, Option, Result, Ok, Err, IfErr, length, map, subst, sym, ◌∙◌}
use Rattle.std.specs.Result.{IsErrAnd}
use Rattle.std.proofs.lemmas.List.{length-map}
use Rattle.hash_table.specs.declared.config.Config.{Config}
use Rattle.hash_table.specs.Openings.{WasOpened}
use Rattle.far_driver.specs.Arguments.{AskFor}
use Rattle.far_driver.specs.declared.fault.RunFault.{RunFault}
use Rattle.far_driver.specs.declared.fault.RunFault.TheVariants as fault
use Rattle.far_driver.specs.declared.status.ProgramFault.{ProgramFault}
use Rattle.far_driver.specs.declared.status.ProgramFault.TheVariants as program
use Rattle.far_driver.specs.Statuses.{EndedWith, ended_with}
use Rattle.far_driver.specs.Runs.{AnswersFiles, RanOn, RanWords, WritesBefore, LeavesOutput}
use Rattle.far_driver.specs.Sources.{unread}
use Rattle.far_driver.proofs.Files.{given_count}

pub ran_words : {B : Type 0} (known : B → Option (List ℕ)) (readers : List B) (words : List (List ℕ)) (config : Config) (count : ℕ) (old new : Option (List ℕ))
    → AskFor words config count → length readers ≡ count → WasOpened config → RanOn config.buckets config.limit (map known readers) old new → RanWords words old new
ran_words known readers words config count old new asked readers_are opened ran = record {
  config = config;
  files = ran.files;
  asked = subst (λ (n : ℕ). AskFor words config n) (sym (given_count known readers ran.files ran.files_are ∙ readers_are)) asked;
  opened = opened;
  text = ran.text;
  ran = ran.ran;
  appends = ran.appends;
}

-- the readers were those of the files with the numbers from 1 on
pub answers_files : {B : Type 0} (known : B → Option (List ℕ)) (readers : List B) (words : List (List ℕ)) (config : Config) (count : ℕ) (old new : Option (List ℕ))
    → AskFor words config count → map known readers ≡ unread count → WasOpened config → RanOn config.buckets config.limit (map known readers) old new → AnswersFiles words old new
answers_files known readers words config count old new asked are opened ran = record {
  config = config;
  count = count;
  asked = asked;
  opened = opened;
  ran = subst (λ all. RanOn config.buckets config.limit all old new) are ran;
}

pub left : (words : List (List ℕ)) (config : Config) (readers : List (Option (List ℕ))) (old new : Option (List ℕ)) (f : RunFault) → AskFor words config (length readers) → WritesBefore readers old new f → LeavesOutput words old new (program.Run f)
left words config readers old new (fault.BadConfig n) asked h = h
left words config readers old new (fault.BadLine file line) asked h = h
left words config readers old new (fault.TooManyLines file) asked h = h
left words config readers old new (fault.Read file) asked h = h
left words config readers old new fault.Memory asked h = h
left words config readers old new fault.Device asked h = h
left words config readers old new fault.Passes asked h = h
left words config readers old new fault.Gate asked h = h
left words config readers old new fault.Write asked h = tt
left words config readers old new (fault.Contents r) asked h = (config, readers, asked, h)

-- the fault of the run is the program's
pub left_words : {B T : Type 0} (known : B → Option (List ℕ)) (readers : List B) (words : List (List ℕ)) (config : Config) (count : ℕ) (old new : Option (List ℕ)) (f : RunFault) (result : Result T ProgramFault)
    → AskFor words config count → length readers ≡ count → WritesBefore (map known readers) old new f → IsErrAnd result (λ e. e ≡ program.Run f) → IfErr result (LeavesOutput words old new)
left_words known readers words config count old new f (Ok done) asked readers_are h is = tt
left_words known readers words config count old new f (Err e) asked readers_are h is =
    let ask : AskFor words config (length (map known readers)) = subst (λ (n : ℕ). AskFor words config n) (sym (length-map readers known ∙ readers_are)) asked in
    subst (λ (x : ProgramFault). LeavesOutput words old new x) (sym is) (left words config (map known readers) old new f ask h)

-- for the proof of `run_words` alone
pub told : {T : Type 0} (result : Result T ProgramFault) → IfErr result EndedWith
told (Ok done) = tt
told (Err e) = ended_with e
