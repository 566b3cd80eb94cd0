use Rattle.std.proofs.Common.{rules}
use Rattle.far_driver.proofs.Running.{ran_words, answers_files}
use Rattle.farrun.proofs.Leaving.{with_lanes, unopened, left_run}
use Rattle.farrun.proofs.far_run.run_over.Goals as goal

pub returns-in-Err-clause-before : goal.returns-in-Err-clause-before
returns-in-Err-clause-before g c = unopened _ _ _ c.in-Err.fault c.in-Err.ensures.fault (search rules)

pub returns-in-Ok-run_files-clause-ran : goal.returns-in-Ok-run_files-clause-ran
returns-in-Ok-run_files-clause-ran g c = λ honest. ran_words _ c.in-Ok.sources.items _ _ _ _ _ (with_lanes _ c.args.arguments.config _ _ c.requires.asked) (search rules) c.in-Ok-run_files.ensures.opened (c.in-Ok-run_files.ensures.ran honest)

pub returns-in-Ok-run_files-clause-files : goal.returns-in-Ok-run_files-clause-files
returns-in-Ok-run_files-clause-files g c = λ honest. answers_files _ c.in-Ok.sources.items _ _ _ _ _ (with_lanes _ c.args.arguments.config _ _ c.requires.asked) c.in-Ok.ensures.unread c.in-Ok-run_files.ensures.opened (c.in-Ok-run_files.ensures.ran honest)

pub returns-in-Ok-run_files-clause-opened : goal.returns-in-Ok-run_files-clause-opened
returns-in-Ok-run_files-clause-opened g c = (_, _, with_lanes _ c.args.arguments.config _ _ c.requires.asked, c.in-Ok-run_files.ensures.opened)

pub returns-in-Err-run_files-clause-before : goal.returns-in-Err-run_files-clause-before
returns-in-Err-run_files-clause-before g c = left_run _ c.in-Ok.sources.items _ c.args.arguments.config _ _ _ c.in-Err-run_files.fault c.requires.asked (search rules) c.in-Err-run_files.ensures.before
