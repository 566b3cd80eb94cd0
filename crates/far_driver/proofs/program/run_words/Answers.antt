use Rattle.std.proofs.Common.{rules, refl}
use Rattle.far_driver.specs.Statuses.{ended_with}
use Rattle.far_driver.proofs.Running.{ran_words, answers_files, left_words, told}
use Rattle.far_driver.proofs.program.run_words.Goals as goal

pub returns-clause-ran : goal.returns-clause-ran
returns-clause-ran g c = ran_words _ c.in_ok-sources.sources.items _ c.in-Some.arguments.config _ _ _ c.in-Some.ensures.asked (search rules) c.in_ok-run_files.ensures.opened (c.in_ok-run_files.ensures.ran refl)

pub returns-clause-files : goal.returns-clause-files
returns-clause-files g c = answers_files _ c.in_ok-sources.sources.items _ c.in-Some.arguments.config _ _ _ c.in-Some.ensures.asked c.in_ok-sources.ensures.unread c.in_ok-run_files.ensures.opened (c.in_ok-run_files.ensures.ran refl)

pub returns-in_err-run_files-clause-before : goal.returns-in_err-run_files-clause-before
returns-in_err-run_files-clause-before g c =
    left_words _ c.in_ok-sources.sources.items _ c.in-Some.arguments.config _ _ _ c.in_err-run_files.field-0.0 c.from_residual-in_err-run_files.result c.in-Some.ensures.asked (search rules) c.in_err-run_files.ensures.before c.from_residual-in_err-run_files.ensures.1

pub returns-in_default-clause-told : goal.returns-in_default-clause-told
returns-in_default-clause-told g c = ended_with _

pub returns-in_err-sources-clause-told : goal.returns-in_err-sources-clause-told
returns-in_err-sources-clause-told g c = told c.from_residual.result

pub returns-in_err-devices-clause-told : goal.returns-in_err-devices-clause-told
returns-in_err-devices-clause-told g c = told c.from_residual-in_err-devices.result

pub returns-in_err-run_files-clause-told : goal.returns-in_err-run_files-clause-told
returns-in_err-run_files-clause-told g c = told c.from_residual-in_err-run_files.result
