use Rattle.std.proofs.Common.{sym, subst}
use Rattle.command_file.specs.Lines.{lines_of}
use Rattle.command_file.specs.Texts.{TextView, EndsSo}
use Rattle.command_file.proofs.Texts.{fault_of_more, fault_at_end}
use Rattle.command_file.proofs.text.FileText.parse_on_threads.Goals as goal

pub returns-in-Ok-Err-clause-fault : goal.returns-in-Ok-Err-clause-fault
returns-in-Ok-Err-clause-fault g c = λ all h.
    fault_at_end all (lines_of c.self.inside.text.items) c.in-Ok-Err.field-0-0 c.in-Ok-Err.fault
    (subst (λ end. EndsSo all (lines_of c.self.inside.text.items) end) c.in-Ok-Err.is-1 (subst (λ (v : TextView). EndsSo all v.lines v.end) (sym c.self.view_is) h))
    c.in-Ok-Err.ensures.said

pub returns-in-Err-default-clause-fault : goal.returns-in-Err-default-clause-fault
returns-in-Err-default-clause-fault g c = λ all h.
    fault_of_more all (lines_of c.self.inside.text.items) c.self.inside.end c.in-Err-default.fault (subst (λ (v : TextView). EndsSo all v.lines v.end) (sym c.self.view_is) h) c.in-Err-default.ensures.fault
