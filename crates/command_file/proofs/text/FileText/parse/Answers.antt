use Rattle.std.proofs.Common.{sym, subst}
use Rattle.command_file.specs.Lines.{lines_of}
use Rattle.command_file.specs.Texts.{TextView, EndsSo}
use Rattle.command_file.proofs.Texts.{fault_of_more, fault_at_end}
use Rattle.command_file.proofs.text.FileText.parse.Goals as goal

pub returns-in-Err-clause-fault : goal.returns-in-Err-clause-fault
returns-in-Err-clause-fault c = λ all h.
    fault_of_more all (lines_of c.self.inside.text.items) c.self.inside.end c.in-Err.fault (subst (λ (v : TextView). EndsSo all v.lines v.end) (sym c.self.view_is) h) c.in-Err.ensures.fault

pub returns-in-Err-end-clause-fault : goal.returns-in-Err-end-clause-fault
returns-in-Err-end-clause-fault c = λ all h.
    fault_at_end all (lines_of c.self.inside.text.items) c.in-Ok.script c.in-Err-end.fault
    (subst (λ end. EndsSo all (lines_of c.self.inside.text.items) end) c.in-Err-end.is (subst (λ (v : TextView). EndsSo all v.lines v.end) (sym c.self.view_is) h))
    c.in-Ok.ensures.said
