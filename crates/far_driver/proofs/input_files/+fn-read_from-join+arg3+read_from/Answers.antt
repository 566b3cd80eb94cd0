use Rattle.std.proofs.Common.{rules, ◌≡◌, ◌∷◌, ℕ, List, map, sym, subst}
use Rattle.command_file.specs.Files.{IsFile, IsFileFault}
use Rattle.command_file.specs.Texts.{EndsSo}
use Rattle.far_driver.specs.declared.fault.RunFault.{RunFault}
use Rattle.far_driver.specs.Reading.{IsFaultFrom}
use Rattle.far_driver.proofs.Files.{removed, known_file, first_file, own_is_first, first_fault, later_fault}
use Rattle.far_driver.proofs.input_files.+fn-read_from-join+arg3+read_from.Goals as goal

pub returns-in-Err-own-clause-fault : goal.returns-in-Err-own-clause-fault
returns-in-Err-own-clause-fault g t c =
    let files_are : c.args.files.items ≡ c.remove-first.result ∷ c.remove-first.new.self.items = removed _ _ _ (search rules) c.remove-first.ensures.value c.remove-first.ensures.items in
    let says : (all : List (List ℕ)) → EndsSo all c.read_text-text.result.lines c.read_text-text.result.end → IsFileFault all c.in-Err-own.fault = search rules in
    subst (λ (f : RunFault). IsFaultFrom c.args.number (map (λ f. g.B.Read.remaining f) c.args.files.items) f) (sym {A = RunFault} c.of_file-in-Err-own.ensures)
    (first_fault (λ f. g.B.Read.remaining f) c.args.files.items c.remove-first.new.self.items c.remove-first.result c.args.number c.read_text-text.result.lines c.read_text-text.result.end c.in-Err-own.fault files_are c.read_text-text.ensures says)

pub returns-in-Err-others-clause-fault : goal.returns-in-Err-others-clause-fault
returns-in-Err-others-clause-fault g t c =
    let files_are : c.args.files.items ≡ c.remove-first.result ∷ c.remove-first.new.self.items = removed _ _ _ (search rules) c.remove-first.ensures.value c.remove-first.ensures.items in
    let says : (all : List (List ℕ)) → EndsSo all c.read_text-text.result.lines c.read_text-text.result.end → IsFile all c.in-Ok-own.script = search rules in
    let one = known_file (g.B.Read.remaining c.remove-first.result) c.read_text-text.result.lines c.read_text-text.result.end c.in-Ok-own.script c.read_text-text.ensures says in
    later_fault (λ f. g.B.Read.remaining f) c.args.files.items c.remove-first.new.self.items c.remove-first.result c.args.number c.in-Ok-own.script c.in-Err-others.fault files_are one (search rules)

pub returns-in-Ok-insert-clause-said : goal.returns-in-Ok-insert-clause-said
returns-in-Ok-insert-clause-said g t c =
    let files_are : c.args.files.items ≡ c.remove-first.result ∷ c.remove-first.new.self.items = removed _ _ _ (search rules) c.remove-first.ensures.value c.remove-first.ensures.items in
    let says : (all : List (List ℕ)) → EndsSo all c.read_text-text.result.lines c.read_text-text.result.end → IsFile all c.in-Ok-own.script = search rules in
    let one = known_file (g.B.Read.remaining c.remove-first.result) c.read_text-text.result.lines c.read_text-text.result.end c.in-Ok-own.script c.read_text-text.ensures says in
    first_file (λ f. g.B.Read.remaining f) c.args.files.items c.remove-first.new.self.items c.remove-first.result c.insert.new.self.items c.in-Ok-others.all.items c.in-Ok-own.script files_are (search rules) one (search rules)

pub returns-in-Err-clause-fault : goal.returns-in-Err-clause-fault
returns-in-Err-clause-fault g t c =
    let files_are : c.args.files.items ≡ c.remove-first.result ∷ c.remove-first.new.self.items = removed _ _ _ (search rules) c.remove-first.ensures.value c.remove-first.ensures.items in
    subst (λ (f : RunFault). IsFaultFrom c.args.number (map (λ f. g.B.Read.remaining f) c.args.files.items) f) (sym {A = RunFault} c.of_file.ensures)
    (own_is_first (λ f. g.B.Read.remaining f) c.args.files.items c.remove-first.new.self.items c.remove-first.result c.args.number c.in-Err.fault files_are c.in-Err.ensures.fault)
