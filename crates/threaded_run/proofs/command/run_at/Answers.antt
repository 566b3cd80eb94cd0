use Rattle.std.proofs.Common.{◌≡◌, ℕ, zero, suc, ◌<◌, List, [], ◌∷◌, length, get_or, refl, arith}
use Rattle.command_file.specs.declared.command.Command.{Command}
use Rattle.threaded_run.specs.Replies.{shown, RunsOn}
use Rattle.threaded_run.proofs.Adding.{line_so, of_command}
use Rattle.threaded_run.proofs.Trying.{unmade}
use Rattle.threaded_run.proofs.command.run_at.Goals as goal

-- there is a command at a place within the list
one_at : (cs : List Command) (i : ℕ) → i < length cs → (c : Command) × (c ≡ get_or cs i c)
one_at [] i within = absurd (omega arith)
one_at (c ∷ cs) zero within = (c, refl)
one_at (c ∷ cs) (suc i) within = one_at cs i (omega arith)

pub returns-in-Err-clause-line : goal.returns-in-Err-clause-line
returns-in-Err-clause-line g c =
    let l = g.S.Calls.limits in
    let old = g.S.Calls.shown c.args.me.now in
    let new = g.S.Calls.shown c.settle.new.self in
    let held = shown g.S.Calls.held c.args.held.now in
    let one = one_at c.args.script.now c.args.at c.requires in
    of_command c.push_line.result c.args.lines.now.items c.push_line.new.lines.items (λ d. d ≡ get_or c.args.script.now c.args.at d) (λ d line. RunsOn l old.limit old.pass new.pass held held d line) one.0 one.1
    (line_so c.push_line.result c.args.lines.now.items c.push_line.new.lines.items c.text.result.now (λ (line : List ℕ). RunsOn l old.limit old.pass new.pass held held one.0 line)
    (unmade l old.limit old.pass new.pass held one.0 c.text.result.now c.text.ensures c.settle.ensures.goes) c.push_line.ensures)
