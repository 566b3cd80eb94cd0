use Rattle.std.proofs.Common.{◌≡◌, ℕ, List, Option, Some, None, ap, sym, ◌∙◌, subst, refl, rules}
use Rattle.std.specs.Prelude.{codes}
use Rattle.table_core.specs.declared.operation.Operation.TheVariants.{Get}
use Rattle.run_lines.specs.Replies.{refusal_text}
use Rattle.far_object.specs.Encodings.{enc_text}
use Rattle.far_map.specs.Answers.{IsDone}
use Rattle.command_file.specs.declared.command.Command.TheVariants.{Map}
use Rattle.command_file.specs.declared.command.MapCommand.TheVariants.{Hold}
use Rattle.threaded_run.specs.Replies.{shown, RunsOn}
use Rattle.threaded_run.proofs.Adding.{line_so}
use Rattle.threaded_run.proofs.Trying.{held_already, none_held, none_answered, some_answered, runs_done, runs_refused}
use Rattle.threaded_run.proofs.command.hold.Goals as goal

pub returns-then-is_some-clause-line : goal.returns-then-is_some-clause-line
returns-then-is_some-clause-line g c =
    let l = g.S.Calls.limits in
    let old = g.S.Calls.shown c.args.me.now in
    let new = g.S.Calls.shown c.settle.new.self in
    let held = shown g.S.Calls.held c.args.held.now in
    line_so c.push_line.result c.args.lines.now.items c.push_line.new.lines.items c.text.result.now (λ (line : List ℕ). RunsOn l old.limit old.pass new.pass held held (Map (Hold c.args.key.now)) line)
    (held_already l old.limit old.pass new.pass held c.args.key.now c.text.result.now c.text.ensures c.settle.ensures.goes) c.push_line.ensures

pub returns-in-Ok-None-clause-line : goal.returns-in-Ok-None-clause-line
returns-in-Ok-None-clause-line g c =
    let l = g.S.Calls.limits in
    let old = g.S.Calls.shown c.args.me.now in
    let new = g.S.Calls.shown c.hold.new.self in
    let held = shown g.S.Calls.held c.args.held.now in
    line_so c.push_line-in-Ok-None.result c.args.lines.now.items c.push_line-in-Ok-None.new.lines.items (codes "none") (λ (line : List ℕ). RunsOn l old.limit old.pass new.pass held held (Map (Hold c.args.key.now)) line)
    (runs_done l old.limit old.pass new.pass held held (Hold c.args.key.now) None (codes "none") refl (none_held g.S.Calls.held c.args.held.now (sym c.is_some.ensures ∙ c.if-is_some.false))
    (none_answered g.S.Calls.held l old.limit old.pass new.pass (Get c.args.key.now) c.in-Ok-None.field-0 (search rules) c.in-Ok-None.ensures.answers))
    c.push_line-in-Ok-None.ensures

pub returns-in_default-clause-line : goal.returns-in_default-clause-line
returns-in_default-clause-line g c =
    let l = g.S.Calls.limits in
    let old = g.S.Calls.shown c.args.me.now in
    let new = g.S.Calls.shown c.hold.new.self in
    let later = shown g.S.Calls.held c.replace.new.self in
    let bytes : g.S.Calls.held c.in-Ok-Some.value ≡ Some c.bytes_of.result.now = c.bytes_of.ensures.1 ∙ ap Some (sym c.bytes_of.ensures.2) in
    let same : later ≡ g.S.Calls.held c.in-Ok-Some.value = ap (λ x. shown g.S.Calls.held x) c.replace.ensures.after in
    line_so c.push_line-pushed.result c.args.lines.now.items c.push_line-pushed.new.lines.items c.bytes_of.result.now (λ (line : List ℕ). RunsOn l old.limit old.pass new.pass (shown g.S.Calls.held c.args.held.now) later (Map (Hold c.args.key.now)) line)
    (runs_done l old.limit old.pass new.pass (shown g.S.Calls.held c.args.held.now) later (Hold c.args.key.now) (Some c.bytes_of.result.now) c.bytes_of.result.now refl (same ∙ bytes)
    (subst (λ (x : Option (List ℕ)). IsDone enc_text l old.limit old.pass new.pass (Get c.args.key.now) x) bytes
    (some_answered g.S.Calls.held l old.limit old.pass new.pass (Get c.args.key.now) c.in-Ok-Some.field-0 c.in-Ok-Some.value (search rules) c.in-Ok-Some.ensures.answers))) c.push_line-pushed.ensures

pub returns-in-Err-clause-line : goal.returns-in-Err-clause-line
returns-in-Err-clause-line g c =
    let l = g.S.Calls.limits in
    let old = g.S.Calls.shown c.args.me.now in
    let new = g.S.Calls.shown c.hold.new.self in
    let held = shown g.S.Calls.held c.args.held.now in
    line_so c.push_line-in-Err.result c.args.lines.now.items c.push_line-in-Err.new.lines.items c.text-in-Err.result.now (λ (line : List ℕ). RunsOn l old.limit old.pass new.pass held held (Map (Hold c.args.key.now)) line)
    (runs_refused l old.limit old.pass new.pass held (Hold c.args.key.now) c.in-Err.refusal c.text-in-Err.result.now (c.text-in-Err.ensures ∙ ap refusal_text c.said.ensures) c.in-Err.ensures.answers) c.push_line-in-Err.ensures
