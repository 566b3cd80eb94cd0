use Rattle.std.proofs.Common.{◌≡◌, ℕ, List, Option, Ok, ap, ◌∙◌, refl}
use Rattle.command_file.specs.declared.command.Command.TheVariants.{Map}
use Rattle.run_lines.specs.Replies.{refusal_text}
use Rattle.threaded_run.specs.Replies.{shown, held_behind, RunsOn}
use Rattle.threaded_run.proofs.Adding.{line_so}
use Rattle.threaded_run.proofs.Trying.{runs_done, runs_refused, unheld}
use Rattle.threaded_run.proofs.command.run_map.Goals as goal

pub returns-in-Ok-clause-line : goal.returns-in-Ok-clause-line
returns-in-Ok-clause-line g c =
    let l = g.S.Calls.limits in
    let old = g.S.Calls.shown c.args.me.now in
    let new = g.S.Calls.shown c.call.new.me in
    let held = shown g.S.Calls.held c.args.held.now in
    line_so c.push_line.result c.args.lines.now.items c.push_line.new.lines.items c.reply_text.result.now (λ (line : List ℕ). RunsOn l old.limit old.pass new.pass held held (Map c.args.command.now) line)
    (runs_done l old.limit old.pass new.pass held held c.args.command.now c.in-Ok.answer c.reply_text.result.now c.reply_text.ensures (unheld c.args.command.now c.in-Ok.answer held c.in_default.not-Hold) c.in-Ok.ensures.answers)
    c.push_line.ensures

pub returns-in-Err-clause-line : goal.returns-in-Err-clause-line
returns-in-Err-clause-line g c =
    let l = g.S.Calls.limits in
    let old = g.S.Calls.shown c.args.me.now in
    let new = g.S.Calls.shown c.call.new.me in
    let held = shown g.S.Calls.held c.args.held.now in
    line_so c.push_line-in-Err.result c.args.lines.now.items c.push_line-in-Err.new.lines.items c.text.result.now (λ (line : List ℕ). RunsOn l old.limit old.pass new.pass held held (Map c.args.command.now) line)
    (runs_refused l old.limit old.pass new.pass held c.args.command.now c.in-Err.refusal c.text.result.now (c.text.ensures ∙ ap refusal_text c.said.ensures) c.in-Err.ensures.answers) c.push_line-in-Err.ensures
