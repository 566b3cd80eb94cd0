use Rattle.std.proofs.Common.{ℕ, ◌∙◌, refl, subst, arith}
use Rattle.threaded_run.specs.Replies.{shown, RunsOn}
use Rattle.threaded_run.proofs.Working.{start, next_on}
use Rattle.threaded_run.proofs.worker.work.Goals as goal

pub loop-at-init : goal.loop-at-init
loop-at-init g c =
    let first = g.S.Calls.shown c.args.me.now in
    (start g.S.Calls.limits first.limit first.pass (shown g.S.Calls.held c.args.held.now) c.args.script.now c.new-lines.result.items c.new-lines.ensures.items c.requires.new c.requires.unheld, refl)

pub loop-at-preserved : goal.loop-at-preserved
loop-at-preserved g c =
    let l = g.S.Calls.limits in
    let first = g.S.Calls.shown c.args.me.now in
    let now = g.S.Calls.shown c.loop-at.me in
    let new = g.S.Calls.shown c.run_at.new.me in
    let held = shown g.S.Calls.held c.loop-at.held in
    let later = shown g.S.Calls.held c.run_at.new.held in
    let e = c.in_ok-run_at.ensures.line in (
      next_on l first.limit first.pass now.pass new.pass held later c.args.script.now c.loop-at.at c.loop-at.lines.items c.run_at.new.lines.items e.0 e.1 c.loop-at.invariant.0
          (omega (arith, c.loop-at-test.true, c.len-at-end.ensures.count)) e.2 (subst (λ (n : ℕ). RunsOn l n now.pass new.pass held later e.0 e.1) c.loop-at.invariant.1 e.4) e.3,
      c.in_ok-run_at.ensures.limit ∙ c.loop-at.invariant.1,
    )
