use Rattle.std.proofs.Common.{ℕ, sym, subst}
use Rattle.far_map.specs.Loads.{Loads}
use Rattle.far_map.proofs.Working.{entering_fault}
use Rattle.far_map.proofs.Generating.{last_turn, next_turn}
use Rattle.far_map.proofs.renewal.over_queue.Goals as goal

pub returns-in-Ok-end-clause-ran : goal.returns-in-Ok-end-clause-ran
returns-in-Ok-end-clause-ran g c =
    last_turn g.V.FarObject.enc (g.W.RenewableWork.done c.args.work.now) g.J.Naming.limits c.args.table.limit g.D.Device.HONEST c.in-Ok.opened.0.table.limit c.args.rest.now c.load-loader.new.rest c.lost-lost.result c.args.states.items
    c.in-Ok-serve_terms.ended.1.items c.in-Ok-serve_terms.ended.0.items c.in-Ok-with_own.all.items c.load-loader.result.0 c.mark-mark.result c.in-Ok-end._mark
    c.in-Ok.ensures.limit c.requires.honest c.mark-mark.ensures.front c.in-Ok-serve_terms.ensures.worked c.in-Ok-with_own.ensures.all c.in-Ok-end.ensures.front
    (subst (λ (n : ℕ). Loads g.D.Device.HONEST c.args.rest.now c.load-loader.result.0.pass n) (sym c.lost-lost.ensures) c.load-loader.ensures.loads)

pub returns-in-Ok-drain-clause-ran : goal.returns-in-Ok-drain-clause-ran
returns-in-Ok-drain-clause-ran g c =
    next_turn g.V.FarObject.enc (g.W.RenewableWork.done c.args.work.now) g.J.Naming.limits c.args.table.limit g.D.Device.HONEST c.in-Ok.opened.0.table.limit c.args.rest.now c.load-loader.new.rest c.drain.new.rest c.lost-lost.result c.args.states.items
    c.in-Ok-serve_terms.ended.1.items c.in-Ok-serve_terms.ended.0.items c.in-Ok-with_own.all.items c.load-loader.result.0 c.mark-mark.result c.in-Ok-drain.left
    c.in-Ok.ensures.limit c.requires.honest c.mark-mark.ensures.front c.in-Ok-serve_terms.ensures.worked c.in-Ok-with_own.ensures.all c.load-loader.ensures.empty c.in-Ok-drain.ensures.drained
    (subst (λ (n : ℕ). Loads g.D.Device.HONEST c.args.rest.now c.load-loader.result.0.pass n) (sym c.lost-lost.ensures) c.load-loader.ensures.loads)

pub returns-in-Err-clause-fault : goal.returns-in-Err-clause-fault
returns-in-Err-clause-fault g c = entering_fault g.J.Naming.limits.honest c.in-Err.fault c.in-Err.ensures.fault

pub returns-in-Err-serve_terms-clause-fault : goal.returns-in-Err-serve_terms-clause-fault
returns-in-Err-serve_terms-clause-fault g c = entering_fault g.J.Naming.limits.honest c.in-Err-serve_terms.fault c.in-Err-serve_terms.ensures.fault
