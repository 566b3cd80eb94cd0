use Rattle.std.proofs.Common.{Ok, rules, map, arith}
use Rattle.far_map.specs.declared.fault.MapFault.{MapFault}
use Rattle.far_map.proofs.Generating.{term_after}
use Rattle.far_map.proofs.workers.+fn-terms-join+arg3+terms.Goals as goal

pub returns-clause-worked : goal.returns-clause-worked
returns-clause-worked g t c =
    term_after (λ worker begun ended before after. g.W.RenewableWork.done c.args.work.now worker g.J.Naming.limits begun ended before after) c.args.far.now.table.limit c.args.mark.now
    {F = MapFault} (Ok c.in_ok-with_last-2.field-0) (λ r. map (λ c. c.pass) r.0.items) (λ r. r.1.items) (λ r. map (λ c. c.pass) r.0.items) (λ r. r.1.items)
    c.join-own.result.1 c.in_ok-others.others c.join-own.result.0 c.in_ok-own.own (λ r. r.0.pass) (λ r. r.1) c.pop-2.new.self.items c.args.states.items c.len.result c.in-Some-pop.state
    c.in_ok-others.was (search rules) c.in_ok-own.was (search rules) (search (rules, arith)) (search rules) c.in_ok-with_last-2.ensures.callers c.in_ok-with_last-2.ensures.outs
