use Rattle.far_map.proofs.Generating.{term_of}
use Rattle.far_map.proofs.workers.one.Goals as goal

pub returns-clause-term : goal.returns-clause-term
returns-clause-term g c =
    term_of (λ begun ended before after. g.W.RenewableWork.done c.args.work.now c.args.worker g.J.Naming.limits begun ended before after) c.args.far.now.table.limit c.args.mark.now
    c.begin_behind-me.result c.term-kept.new.me c.leave-caller.result.pass c.args.state c.term-kept.result c.number-number.result c.number_of.result
    c.begin_behind-me.ensures.new c.begin_behind-me.ensures.stats c.begin_behind-me.ensures.limit c.begin_behind-me.ensures.behind c.number-number.ensures c.number_of.ensures c.if-number_of-number.false c.leave-caller.ensures c.term-kept.ensures
