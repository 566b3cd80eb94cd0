use Rattle.std.proofs.Common.{map, arith}
use Rattle.std.specs.Prelude.{vec_len}
use Rattle.far_map.proofs.Serving.{all_kept, worked}
use Rattle.far_map.proofs.single_term.serve.Goals as goal

pub outs_of-requires : goal.outs_of-requires
outs_of-requires g c = record {
  each = all_kept (λ worker begun ended out. g.W.Work.done c.args.work.now worker g.J.Naming.limits begun ended out) c.args.far.now.table.limit c.mark-mark.result 0 (map (λ c. c.pass) c.in_ok-callers.callers.items) c.in_ok-states.states.items
      c.in_ok-callers.kept.items c.in_ok-callers.ensures.worked;
}

pub returns-clause-worked : goal.returns-clause-worked
returns-clause-worked g c =
    worked (λ worker begun ended out. g.W.Work.done c.args.work.now worker g.J.Naming.limits begun ended out) c.args.far.now.table.limit c.mark-mark.result (vec_len c.args.all_pending) (map (λ c. c.pass) c.in_ok-callers.callers.items)
    c.in_ok-states.states.items c.in_ok-callers.kept.items c.in_ok-outs.outs.items (omega (arith, c.in_ok-states.states.ok, c.in_ok-states.ensures, c.len.ensures)) c.in_ok-outs.ensures c.in_ok-callers.ensures.worked
