use Rattle.std.proofs.Common.{map, Ok, Err}
use Rattle.far_pairs.specs.Bundles.{all_of}
use Rattle.far_map.specs.declared.run_end.End.TheVariants as asked
use Rattle.far_map.specs.declared.run_end.Given.TheVariants as given
use Rattle.far_map.proofs.Working.{ran, ran_bundled, ran_apart, ran_through, ran_badly, same_left, as_asked}
use Rattle.far_map.proofs.map_run.over_queue.Goals as goal

pub returns-in-Ok-close-clause-ran : goal.returns-in-Ok-close-clause-ran
returns-in-Ok-close-clause-ran g c =
    as_asked g.V.FarObject.enc (g.W.Work.done c.args.work.now) g.J.Naming.limits c.args.table.limit c.args.count c.in-Ok-serve.ended.1.items g.T.TakesPairs.takes g.T.TakesPairs.stops c.args.taker.now c.args.taker.now c.args.end asked.Pairs (Ok (given.Pairs c.in-Ok-close.pairs)) c.in-Pairs.is
    (ran g.V.FarObject.enc (g.W.Work.done c.args.work.now) g.J.Naming.limits c.args.table.limit c.in-Ok.opened.0.table.limit c.args.count _ c.in-Ok-serve.ended.0.items c.in-Ok-serve.ended.1.items c.in-Ok-close.pairs.items
    c.in-Ok.ensures.limit c.in-Ok.ensures.each c.in-Ok-serve.ensures.worked c.in-Ok-close.ensures.closed)

pub returns-in-Err-close-clause-ran : goal.returns-in-Err-close-clause-ran
returns-in-Err-close-clause-ran g c =
    as_asked g.V.FarObject.enc (g.W.Work.done c.args.work.now) g.J.Naming.limits c.args.table.limit c.args.count c.in-Ok-serve.ended.1.items g.T.TakesPairs.takes g.T.TakesPairs.stops c.args.taker.now c.args.taker.now c.args.end asked.Pairs (Err c.in-Err-close.fault) c.in-Pairs.is (
      ran_badly g.V.FarObject.enc (g.W.Work.done c.args.work.now) g.J.Naming.limits c.args.table.limit c.in-Ok.opened.0.table.limit c.args.count _ (map (λ c. c.pass) c.in-Ok-serve.ended.0.items) c.in-Ok-serve.ended.1.items
          c.in-Ok.ensures.limit c.in-Ok.ensures.each c.in-Ok-serve.ensures.worked,
      c.in-Err-close.ensures.fault,
    )

pub returns-in-Ok-close_on_threads-clause-ran : goal.returns-in-Ok-close_on_threads-clause-ran
returns-in-Ok-close_on_threads-clause-ran g c =
    as_asked g.V.FarObject.enc (g.W.Work.done c.args.work.now) g.J.Naming.limits c.args.table.limit c.args.count c.in-Ok-serve.ended.1.items g.T.TakesPairs.takes g.T.TakesPairs.stops c.args.taker.now c.args.taker.now c.args.end asked.Bundles (Ok (given.Bundles c.in-Ok-close_on_threads.bundles)) c.in-Bundles.is
    (ran_bundled g.V.FarObject.enc (g.W.Work.done c.args.work.now) g.J.Naming.limits c.args.table.limit c.in-Ok.opened.0.table.limit c.args.count _ c.in-Ok-serve.ended.0.items c.in-Ok-serve.ended.1.items (all_of c.in-Ok-close_on_threads.bundles.items)
    c.in-Ok.ensures.limit c.in-Ok.ensures.each c.in-Ok-serve.ensures.worked c.in-Ok-close_on_threads.ensures.closed)

pub returns-in-Err-close_on_threads-clause-ran : goal.returns-in-Err-close_on_threads-clause-ran
returns-in-Err-close_on_threads-clause-ran g c =
    as_asked g.V.FarObject.enc (g.W.Work.done c.args.work.now) g.J.Naming.limits c.args.table.limit c.args.count c.in-Ok-serve.ended.1.items g.T.TakesPairs.takes g.T.TakesPairs.stops c.args.taker.now c.args.taker.now c.args.end asked.Bundles (Err c.in-Err-close_on_threads.fault) c.in-Bundles.is (
      ran_badly g.V.FarObject.enc (g.W.Work.done c.args.work.now) g.J.Naming.limits c.args.table.limit c.in-Ok.opened.0.table.limit c.args.count _ (map (λ c. c.pass) c.in-Ok-serve.ended.0.items) c.in-Ok-serve.ended.1.items
          c.in-Ok.ensures.limit c.in-Ok.ensures.each c.in-Ok-serve.ensures.worked,
      c.in-Err-close_on_threads.ensures.fault,
    )

pub returns-in-Nothing-clause-ran : goal.returns-in-Nothing-clause-ran
returns-in-Nothing-clause-ran g c =
    as_asked g.V.FarObject.enc (g.W.Work.done c.args.work.now) g.J.Naming.limits c.args.table.limit c.args.count c.in-Ok-serve.ended.1.items g.T.TakesPairs.takes g.T.TakesPairs.stops c.args.taker.now c.args.taker.now c.args.end asked.Nothing (Ok given.Nothing) c.in-Nothing.is
    (ran_apart g.V.FarObject.enc (g.W.Work.done c.args.work.now) g.J.Naming.limits c.args.table.limit c.in-Ok.opened.0.table.limit c.args.count _ (map (λ c. c.pass) c.in-Ok-serve.ended.0.items) c.in-Ok-serve.ended.1.items
    c.in-Ok.ensures.limit c.in-Ok.ensures.each c.in-Ok-serve.ensures.worked (same_left g.V.FarObject.enc g.J.Naming.limits c.in-Ok-serve.ended.0.items c.deref.result.now c.deref.ensures.value c.abandon.ensures))

pub returns-in-Ok-close_through-clause-ran : goal.returns-in-Ok-close_through-clause-ran
returns-in-Ok-close_through-clause-ran g c =
    as_asked g.V.FarObject.enc (g.W.Work.done c.args.work.now) g.J.Naming.limits c.args.table.limit c.args.count c.in-Ok-serve.ended.1.items g.T.TakesPairs.takes g.T.TakesPairs.stops c.args.taker.now c.close_through.new.taker c.args.end asked.Buckets
    (Ok given.Nothing) c.in-Buckets.is
    (ran_through g.V.FarObject.enc (g.W.Work.done c.args.work.now) g.J.Naming.limits g.T.TakesPairs.takes g.T.TakesPairs.stops c.args.taker.now c.close_through.new.taker c.args.table.limit c.in-Ok.opened.0.table.limit c.args.count _ c.in-Ok-serve.ended.0.items
    c.in-Ok-serve.ended.1.items c.in-Ok.ensures.limit c.in-Ok.ensures.each c.in-Ok-serve.ensures.worked c.in-Ok-close_through.ensures.closed)

pub returns-in-Err-close_through-clause-ran : goal.returns-in-Err-close_through-clause-ran
returns-in-Err-close_through-clause-ran g c =
    as_asked g.V.FarObject.enc (g.W.Work.done c.args.work.now) g.J.Naming.limits c.args.table.limit c.args.count c.in-Ok-serve.ended.1.items g.T.TakesPairs.takes g.T.TakesPairs.stops c.args.taker.now c.close_through.new.taker c.args.end asked.Buckets
    (Err c.in-Err-close_through.fault) c.in-Buckets.is (
      ran_badly g.V.FarObject.enc (g.W.Work.done c.args.work.now) g.J.Naming.limits c.args.table.limit c.in-Ok.opened.0.table.limit c.args.count _ (map (λ c. c.pass) c.in-Ok-serve.ended.0.items) c.in-Ok-serve.ended.1.items
          c.in-Ok.ensures.limit c.in-Ok.ensures.each c.in-Ok-serve.ensures.worked,
      c.in-Err-close_through.ensures.fault,
    )
