use Rattle.std.proofs.Common.{List, ℕ, ◌+◌, ◌-◌, ◌^◌, [], min, ap, ◌∙◌, subst, Bool}
use Rattle.version_words.specs.Views.{SpareView}
use Rattle.swapper.specs.Evictors.{Tried, PutsBehind}
use Rattle.swapper.proofs.Collecting.{collected}
use Rattle.swapper.proofs.evictor.Evictor.collect.Goals as goal

pub returns : goal.returns
returns g c =
    let r = c.retry-again in
    let o = c.empty_limbo in
    let q = c.empty_queue in
    let p = c.put_first_behind in
    let both = c.and-own.ensures in
    let all = c.and-all.ensures in
    let made = c.collected.ensures in
    collected c.args.self.now r.new.self o.new.self q.new.self p.new.self r.result.reclaimed o.result.reclaimed q.result.reclaimed r.result.failed o.result.failed q.result.failed c.collected.result r.ensures o.ensures.tried o.ensures.stopped
    (subst (λ (f : Bool). (taken : List (SpareView g.row.K.Denot g.row.V.Denot)) × Tried o.new.self q.new.self [] taken f q.result.reclaimed q.result.failed) both.failed q.ensures.tried) q.ensures.stopped
    (subst (λ (f : Bool). PutsBehind q.new.self p.new.self f) all.failed p.ensures) (made.failed ∙ all.failed) r.ensures.few (made.reclaimed ∙ (all.reclaimed ∙ ap (λ (n : ℕ). min (n + q.result.reclaimed) (2 ^ 64 - 1)) both.reclaimed)) made.kept
