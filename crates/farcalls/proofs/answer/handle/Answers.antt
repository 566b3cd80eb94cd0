use Rattle.std.proofs.Common.{sym, subst}
use Rattle.farcalls.specs.declared.request.Request.{Request}
use Rattle.farcalls.specs.Answers.{IsServed, IsFailed, IsHandled}
use Rattle.farcalls.proofs.answer.handle.Goals as goal

pub returns-in-Get : goal.returns-in-Get
returns-in-Get g c =
    let H : Request → Type 0 = λ r. IsHandled (IsServed g.S.Calls.limits r) (IsFailed g.S.Calls.limits r) (g.S.Calls.shown c.args.me.now) (g.S.Calls.shown c.answer_get.new.me) c.args.out.now.items c.answer_get.new.out.items c.answer_get.result in
    subst H (sym c.in-Get.is) c.answer_get.ensures

pub returns-in-GetMany : goal.returns-in-GetMany
returns-in-GetMany g c =
    let H : Request → Type 0 = λ r. IsHandled (IsServed g.S.Calls.limits r) (IsFailed g.S.Calls.limits r) (g.S.Calls.shown c.args.me.now) (g.S.Calls.shown c.answer_get_many.new.me) c.args.out.now.items c.answer_get_many.new.out.items c.answer_get_many.result in
    subst H (sym c.in-GetMany.is) c.answer_get_many.ensures

pub returns-in-Contains : goal.returns-in-Contains
returns-in-Contains g c =
    let H : Request → Type 0 = λ r. IsHandled (IsServed g.S.Calls.limits r) (IsFailed g.S.Calls.limits r) (g.S.Calls.shown c.args.me.now) (g.S.Calls.shown c.answer_contains.new.me) c.args.out.now.items c.answer_contains.new.out.items c.answer_contains.result in
    subst H (sym c.in-Contains.is) c.answer_contains.ensures

pub returns-in-Put : goal.returns-in-Put
returns-in-Put g c =
    let H : Request → Type 0 = λ r. IsHandled (IsServed g.S.Calls.limits r) (IsFailed g.S.Calls.limits r) (g.S.Calls.shown c.args.me.now) (g.S.Calls.shown c.answer_put.new.me) c.args.out.now.items c.answer_put.new.out.items c.answer_put.result in
    subst H (sym c.in-Put.is) c.answer_put.ensures

pub returns-in-Set : goal.returns-in-Set
returns-in-Set g c =
    let H : Request → Type 0 = λ r. IsHandled (IsServed g.S.Calls.limits r) (IsFailed g.S.Calls.limits r) (g.S.Calls.shown c.args.me.now) (g.S.Calls.shown c.answer_set.new.me) c.args.out.now.items c.answer_set.new.out.items c.answer_set.result in
    subst H (sym c.in-Set.is) c.answer_set.ensures

pub returns-in-PutIf : goal.returns-in-PutIf
returns-in-PutIf g c =
    let H : Request → Type 0 = λ r. IsHandled (IsServed g.S.Calls.limits r) (IsFailed g.S.Calls.limits r) (g.S.Calls.shown c.args.me.now) (g.S.Calls.shown c.answer_put_if.new.me) c.args.out.now.items c.answer_put_if.new.out.items c.answer_put_if.result in
    subst H (sym c.in-PutIf.is) c.answer_put_if.ensures

pub returns-in-PutNew : goal.returns-in-PutNew
returns-in-PutNew g c =
    let H : Request → Type 0 = λ r. IsHandled (IsServed g.S.Calls.limits r) (IsFailed g.S.Calls.limits r) (g.S.Calls.shown c.args.me.now) (g.S.Calls.shown c.answer_put_new.new.me) c.args.out.now.items c.answer_put_new.new.out.items c.answer_put_new.result in
    subst H (sym c.in-PutNew.is) c.answer_put_new.ensures

pub returns-in-Remove : goal.returns-in-Remove
returns-in-Remove g c =
    let H : Request → Type 0 = λ r. IsHandled (IsServed g.S.Calls.limits r) (IsFailed g.S.Calls.limits r) (g.S.Calls.shown c.args.me.now) (g.S.Calls.shown c.answer_remove.new.me) c.args.out.now.items c.answer_remove.new.out.items c.answer_remove.result in
    subst H (sym c.in-Remove.is) c.answer_remove.ensures

pub returns-in-Take : goal.returns-in-Take
returns-in-Take g c =
    let H : Request → Type 0 = λ r. IsHandled (IsServed g.S.Calls.limits r) (IsFailed g.S.Calls.limits r) (g.S.Calls.shown c.args.me.now) (g.S.Calls.shown c.answer_take.new.me) c.args.out.now.items c.answer_take.new.out.items c.answer_take.result in
    subst H (sym c.in-Take.is) c.answer_take.ensures

pub returns-in-RemoveIf : goal.returns-in-RemoveIf
returns-in-RemoveIf g c =
    let H : Request → Type 0 = λ r. IsHandled (IsServed g.S.Calls.limits r) (IsFailed g.S.Calls.limits r) (g.S.Calls.shown c.args.me.now) (g.S.Calls.shown c.answer_remove_if.new.me) c.args.out.now.items c.answer_remove_if.new.out.items c.answer_remove_if.result in
    subst H (sym c.in-RemoveIf.is) c.answer_remove_if.ensures

pub returns-in-Pairs : goal.returns-in-Pairs
returns-in-Pairs g c =
    let H : Request → Type 0 = λ r. IsHandled (IsServed g.S.Calls.limits r) (IsFailed g.S.Calls.limits r) (g.S.Calls.shown c.args.me.now) (g.S.Calls.shown c.answer_pairs.new.me) c.args.out.now.items c.answer_pairs.new.out.items c.answer_pairs.result in
    subst H (sym c.in-Pairs.is) c.answer_pairs.ensures

pub returns-in-Length : goal.returns-in-Length
returns-in-Length g c =
    let H : Request → Type 0 = λ r. IsHandled (IsServed g.S.Calls.limits r) (IsFailed g.S.Calls.limits r) (g.S.Calls.shown c.args.me.now) (g.S.Calls.shown c.answer_length.new.me) c.args.out.now.items c.answer_length.new.out.items c.answer_length.result in
    subst H (sym c.in-Length.is) c.answer_length.ensures

pub returns-in-Stats : goal.returns-in-Stats
returns-in-Stats g c =
    let H : Request → Type 0 = λ r. IsHandled (IsServed g.S.Calls.limits r) (IsFailed g.S.Calls.limits r) (g.S.Calls.shown c.args.me.now) (g.S.Calls.shown c.answer_stats.new.me) c.args.out.now.items c.answer_stats.new.out.items c.answer_stats.result in
    subst H (sym c.in-Stats.is) c.answer_stats.ensures

pub returns-in-Evict : goal.returns-in-Evict
returns-in-Evict g c =
    let H : Request → Type 0 = λ r. IsHandled (IsServed g.S.Calls.limits r) (IsFailed g.S.Calls.limits r) (g.S.Calls.shown c.args.me.now) (g.S.Calls.shown c.answer_evict.new.me) c.args.out.now.items c.answer_evict.new.out.items c.answer_evict.result in
    subst H (sym c.in-Evict.is) c.answer_evict.ensures
