use Rattle.std.proofs.Common.{◌≡◌, Bool, true, not, List, [], ◌∷◌, ◌++◌, length, sym, ap, subst, ◌∙◌}
use Rattle.std.specs.Bool.{if◌then◌else◌}
use Rattle.std.specs.Result.{is_ok}
use Rattle.std.specs.Vec.Iter.{into_iter_items, into_iter_len}
use Rattle.std.proofs.lemmas.List.{map-append, map-id}
use Rattle.std.proofs.lemmas.Iterator.Adapters.{YieldsList-from_vec}
use Rattle.std.proofs.lemmas.Iterator.Consumers.{YieldsList-end}
use Rattle.farcalls.specs.declared.session_end.SessionEnd.{SessionEnd}
use Rattle.farcalls.specs.declared.states.SessionState.{SessionState}
use Rattle.farcalls.specs.declared.states.SessionState.TheVariants as state
use Rattle.farcalls.specs.Serving.{all_ended}
use Rattle.farcalls.proofs.session_run.ends_of.Goals as goal

pub loop-state-preserved : goal.loop-state-preserved
loop-state-preserved g c =
    let ends = c.loop-state.ends.items in
    let pushed : is_ok c.push.result ≡ true = c.is_err.ensures.negation ∙ ap not c.if-is_err.false in
    let B : Bool → Type 0 = λ b. c.push.new.self.items ≡ (if b then ends ++ c.in-Ended.end ∷ [] else ends) in
    let items : c.push.new.self.items ≡ ends ++ c.in-Ended.end ∷ [] = subst B pushed c.push.ensures.items in
    ap (λ (s : SessionState _ _). c.loop-state.yielded ++ s ∷ []) c.in-Ended.is
    ∙ (ap (λ (l : List (SessionState _ _)). l ++ state.Ended c.in-Ended.end ∷ []) c.loop-state.invariant
    ∙ (sym (map-append state.Ended ends (c.in-Ended.end ∷ [])) ∙ ap (λ (es : List (SessionEnd _ _)). all_ended es) (sym items)))

pub returns : goal.returns
returns g c =
    let from = c.into_iter-state-iterator.result in
    let items : into_iter_items from ≡ c.args.states.items = search in
    let len : into_iter_len from ≡ length c.args.states.items = search in
    let t = YieldsList-end (YieldsList-from_vec c.args.states.items items len) c.loop-state.yielded _ c.loop-state.yielded_by c.next.result c.next.new.self c.in-None.is c.next.ensures.steps in
    sym (sym (map-id c.loop-state.yielded) ∙ t.0) ∙ c.loop-state.invariant
