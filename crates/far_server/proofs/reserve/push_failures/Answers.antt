use Rattle.std.proofs.Common.{◌≡◌, List, [], ◌∷◌, ◌++◌, replicate, subst}
use Rattle.std.specs.List.{flat_map}
use Rattle.std.proofs.lemmas.List.{replicate_more}
use Rattle.resp.specs.Replies.{Token, Failure, token}
use Rattle.far_server.proofs.Pushed.{more_tokens}
use Rattle.far_server.proofs.reserve.push_failures.Goals as goal

pub loop-at-preserved : goal.loop-at-preserved
loop-at-preserved c =
    let old = c.args.reply.now.items in
    let now = c.push_one_failure.new.reply.items in
    let one = Failure c.args.text.now in
    let said = more_tokens old (replicate c.loop-at.at one) (one ∷ []) c.loop-at.reply.items now c.loop-at.invariant c.in-Ok.ensures.exact in
    subst (λ (ts : List Token). now ≡ old ++ flat_map token ts) (replicate_more c.loop-at.at one) said
