use Rattle.std.proofs.Common.{◌≡◌, true, subst}
use Rattle.farcalls.specs.Runs.{is_served}
use Rattle.farcalls.proofs.EachEnd.{one_more, all_of}
use Rattle.farcalls.proofs.check_ends.Goals as goal

pub loop-end-preserved : goal.loop-end-preserved
loop-end-preserved c = one_more (λ end. is_served end ≡ true) c.args.ends.now c.loop-end.end-index c.end-item.result c.loop-end-test.true (subst (λ end. is_served end ≡ true) c.end-item.is c.in_ok-check_end.ensures) c.loop-end.invariant

pub returns : goal.returns
returns c = record { served = all_of (λ end. is_served end ≡ true) c.args.ends.now c.loop-end.end-index c.loop-end-test.false c.loop-end.auto.end-index-end c.loop-end.invariant }
