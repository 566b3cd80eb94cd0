use Rattle.std.proofs.Common.{◌≡◌, ◌∙◌, refl, arith}
use Rattle.hash_table.proofs.Fronts.{goes_trans}
use Rattle.hash_table.proofs.Takers.{handed_none, handed_next, handed_all, fault_behind}
use Rattle.hash_table.proofs.table.FarTable.hand_buckets.Goals as goal

pub loop-bucket-init : goal.loop-bucket-init
loop-bucket-init g c = record {
  so = handed_none g.K.FarObject.enc g.V.FarObject.enc g.J.Naming.limits g.T.TakesPairs.takes g.J.Naming.limits.honest c.args.mark.now c.args.caller.now.pass c.args.taker.now (g.met.T.TakesPairs.takes_none c.args.taker.now) c.requires.told;
  limbo = refl;
}

pub loop-bucket-preserved : goal.loop-bucket-preserved
loop-bucket-preserved g c = record {
  so = handed_next g.K.FarObject.enc g.V.FarObject.enc g.J.Naming.limits g.T.TakesPairs.takes g.J.Naming.limits.honest c.args.mark.now c.args.caller.now.pass c.loop-bucket.caller.pass c.hand_bucket.new.caller.pass c.args.taker.now
      c.loop-bucket.taker c.hand_bucket.new.taker c.loop-bucket.bucket g.met.T.TakesPairs.takes_both c.loop-bucket.invariant.so c.hand_bucket.ensures.goes c.in-Ok.ensures.pairs;
  limbo = c.hand_bucket.ensures.limbo ∙ c.loop-bucket.invariant.limbo;
}

pub returns-clause-pairs : goal.returns-clause-pairs
returns-clause-pairs g c =
    let is : c.loop-bucket.bucket ≡ g.J.Naming.limits.buckets = (let past = c.loop-bucket-test.false in let below = c.loop-bucket.auto.bucket-end in omega (arith, past, below, c.buckets-buckets.ensures.count)) in
    handed_all g.K.FarObject.enc g.V.FarObject.enc g.J.Naming.limits g.T.TakesPairs.takes g.J.Naming.limits.honest c.args.mark.now c.args.caller.now.pass c.loop-bucket.caller.pass c.args.taker.now c.loop-bucket.taker c.loop-bucket.bucket is c.loop-bucket.invariant.so

pub returns-in-Err-clause-fault : goal.returns-in-Err-clause-fault
returns-in-Err-clause-fault g c = λ n. fault_behind g.K.FarObject.enc g.V.FarObject.enc g.J.Naming.limits g.T.TakesPairs.takes g.T.TakesPairs.stops _ c.args.taker.now c.loop-bucket.taker c.hand_bucket.new.taker n c.in-Err.fault g.met.T.TakesPairs.takes_both c.loop-bucket.invariant.so (c.in-Err.ensures.fault n)

pub returns-in-Err-clause-goes : goal.returns-in-Err-clause-goes
returns-in-Err-clause-goes g c = goes_trans c.loop-bucket.invariant.so.2.goes c.hand_bucket.ensures.goes
