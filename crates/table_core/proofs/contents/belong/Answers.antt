use Rattle.std.proofs.Common.{refl}
use Rattle.table_core.specs.Lent.{lent_value}
use Rattle.table_core.proofs.Belonging.{belong_more, belong_apart, belong_low, belong_all}
use Rattle.table_core.proofs.contents.belong.Goals as goal
use Rattle.table_core.proofs.contents.belong.Goals.{then-bucket_of-bucket-via-then-bucket_of-bucket, then-bucket_of-bucket-via-else-bucket_of-bucket+then-not-is_above}

pub loop-pair-init : goal.loop-pair-init
loop-pair-init g c = refl

pub loop-pair-preserved : goal.loop-pair-preserved
loop-pair-preserved g c =
    belong_more g.K.FarObject.enc c.args.buckets c.args.bucket c.args.pairs.now (lent_value c.loop-pair.last) c.loop-pair.pair-index c.pair-item.result c.bucket_of.result c.is_above.result c.loop-pair-test.true c.pair-item.is
    c.loop-pair.invariant c.bucket_of.ensures c.if-bucket_of-bucket.false c.is_above.ensures c.if-not-is_above.false

pub returns-then-bucket_of-bucket : goal.returns-then-bucket_of-bucket
returns-then-bucket_of-bucket g c =
    elim c.then-bucket_of-bucket.branch [
      | then-bucket_of-bucket-via-then-bucket_of-bucket w ↦
          belong_apart g.K.FarObject.enc c.args.buckets c.args.bucket c.args.pairs.now (lent_value c.loop-pair.last) c.loop-pair.pair-index c.pair-item.result c.bucket_of.result c.loop-pair-test.true c.pair-item.is
          c.loop-pair.invariant c.bucket_of.ensures w.if-bucket_of-bucket.true
      | then-bucket_of-bucket-via-else-bucket_of-bucket+then-not-is_above w ↦
          belong_low g.K.FarObject.enc c.args.buckets c.args.bucket c.args.pairs.now (lent_value c.loop-pair.last) c.loop-pair.pair-index c.pair-item.result c.bucket_of.result w.is_above.result c.loop-pair-test.true
          c.pair-item.is c.loop-pair.invariant c.bucket_of.ensures w.if-bucket_of-bucket.false w.is_above.ensures w.if-not-is_above.true
    ]

pub returns : goal.returns
returns g c = belong_all g.K.FarObject.enc c.args.buckets c.args.bucket c.args.pairs.now (lent_value c.loop-pair.last) c.loop-pair.pair-index c.loop-pair-test.false c.loop-pair.invariant
