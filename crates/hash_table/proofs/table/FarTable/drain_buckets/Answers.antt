use Rattle.std.proofs.Common.{◌≡◌, ◌∙◌, refl, arith}
use Rattle.hash_table.proofs.Drains.{draining_none, draining_added, draining_passed, draining_all}
use Rattle.hash_table.proofs.table.FarTable.drain_buckets.Goals.{in-Ok-Device, in-Ok, in-Err}
use Rattle.hash_table.proofs.table.FarTable.drain_buckets.Goals as goal

pub loop-bucket-init : goal.loop-bucket-init
loop-bucket-init g c = record {
  so = draining_none g.K.FarObject.enc g.V.FarObject.enc g.J.Naming.limits c.args.mark.now c.args.caller.now.pass c.args.rest.now c.requires.told;
  limbo = refl;
  lanes = refl;
}

pub loop-bucket-preserved : goal.loop-bucket-preserved
loop-bucket-preserved g c =
    let was = c.loop-bucket.invariant in
    let e = c.drain_bucket.ensures in
    record {
      so = elim c.match-drain_bucket.branch [
        | in-Ok-Device w ↦ draining_added g.K.FarObject.enc g.V.FarObject.enc g.J.Naming.limits c.args.mark.now c.args.caller.now.pass c.loop-bucket.caller.pass c.drain_bucket.new.caller.pass c.loop-bucket.bucket c.args.rest.now
            c.loop-bucket.rest c.drain_bucket.new.rest c.loop-bucket.lost c.match-drain_bucket.lost was.so e.goes w.in-Ok-Device.ensures.added w.lost-is
        | in-Ok w ↦ draining_added g.K.FarObject.enc g.V.FarObject.enc g.J.Naming.limits c.args.mark.now c.args.caller.now.pass c.loop-bucket.caller.pass c.drain_bucket.new.caller.pass c.loop-bucket.bucket c.args.rest.now
            c.loop-bucket.rest c.drain_bucket.new.rest c.loop-bucket.lost c.match-drain_bucket.lost was.so e.goes w.in-Ok.ensures.added w.lost-is
        | in-Err w ↦ draining_passed g.K.FarObject.enc g.V.FarObject.enc g.J.Naming.limits c.args.mark.now c.args.caller.now.pass c.loop-bucket.caller.pass c.drain_bucket.new.caller.pass c.loop-bucket.bucket c.args.rest.now
            c.loop-bucket.rest c.drain_bucket.new.rest c.loop-bucket.lost c.match-drain_bucket.lost was.so e.goes w.in-Err.ensures.passed (w.lost-is ∙ w.saturating_add-lost.ensures)
      ];
      limbo = e.limbo ∙ was.limbo;
      lanes = e.lanes ∙ was.lanes;
    }

pub returns-clause-drained : goal.returns-clause-drained
returns-clause-drained g c =
    let is : c.loop-bucket.bucket ≡ g.J.Naming.limits.buckets = (let past = c.loop-bucket-test.false in let below = c.loop-bucket.auto.bucket-end in omega (arith, past, below, c.buckets-buckets.ensures.count)) in
    draining_all g.K.FarObject.enc g.V.FarObject.enc g.J.Naming.limits c.args.mark.now c.args.caller.now.pass c.loop-bucket.caller.pass c.loop-bucket.bucket c.args.rest.now c.loop-bucket.rest c.loop-bucket.lost is c.loop-bucket.invariant.so
