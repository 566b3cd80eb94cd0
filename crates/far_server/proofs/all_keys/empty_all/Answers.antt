use Rattle.std.proofs.Common.{◌≡◌, ◌+◌, suc, ℕ, sym, subst, arith}
use Rattle.far_server.specs.Flushes.{AreFlushed}
use Rattle.far_server.proofs.all_keys.empty_all.Goals as goal

pub returns-in-Err : goal.returns-in-Err
returns-in-Err g c = record {
  bucket = c.loop-bucket.bucket;
  mid = g.S.Calls.shown c.loop-bucket.me;
  within = omega (arith, c.loop-bucket-test.true, c.buckets-bucket-end.ensures);
  flushed = c.loop-bucket.invariant;
  last = c.in-Err.ensures;
}

pub loop-bucket-preserved : goal.loop-bucket-preserved
loop-bucket-preserved g c =
    let A : ℕ → Type 0 = λ n. AreFlushed g.S.Calls.limits c.args.database n (g.S.Calls.shown c.args.me.now) (g.S.Calls.shown c.empty_filled.new.me) in
    let next : suc c.loop-bucket.bucket ≡ c.loop-bucket.bucket + 1 = omega arith in
    subst A next (g.S.Calls.shown c.loop-bucket.me, c.loop-bucket.invariant, c.in-Ok.ensures)

pub returns : goal.returns
returns g c =
    let A : ℕ → Type 0 = λ n. AreFlushed g.S.Calls.limits c.args.database n (g.S.Calls.shown c.args.me.now) (g.S.Calls.shown c.loop-bucket.me) in
    let at : c.loop-bucket.bucket ≡ g.S.Calls.limits.buckets = omega (arith, c.loop-bucket-test.false, c.loop-bucket.auto.bucket-end, c.buckets-bucket-end.ensures) in
    subst A at c.loop-bucket.invariant
