use Rattle.std.proofs.Common.{◌≡◌, ◌≤◌, ◌-◌, ℕ, List, [], length, refl, sym, subst, ◌∙◌, arith}
use Rattle.std.proofs.lemmas.List.{nil_from_length}
use Rattle.std.proofs.lemmas.Bool.{eqb-true}
use Rattle.hash_table.proofs.Fronts.{goes_trans}
use Rattle.farcalls.specs.Answers.{AreEmpty}
use Rattle.farcalls.proofs.Handling.{stays_self}
use Rattle.farcalls.proofs.Visiting.{one_empty, one_filled}
use Rattle.farcalls.proofs.pairs.first_filled.Goals as goal

pub loop-bucket-init : goal.loop-bucket-init
loop-bucket-init g c =
    let s = g.S.Calls.shown c.args.me.now in
    let n : c.args.from - c.args.from ≡ 0 = omega arith in
    (subst (λ (k : ℕ). AreEmpty g.S.Calls.limits c.args.from k s s) (sym n) refl, stays_self s, omega arith)

pub loop-bucket-preserved : goal.loop-bucket-preserved
loop-bucket-preserved g c =
    let inv = c.loop-bucket.invariant in
    let le : c.args.from ≤ c.loop-bucket.bucket = omega (arith, c.loop-bucket.auto.bucket) in
    let zero : length c.as_slice-found.result.now ≡ 0 = eqb-true (length c.as_slice-found.result.now) 0 (sym c.if-not-is_empty.ensures) in
    let none : c.in-Ok.pairs.items ≡ [] = sym c.as_slice-found.ensures.value ∙ nil_from_length c.as_slice-found.result.now zero in (
      one_empty g.S.Calls.limits c.args.from c.loop-bucket.bucket (g.S.Calls.shown c.args.me.now) (g.S.Calls.shown c.loop-bucket.me) (g.S.Calls.shown c.pairs_in.new.me) c.in-Ok.pairs.items le inv.0 c.in-Ok.ensures.stays c.in-Ok.ensures.pairs none,
      goes_trans inv.1 c.in-Ok.ensures.stays,
      omega (arith, c.loop-bucket-test.true, c.buckets-bucket-end.ensures),
    )

pub returns-then-not-is_empty-clause-found : goal.returns-then-not-is_empty-clause-found
returns-then-not-is_empty-clause-found g c =
    let inv = c.loop-bucket.invariant in
    let le : c.args.from ≤ c.loop-bucket.bucket = omega (arith, c.loop-bucket.auto.bucket) in (
      c.loop-bucket.bucket,
      refl,
      one_filled g.S.Calls.limits c.args.from c.loop-bucket.bucket (g.S.Calls.shown c.args.me.now) (g.S.Calls.shown c.loop-bucket.me) (g.S.Calls.shown c.pairs_in.new.me) c.in-Ok.pairs.items le inv.0 c.in-Ok.ensures.stays c.in-Ok.ensures.pairs
          (omega (arith, c.loop-bucket-test.true, c.buckets-bucket-end.ensures)),
    )

pub returns-clause-found : goal.returns-clause-found
returns-clause-found g c =
    let inv = c.loop-bucket.invariant in
    let n : c.loop-bucket.bucket - c.args.from ≡ g.S.Calls.limits.buckets - c.args.from = omega (arith, c.loop-bucket-test.false, c.loop-bucket.auto.bucket, inv.2, c.buckets-bucket-end.ensures) in
    subst (λ (k : ℕ). AreEmpty g.S.Calls.limits c.args.from k (g.S.Calls.shown c.args.me.now) (g.S.Calls.shown c.loop-bucket.me)) n inv.0
