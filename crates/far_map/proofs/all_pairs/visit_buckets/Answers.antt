use Rattle.std.proofs.Common.{◌≡◌, ℕ, ◌++◌, [], refl, ◌∙◌, subst, arith, of_calls}
use Rattle.hash_table.proofs.Fronts.{goes_self, goes_trans}
use Rattle.far_map.specs.Visits.{AreRead}
use Rattle.far_map.proofs.Visits.{folds_on, read_more}
use Rattle.far_map.proofs.all_pairs.visit_buckets.Goals as goal

pub loop-bucket-init : goal.loop-bucket-init
loop-bucket-init g c = (search of_calls, goes_self c.args.caller.now.pass, refl, [], (refl, refl), refl)

pub loop-bucket-preserved : goal.loop-bucket-preserved
loop-bucket-preserved g c =
    let at = c.loop-bucket in
    let inv = at.invariant in (
      c.hand_over.ensures.again,
      goes_trans inv.1 c.in-Ok.ensures.goes,
      c.in-Ok.ensures.limbo ∙ inv.2,
      inv.3 ++ c.in-Ok.pairs.items,
      read_more g.V.FarObject.enc g.J.Naming.limits at.bucket c.args.caller.now.pass at.caller.pass c.copy_bucket.new.caller.pass inv.3 c.in-Ok.pairs.items inv.4 c.in-Ok.ensures.goes c.in-Ok.ensures.pairs,
      folds_on (λ f pair h. goal.F-step g f pair.0 pair.1 tt h) _ _ _ _ _ inv.5 c.hand_over.ensures.handed,
    )

pub returns-in-Err-clause-visits : goal.returns-in-Err-clause-visits
returns-in-Err-clause-visits g c =
    let at = c.loop-bucket in
    let inv = at.invariant in (
      at.bucket,
      at.caller.pass,
      inv.3,
      omega (arith, c.loop-bucket-test.true, c.requires.all),
      inv.4,
      c.in-Err.ensures.goes,
      inv.5,
      c.in-Err.ensures.why,
    )

pub returns-clause-visits : goal.returns-clause-visits
returns-clause-visits g c =
    let at = c.loop-bucket in
    let inv = at.invariant in
    let all : at.bucket ≡ g.J.Naming.limits.buckets = omega (arith, c.loop-bucket-test.false, at.auto.bucket-end, c.requires.all) in
    (inv.3, subst (λ (n : ℕ). AreRead g.V.FarObject.enc g.J.Naming.limits n c.args.caller.now.pass at.caller.pass inv.3) all inv.4, inv.5)
