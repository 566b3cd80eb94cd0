use Rattle.std.proofs.Common.{◌≡◌, ◌∙◌, ℕ, refl, ap, sym, subst, arith}
use Rattle.hash_table.specs.Closes.{pairs_from}
use Rattle.hash_table.proofs.Fronts.{goes_trans}
use Rattle.hash_table.proofs.Ends.{Gathered, gathered_none, gathered_next}
use Rattle.hash_table.proofs.table.FarTable.gather_range.Goals as goal

pub loop-i-init : goal.loop-i-init
loop-i-init g c =
    let pass = c.args.caller.now.pass in
    record {
      so = subst (λ items. Gathered g.K.FarObject.enc g.V.FarObject.enc g.J.Naming.limits g.J.Naming.limits.honest c.args.mark.now pass pass items c.args.from 0) (sym c.none-all.ensures)
          (gathered_none g.K.FarObject.enc g.V.FarObject.enc g.J.Naming.limits g.J.Naming.limits.honest c.args.mark.now pass c.args.from c.requires.told);
      limbo = refl;
    }

pub loop-i-preserved : goal.loop-i-preserved
loop-i-preserved g c = record {
  so = gathered_next g.K.FarObject.enc g.V.FarObject.enc g.J.Naming.limits g.J.Naming.limits.honest c.args.mark.now c.args.caller.now.pass c.loop-i.caller.pass c.gather_bucket.new.caller.pass (g.G.Gathering.gathered c.loop-i.all)
      (g.G.Gathering.gathered c.gather_bucket.new.all) c.args.from c.loop-i.i c.loop-i.invariant.so c.gather_bucket.ensures.goes c.in-Ok.ensures.pairs;
  limbo = c.gather_bucket.ensures.limbo ∙ c.loop-i.invariant.limbo;
}

pub returns-clause-pairs : goal.returns-clause-pairs
returns-clause-pairs g c = λ honest log later stays.
    let is : c.loop-i.i ≡ c.args.count = (let past = c.loop-i-test.false in let below = c.loop-i.auto.i-end in omega (arith, past, below)) in
    c.loop-i.invariant.so.pairs honest log later stays ∙ ap (λ (n : ℕ). pairs_from g.K.FarObject.enc g.V.FarObject.enc g.J.Naming.limits log c.args.from n) is

pub returns-in-Err-clause-goes : goal.returns-in-Err-clause-goes
returns-in-Err-clause-goes g c = goes_trans c.loop-i.invariant.so.goes c.gather_bucket.ensures.goes
