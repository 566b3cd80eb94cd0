use Rattle.std.proofs.Common.{rules, ◌≡◌, ◌+◌, ◌∙◌, List, ◌-◌, ap, arith}
use mathlib.Core.List.{IsPrefix}
use Rattle.far_pairs.specs.Bundles.{all_of}
use Rattle.far_pairs.proofs.Ordering.{all_both}
use Rattle.hash_table.proofs.Ends.{back_both, pairs_by_both, each_left, each_right}
use Rattle.hash_table.proofs.table.+parts.Goals as goal

pub FarTable::read_both-returns-in-Ok-append-clause-pairs : goal.FarTable::read_both-returns-in-Ok-append-clause-pairs
FarTable::read_both-returns-in-Ok-append-clause-pairs g t c =
    pairs_by_both g.K.FarObject.enc g.V.FarObject.enc g.J.Naming.limits c.args.mark.now c.own-1.given.0 c.others-1.given.0 c.args.from c.args.half c.args.rest (all_of c.in-Ok.bundles.items) (all_of c.in-Ok-second.bundles.items) (all_of c.append.new.self.items) (search rules) (search rules)
    (ap (λ (z : List (List (g.row.K.Denot × g.row.V.Denot))). all_of z) c.in-Ok-append.ensures.items ∙ all_both c.in-Ok.bundles.items c.in-Ok-second.bundles.items)

pub FarTable::read_parts-read_both-requires-after_bounds : goal.FarTable::read_parts-read_both-requires-after_bounds
FarTable::read_parts-read_both-requires-after_bounds g t c κs within =
    let cut = c.split_at_mut-own.ensures in
    let told = rw cut.value at c.requires.told in
    let two = c.if-callers-lt2.false in
    let part = c.first_part-near.ensures in
    let fits = c.requires.within in
    let near = cut.front_len in
    let far = cut.back_len in (
      omega arith,
      (
        omega (arith, fits),
        (
          (part.0, omega (arith, part.1)),
          (
            (omega (arith, near, two), omega (arith, far, two)),
            (
              each_left g.K.FarObject.enc g.V.FarObject.enc g.J.Naming.limits (λ caller. IsPrefix c.args.mark.now caller.pass.front) _ _ told,
              each_right g.K.FarObject.enc g.V.FarObject.enc g.J.Naming.limits (λ caller. IsPrefix c.args.mark.now caller.pass.front) _ _ told,
            ),
          ),
        ),
      ),
    )

pub FarTable::read_parts-returns-clause-back : goal.FarTable::read_parts-returns-clause-back
FarTable::read_parts-returns-clause-back g t c =
    let cut = c.split_at_mut-own.ensures in
    let both = c.read_both.ensures in
    rw cut.value (back_both g.K.FarObject.enc g.V.FarObject.enc g.J.Naming.limits _ _ _ _ both.back.0 both.back.1)

pub FarTable::read_parts-returns-clause-pairs : goal.FarTable::read_parts-returns-clause-pairs
FarTable::read_parts-returns-clause-pairs g t c =
    let both = c.read_both.ensures in
    let part = c.first_part-near.ensures in
    let is : c.first_part-near.result + (c.args.count - c.first_part-near.result) ≡ c.args.count = omega (arith, part.1) in
    rw is at both.pairs
