use Rattle.std.proofs.Common.{rules, sym}
use Rattle.std.proofs.lemmas.List.Sorted.{IsPartitionPoint-from_clause}
use Rattle.far_pairs.specs.Ranges.{is_before}
use Rattle.far_pairs.proofs.Merging.{parted, parts}
use Rattle.far_pairs.proofs.run.Run.cut.Goals as goal

pub returns : goal.returns
returns c =
    let xs = c.self.inside.pairs.now in
    let place = c.partition_point-place in
    let point = IsPartitionPoint-from_clause (is_before c.args.key.now) xs place.result place.ensures.partitioned (parted c.args.key.now xs c.self.invariant) (λ a r f k. search rules) in
    (parts c.args.key.now c.args.self.now xs c.split_at.result.0.now c.split_at.result.1.now place.result (sym c.self.view_is) c.self.invariant place.ensures.bound point c.split_at.ensures.front c.split_at.ensures.back).cut
