use Rattle.std.proofs.Common.{rules}
use Rattle.far_pairs.specs.Bundles.{all_of}
use Rattle.far_pairs.proofs.Merging.{merged_append}
use Rattle.far_pairs.proofs.ranges.+ranges.Goals as goal

pub returns : goal.returns
returns g t c =
    merged_append (λ r. r.items) _ c.args.runs.items _ (all_of c.in_ok-low.low.items) (all_of c.in_ok-low.high.items) c.in-Ok.ranges.items c.in-Ok-behind.ranges.items c.append.new.self.items
    c.deref-3.ensures.value c.in_ok-low.ensures (search rules) (search rules) c.in_ok-append.ensures.items
