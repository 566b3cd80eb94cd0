use Rattle.std.proofs.Common.{List, ◌++◌, ◌∙◌, ap, map}
use Rattle.std.specs.List.{concat}
use Rattle.run_lines.specs.Output.{written, pair_line}
use Rattle.run_lines.proofs.Written.{texts_of}
use Rattle.run_lines.proofs.Lined.{item_more}
use Rattle.run_lines.proofs.lines.PairLinesFromParallelIteratorRefVec.with_item.Goals as goal

pub returns-in-Ok : goal.returns-in-Ok
returns-in-Ok g c = λ xs old.
    item_more (λ e. pair_line (g.P.Pair.texts_of e)) (λ x. x.now.items) (concat (texts_of c.self.inside.earlier.items)) c.self.inside.last.items c.write_pairs.new.out.items xs c.args.item (c.self.view_is ∙ old)
    (c.in-Ok.ensures ∙ ap (λ (z : List g.row.P.Denot). c.self.inside.last.items ++ written (map (λ e. pair_line (g.P.Pair.texts_of e)) z)) c.as_slice.ensures.value)
