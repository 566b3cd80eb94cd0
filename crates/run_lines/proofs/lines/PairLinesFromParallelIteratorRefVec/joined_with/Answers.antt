use Rattle.std.proofs.Common.{◌∙◌}
use Rattle.run_lines.specs.Output.{pair_line}
use Rattle.run_lines.proofs.Lined.{joined}
use Rattle.run_lines.proofs.lines.PairLinesFromParallelIteratorRefVec.joined_with.Goals as goal

pub returns : goal.returns
returns g c = λ xs ys low high.
    joined (λ e. pair_line (g.P.Pair.texts_of e)) (λ x. x.now.items) c.self.inside.earlier.items c.push.new.self.items c.other.inside.earlier.items c.append.new.self.items c.self.inside.last c.other.inside.last.items xs ys (c.self.view_is ∙ low) (c.other.view_is ∙ high) c.in_ok-push.ensures.items c.in_ok-append.ensures.items
