use Rattle.std.proofs.Common.{List, ◌∙◌, ap, map}
use Rattle.rayon.specs.Lists.{iter_slice}
use Rattle.far_pairs.specs.Bundles.{all_of}
use Rattle.run_lines.specs.Output.{written, pair_line}
use Rattle.run_lines.proofs.Lined.{told_of_lent}
use Rattle.run_lines.proofs.lines.PairLines.of.Goals as goal

pub returns-in-Ok : goal.returns-in-Ok
returns-in-Ok g c =
    let lists = c.in-Ok.ensures.1 ∙ (ap iter_slice c.with_min_len.ensures.base ∙ c.par_iter.ensures) in
    c.in-Ok.ensures.2 ∙ ap (λ (z : List (List g.row.P.Denot)). written (map (λ e. pair_line (g.P.Pair.texts_of e)) (all_of z))) (told_of_lent (λ l. l.items) c.in-Ok.ensures.0 c.args.lists.now lists)
