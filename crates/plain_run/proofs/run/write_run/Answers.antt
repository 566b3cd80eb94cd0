use Rattle.std.proofs.Common.{ℕ, List, ◌∷◌, [], ◌++◌, map, ap, ◌∙◌, subst}
use Rattle.std.specs.Prelude.{codes}
use Rattle.std.specs.Io.KnownBytes.{Appends}
use Rattle.run_lines.specs.Output.{written, pair_line, file_texts}
use Rattle.run_lines.proofs.Written.{both, lent_lines}
use Rattle.plain_run.proofs.run.write_run.Goals as goal

pub returns-in-Ok-write_contents-clause-written : goal.returns-in-Ok-write_contents-clause-written
returns-in-Ok-write_contents-clause-written g c = λ log at.
    let is = ap (λ pairs. map (λ e. pair_line e.now) pairs) c.as_slice.ensures.value ∙ (lent_lines c.in-Ok-pairs.pairs.items ∙ ap (λ pairs. map pair_line pairs) (c.in-Ok-pairs.ensures log at)) in
    subst (λ (lines : List (List ℕ)). Appends (g.W.Write.contents c.args.out.now) (g.W.Write.contents c.write_contents.new.out) (file_texts 1 (c.args.lines.items ∷ []) ++ written (codes "contents" ∷ lines))) is
    (both (g.W.Write.contents c.args.out.now) (g.W.Write.contents c.write_files.new.out) (g.W.Write.contents c.write_contents.new.out) _ _ c.in-Ok.ensures c.in-Ok-write_contents.ensures)
