use Rattle.std.proofs.Common.{◌++◌, ◌∷◌, [], subst}
use Rattle.std.specs.Prelude.{codes}
use Rattle.std.specs.Io.KnownBytes.{Appends}
use Rattle.run_lines.proofs.Lined.{more_texts}
use Rattle.run_lines.proofs.lines.PairLines.write_contents.Goals as goal

pub loop-text-preserved : goal.loop-text-preserved
loop-text-preserved g c =
    let before = g.W.Write.contents c.loop-text.out in
    let after = g.W.Write.contents c.write_all-in-loop-text.new.self in
    more_texts (g.W.Write.contents c.args.out.now) before after (codes "contents" ++ 10 ∷ []) c.deref-text-items.result.now c.loop-text.text-index c.text-item.result c.loop-text-test.true c.text-item.is c.loop-text.invariant
    (subst (λ z. Appends before after z) c.deref.ensures.value c.in_ok-write_all-2.ensures.bytes)
