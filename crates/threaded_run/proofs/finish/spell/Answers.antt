use Rattle.std.proofs.Common.{List, ℕ, Vec, Global, map, sym, subst}
use Rattle.far_object.specs.Encodings.{enc_text}
use Rattle.far_pairs.specs.Bundles.{AreInOrder, all_of}
use Rattle.threaded_run.proofs.Contents.{in_order}
use Rattle.threaded_run.proofs.finish.spell.Goals as goal

pub returns-in-Ok-of : goal.returns-in-Ok-of
returns-in-Ok-of g c =
    let lent = subst (λ (z : List (Vec (List ℕ × List ℕ) Global)). AreInOrder enc_text enc_text (all_of c.args.bundles.now) (all_of (map (λ l. l.items) z))) (sym c.as_slice.ensures.value) c.in-Ok.ensures in
    in_order (all_of c.args.bundles.now) (all_of (map (λ l. l.items) c.as_slice.result.now)) c.in-Ok-of.lines lent c.in-Ok-of.ensures
