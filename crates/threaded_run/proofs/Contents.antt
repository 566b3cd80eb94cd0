-- The lines of pairs that are lent as they are written.
use Rattle.std.proofs.Common.{◌≡◌, ℕ, List, [], ◌∷◌, map, drop, refl, ap, ◌∙◌}
use Rattle.std.specs.Prelude.{length}
use Rattle.std.specs.Int.{w16, to_be_bytes}
use Rattle.std.proofs.lemmas.List.{drop_at}
use Rattle.far_object.specs.Encodings.{enc_text}
use Rattle.far_pairs.specs.Bundles.{written as written_pair, AreInOrder}
use Rattle.run_lines.specs.Calls.{Texts}
use Rattle.run_lines.specs.Output.{written, pair_line}
use Rattle.threaded_run.specs.Ends.{AreLinesOf}

text_back : (t : List ℕ) → drop 2 (enc_text t) ≡ t
text_back t = drop_at (to_be_bytes w16 (length t)) t 2 refl

abbrev pub texts_of : List ℕ × List ℕ → List ℕ × List ℕ
texts_of e = (drop 2 e.0, drop 2 e.1)

lines_of : (all : Texts) → map (λ e. pair_line (texts_of e)) (map (written_pair enc_text enc_text) all) ≡ map pair_line all
lines_of [] = refl
lines_of (e ∷ all) =
    ap (λ z. pair_line (z, drop 2 (enc_text e.1)) ∷ map (λ e. pair_line (texts_of e)) (map (written_pair enc_text enc_text) all)) (text_back e.0)
    ∙ (ap (λ z. pair_line (e.0, z) ∷ map (λ e. pair_line (texts_of e)) (map (written_pair enc_text enc_text) all)) (text_back e.1)
    ∙ ap (λ (z : List (List ℕ)). pair_line e ∷ z) (lines_of all))

-- the lines of the lent pairs are those of the pairs in key order
pub in_order : (pairs : Texts) (lent : List (List ℕ × List ℕ)) (lines : List ℕ) → AreInOrder enc_text enc_text pairs lent → lines ≡ written (map (λ e. pair_line (texts_of e)) lent) → AreLinesOf pairs lines
in_order pairs lent lines order is = record {
  all = order.all;
  same = order.same;
  rising = order.rising;
  are = is ∙ ap written (ap (λ (z : List (List ℕ × List ℕ)). map (λ e. pair_line (texts_of e)) z) order.are ∙ lines_of order.all);
}
