-- The texts of files as their lines.
use Rattle.std.proofs.Common.{◌≡◌, ℕ, ◌+◌, List, [], ◌∷◌, ◌++◌, map, refl, ap, sym, ◌∙◌, append_assoc}
use Rattle.std.specs.Prelude.{codes, decimal}
use Rattle.run_lines.specs.Output.{written, file_lines, file_texts}

written-append : (xs ys : List (List ℕ)) → written (xs ++ ys) ≡ written xs ++ written ys
written-append [] ys = refl
written-append (x ∷ xs) ys = ap (λ (z : List ℕ). x ++ 10 ∷ z) (written-append xs ys) ∙ sym (append_assoc x (10 ∷ written xs) (written ys))

pub texts_are_lines : (n : ℕ) (files : List (List (List ℕ))) → file_texts n (map written files) ≡ written (file_lines n files)
texts_are_lines n [] = refl
texts_are_lines n (lines ∷ files) =
    ap (λ (z : List ℕ). z ++ file_texts (n + 1) (map written files)) (sym (append_assoc (codes "file ") (decimal n) (10 ∷ written lines)))
    ∙ (append_assoc (codes "file " ++ decimal n) (10 ∷ written lines) (file_texts (n + 1) (map written files))
    ∙ ap (λ (z : List ℕ). (codes "file " ++ decimal n) ++ 10 ∷ z)
    (ap (λ (z : List ℕ). written lines ++ z) (texts_are_lines (n + 1) files) ∙ sym (written-append lines (file_lines (n + 1) files))))
