-- A name among those of the files.
use Rattle.std.proofs.Common.{◌≡◌, ℕ, ◌+◌, ◌<◌, List, ◌∷◌, ◌++◌, length, length-take, map, take, drop, suc, get_or, take-append-drop, drop-cons, add-one, ap, sym, ◌∙◌, subst, arith}
use Rattle.std.proofs.lemmas.List.{map-append, length-map}
use Rattle.far_driver.specs.Sources.{IsUnopened, IsUnopenedAt}

pub unopened_at : {A : Type 0} (text_of : A → List ℕ) (names : List A) (i : ℕ) (name : A) (text : List ℕ) → i < length names → name ≡ get_or names i name → text ≡ text_of name → IsUnopened text → IsUnopenedAt (map text_of names) (i + 1)
unopened_at {A} text_of names i name text within at is unopened =
    let split : names ≡ take i names ++ name ∷ drop (i + 1) names =
    sym (take-append-drop i names) ∙ ap (λ (rest : List A). take i names ++ rest) (rw (add-one, drop-cons names i name) (ap (λ (x : A). x ∷ drop (suc i) names) (sym at))) in
    let count : length (map text_of (take i names)) ≡ i = omega (arith, length-map (take i names) text_of, length-take i names, within) in
    record {
      before = map text_of (take i names);
      name = text_of name;
      behind = map text_of (drop (i + 1) names);
      are = ap (λ (xs : List A). map text_of xs) split ∙ map-append text_of (take i names) (name ∷ drop (i + 1) names);
      counted = omega (arith, count);
      unopened = subst IsUnopened is unopened;
    }
