-- Beginnings of one list.
use Rattle.std.proofs.Common.{◌≡◌, List, [], ◌∷◌, ◌++◌, length, Some, slice_get, refl, ap, sym, ◌∙◌, append_assoc}
use mathlib.Core.List.{IsPrefix}

-- each list begins with itself
pub prefix_self : {A : Type 0} (xs : List A) → IsPrefix xs xs
prefix_self [] = ([], refl)
prefix_self (x ∷ xs) = (let r = prefix_self xs in r.0, ap (λ ys. x ∷ ys) (prefix_self xs).1)

pub prefix_more : {A : Type 0} (xs ys zs : List A) → IsPrefix xs ys → IsPrefix xs (ys ++ zs)
prefix_more xs ys zs p = (p.0 ++ zs, sym (append_assoc xs p.0 zs) ∙ ap (λ w. w ++ zs) p.1)

-- the item after the first ones
pub get_next : {A : Type 0} (gone : List A) (x : A) (items : List A) → slice_get (gone ++ x ∷ items) (length gone) ≡ Some x
get_next [] x items = refl
get_next (y ∷ gone) x items = get_next gone x items
