-- The lines of pairs in several texts.
use Rattle.std.proofs.Common.{◌≡◌, ℕ, ◌+◌, ◌<◌, List, [], ◌∷◌, ◌++◌, Option, length, take, get_or, map, refl, ap, sym, ◌∙◌, subst, append_assoc, Vec, Global}
use Rattle.std.specs.List.{concat}
use Rattle.std.specs.Borrow.{Bor}
use Rattle.std.specs.Io.KnownBytes.{Appends}
use Rattle.std.proofs.lemmas.List.{append-nil, map-append}
use Rattle.std.proofs.lemmas.List.Folds.{concat-append}
use Rattle.far_pairs.specs.Bundles.{all_of}
use Rattle.far_pairs.proofs.Ordering.{all_both}
use Rattle.run_lines.specs.Output.{written}
use Rattle.run_lines.proofs.Written.{both, taken, texts_of}

written_both : (xs ys : List (List ℕ)) → written (xs ++ ys) ≡ written xs ++ written ys
written_both [] ys = refl
written_both (x ∷ xs) ys = ap (λ (z : List ℕ). x ++ 10 ∷ z) (written_both xs ys) ∙ sym (append_assoc x (10 ∷ written xs) (written ys))

-- pairs that are gathered list by list
module _ {X P : Type 0} (line : P → List ℕ) (pairs_of : X → List P) where
  abbrev lines_in : List X → List ℕ
  lines_in xs = written (map line (all_of (map pairs_of xs)))

  lines_both : (xs ys : List X) → lines_in (xs ++ ys) ≡ lines_in xs ++ lines_in ys
  lines_both xs ys =
      ap (λ (z : List (List P)). written (map line (all_of z))) (map-append pairs_of xs ys)
      ∙ (ap (λ (z : List P). written (map line z)) (all_both (map pairs_of xs) (map pairs_of ys))
      ∙ (ap written (map-append line (all_of (map pairs_of xs)) (all_of (map pairs_of ys))) ∙ written_both (map line (all_of (map pairs_of xs))) (map line (all_of (map pairs_of ys)))))

  pub item_more : (text last new : List ℕ) (xs : List X) (x : X) → text ++ last ≡ lines_in xs → new ≡ last ++ written (map line (pairs_of x)) → text ++ new ≡ lines_in (xs ++ x ∷ [])
  item_more text last new xs x old is =
      let one : lines_in (x ∷ []) ≡ written (map line (pairs_of x)) = ap (λ (z : List P). written (map line z)) (append-nil (pairs_of x)) in
      ap (λ (z : List ℕ). text ++ z) is
      ∙ (sym (append_assoc text last (written (map line (pairs_of x))))
      ∙ (ap (λ (z : List ℕ). z ++ written (map line (pairs_of x))) old
      ∙ (ap (λ (z : List ℕ). lines_in xs ++ z) (sym one) ∙ sym (lines_both xs (x ∷ [])))))

  pub joined : (earlier pushed more all : List (Vec ℕ Global)) (text : Vec ℕ Global) (last : List ℕ) (xs ys : List X) → concat (texts_of earlier) ++ text.items ≡ lines_in xs → concat (texts_of more) ++ last ≡ lines_in ys
      → pushed ≡ earlier ++ text ∷ [] → all ≡ pushed ++ more → concat (texts_of all) ++ last ≡ lines_in (xs ++ ys)
  joined earlier pushed more all text last xs ys low high one other =
      let front : concat (texts_of pushed) ≡ concat (texts_of earlier) ++ text.items =
      ap (λ (z : List (Vec ℕ Global)). concat (texts_of z)) one ∙ (ap concat (map-append (λ (t : Vec ℕ Global). t.items) earlier (text ∷ [])) ∙ (concat-append (texts_of earlier) (text.items ∷ []) ∙ ap (λ (z : List ℕ). concat (texts_of earlier) ++ z) (append-nil text.items))) in
      let whole : concat (texts_of all) ≡ concat (texts_of pushed) ++ concat (texts_of more) =
      ap (λ (z : List (Vec ℕ Global)). concat (texts_of z)) other ∙ (ap concat (map-append (λ (t : Vec ℕ Global). t.items) pushed more) ∙ concat-append (texts_of pushed) (texts_of more)) in
      ap (λ (z : List ℕ). z ++ last) whole
      ∙ (append_assoc (concat (texts_of pushed)) (concat (texts_of more)) last
      ∙ (ap (λ (z : List ℕ). concat (texts_of pushed) ++ z) high
      ∙ (ap (λ (z : List ℕ). z ++ lines_in ys) (front ∙ low) ∙ sym (lines_both xs ys))))

-- what is told of each element that is lent
pub told_of_lent : {V Y : Type 0} (f : V → Y) (xs : List (Bor V)) (vs : List V) → map (λ x. x.now) xs ≡ vs → map (λ x. f x.now) xs ≡ map f vs
told_of_lent {V} {Y} f xs vs are = by xs ∙ ap (λ (z : List V). map f z) are
  where
    by : (xs : List (Bor V)) → map (λ x. f x.now) xs ≡ map f (map (λ x. x.now) xs)
    by [] = refl
    by (x ∷ xs) = ap (λ (z : List Y). f x.now ∷ z) (by xs)

-- one more of the texts was written
pub more_texts : (front after later : Option (List ℕ)) (head : List ℕ) (texts : List (Vec ℕ Global)) (i : ℕ) (text : Vec ℕ Global) → i < length texts → text ≡ get_or texts i text
    → Appends front after (head ++ concat (texts_of (take i texts))) → Appends after later text.items → Appends front later (head ++ concat (texts_of (take (i + 1) texts)))
more_texts front after later head texts i text lt at old one =
    let is : concat (texts_of (take (i + 1) texts)) ≡ concat (texts_of (take i texts)) ++ text.items =
    ap (λ (z : List (Vec ℕ Global)). concat (texts_of z)) (taken texts i text lt at) ∙ (ap concat (map-append (λ (t : Vec ℕ Global). t.items) (take i texts) (text ∷ [])) ∙ (concat-append (texts_of (take i texts)) (text.items ∷ []) ∙ ap (λ (z : List ℕ). concat (texts_of (take i texts)) ++ z) (append-nil text.items))) in
    subst (λ (z : List ℕ). Appends front later z) (append_assoc head (concat (texts_of (take i texts))) text.items ∙ ap (λ (z : List ℕ). head ++ z) (sym is)) (both front after later _ _ old one)
