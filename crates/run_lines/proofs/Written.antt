-- What a writer has after one write and another.
use Rattle.std.proofs.Common.{◌≡◌, ℕ, ◌+◌, ◌<◌, ◌≤◌, List, [], ◌∷◌, ◌++◌, Option, Some, None, length, take, get_or, map, refl, ap, sym, ◌∙◌, subst, arith, add-one, append_assoc, Vec, Global}
use Rattle.std.specs.Prelude.{codes, decimal}
use Rattle.std.proofs.lemmas.List.{append-nil, take_all, map-append, length-map, length-take-le}
use Rattle.std.proofs.Math.Seq.{take-suc}
use Rattle.std.specs.Io.KnownBytes.{Appends}
use denote.Ref.{Bor}
use Rattle.run_lines.specs.Output.{written, pair_line, file_texts}

pub nothing : (known : Option (List ℕ)) → Appends known known []
nothing None = tt
nothing (Some bytes) = sym (append-nil bytes)

pub both : (a b c : Option (List ℕ)) (x y : List ℕ) → Appends a b x → Appends b c y → Appends a c (x ++ y)
both None b c x y p q = tt
both (Some xs) None c x y p q = absurd p
both (Some xs) (Some ys) None x y p q = absurd q
both (Some xs) (Some ys) (Some zs) x y p q = q ∙ (ap (λ (z : List ℕ). z ++ y) p ∙ append_assoc xs x y)

-- one more element of a list, whose first i have been written
pub taken : {A : Type 0} (xs : List A) (i : ℕ) (x : A) → i < length xs → x ≡ get_or xs i x → take (i + 1) xs ≡ take i xs ++ x ∷ []
taken xs i x lt at = rw add-one (take-suc xs i x lt) ∙ ap (λ y. take i xs ++ y ∷ []) (sym at)

-- ---- pairs

pub written-more : (lines : List (List ℕ)) (line : List ℕ) → written (lines ++ line ∷ []) ≡ written lines ++ (line ++ 10 ∷ [])
written-more [] line = refl
written-more (l ∷ lines) line = ap (λ (z : List ℕ). l ++ 10 ∷ z) (written-more lines line) ∙ sym (append_assoc l (10 ∷ written lines) (line ++ 10 ∷ []))

pub more_pairs : {P : Type 0} (texts : P → List ℕ × List ℕ) (a b c : Option (List ℕ)) (pairs : List P) (i : ℕ) (e : P) → i < length pairs → e ≡ get_or pairs i e
    → Appends a b (written (map (λ e. pair_line (texts e)) (take i pairs))) → Appends b c (pair_line (texts e) ++ 10 ∷ []) → Appends a c (written (map (λ e. pair_line (texts e)) (take (i + 1) pairs)))
more_pairs texts a b c pairs i e lt at p q =
    let is : written (map (λ e. pair_line (texts e)) (take (i + 1) pairs)) ≡ written (map (λ e. pair_line (texts e)) (take i pairs)) ++ (pair_line (texts e) ++ 10 ∷ []) =
    ap (λ x. written (map (λ e. pair_line (texts e)) x)) (taken pairs i e lt at)
    ∙ (ap written (map-append (λ e. pair_line (texts e)) (take i pairs) (e ∷ [])) ∙ written-more (map (λ e. pair_line (texts e)) (take i pairs)) (pair_line (texts e))) in
    subst (λ (x : List ℕ). Appends a c x) (sym is) (both a b c _ _ p q)

pub all_pairs : {P : Type 0} (texts : P → List ℕ × List ℕ) (a b : Option (List ℕ)) (pairs : List P) (i : ℕ) → length pairs ≤ i → Appends a b (written (map (λ e. pair_line (texts e)) (take i pairs))) → Appends a b (written (map (λ e. pair_line (texts e)) pairs))
all_pairs texts a b pairs i le p = subst (λ x. Appends a b (written (map (λ e. pair_line (texts e)) x))) (take_all i pairs le) p

-- the lines of pairs that are lent
pub lent_lines : (pairs : List (Bor (List ℕ × List ℕ))) → map (λ e. pair_line e.now) pairs ≡ map pair_line (map (λ e. e.now) pairs)
lent_lines [] = refl
lent_lines (e ∷ pairs) = ap (λ (z : List (List ℕ)). pair_line e.now ∷ z) (lent_lines pairs)

-- ---- files

abbrev pub texts_of : List (Vec ℕ Global) → List (List ℕ)
texts_of texts = map (λ (t : Vec ℕ Global). t.items) texts

texts-more : (n : ℕ) (ts : List (List ℕ)) (t : List ℕ) → file_texts n (ts ++ t ∷ []) ≡ file_texts n ts ++ (codes "file " ++ (decimal (n + length ts) ++ 10 ∷ t))
texts-more n [] t =
    let e : n ≡ n + 0 = omega arith in
    append-nil (codes "file " ++ (decimal n ++ 10 ∷ t)) ∙ ap (λ (m : ℕ). codes "file " ++ (decimal m ++ 10 ∷ t)) e
texts-more n (x ∷ ts) t =
    let P : ℕ → Type 0 = λ m. file_texts n ((x ∷ ts) ++ t ∷ []) ≡ file_texts n (x ∷ ts) ++ (codes "file " ++ (decimal m ++ 10 ∷ t)) in
    let e : (n + 1) + length ts ≡ n + length (x ∷ ts) = omega arith in
    subst P e
    (ap (λ (z : List ℕ). (codes "file " ++ (decimal n ++ 10 ∷ x)) ++ z) (texts-more (n + 1) ts t)
    ∙ sym (append_assoc (codes "file " ++ (decimal n ++ 10 ∷ x)) (file_texts (n + 1) ts) (codes "file " ++ (decimal ((n + 1) + length ts) ++ 10 ∷ t))))

pub more_files : (a b c : Option (List ℕ)) (texts : List (Vec ℕ Global)) (i : ℕ) (t : Vec ℕ Global) (text : List ℕ) → i < length texts → t ≡ get_or texts i t → text ≡ t.items
    → Appends a b (file_texts 1 (texts_of (take i texts))) → Appends b c (codes "file " ++ (decimal (i + 1) ++ 10 ∷ text)) → Appends a c (file_texts 1 (texts_of (take (i + 1) texts)))
more_files a b c texts i t text lt at same p q =
    let len : length (take i texts) ≡ i = length-take-le i texts (omega (arith, lt)) in
    let count : 1 + length (texts_of (take i texts)) ≡ i + 1 = omega (arith, length-map (take i texts) (λ (t : Vec ℕ Global). t.items), len) in
    let is : file_texts 1 (texts_of (take (i + 1) texts)) ≡ file_texts 1 (texts_of (take i texts)) ++ (codes "file " ++ (decimal (i + 1) ++ 10 ∷ text)) =
    ap (λ (x : List (Vec ℕ Global)). file_texts 1 (texts_of x)) (taken texts i t lt at)
    ∙ (ap (file_texts 1) (map-append (λ (t : Vec ℕ Global). t.items) (take i texts) (t ∷ []))
    ∙ (texts-more 1 (texts_of (take i texts)) t.items
    ∙ (ap (λ (m : ℕ). file_texts 1 (texts_of (take i texts)) ++ (codes "file " ++ (decimal m ++ 10 ∷ t.items))) count
    ∙ ap (λ (x : List ℕ). file_texts 1 (texts_of (take i texts)) ++ (codes "file " ++ (decimal (i + 1) ++ 10 ∷ x))) (sym same)))) in
    subst (λ (x : List ℕ). Appends a c x) (sym is) (both a b c _ _ p q)
