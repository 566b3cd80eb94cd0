-- Pairs that were sorted as they are written.
use Rattle.std.proofs.Common.{◌≡◌, ℕ, zero, suc, ◌+◌, ◌<◌, ◌≤◌, List, [], ◌∷◌, ◌++◌, length, map, take, refl, ap, sym, ◌∙◌, subst, arith, append_assoc}
use Rattle.std.proofs.Math.ListN.{get_or-map}
use Rattle.std.specs.Borrow.{Bor}
use Rattle.std.proofs.lemmas.List.{append-nil, map-append, map-set, length-map, take_all, take_more}
use Rattle.std.proofs.lemmas.List.Sorted.{IsPermutation-keeps, IsPermutation-swap, IsPermutation-trans, length_permutation}
use Rattle.std.specs.Prelude.{Option, slice_index_or, slice_set}
use Rattle.std.specs.List.{swap, AllByRecursion}
use Rattle.std.specs.List.Sorted.{IsPermutation, IsSortedBy}
use Rattle.std.specs.Ordering.{is_lt}
use Rattle.far_object.specs.Buckets.{key_cmp}
use Rattle.far_object.specs.Decoded.{pairs_in}
use Rattle.far_object.specs.Encodings.{FarLaws}
use Rattle.far_object.specs.Objects.{body_of}
use Rattle.far_pairs.specs.Bundles.{IsBundle, all_of, written, AreInOrder, Rises}
use Rattle.far_pairs.specs.Ranges.{key_before, AreRising}
use Rattle.far_pairs.proofs.Bundling.{holds}

module _ {X Y : Type 0} (f : X → Y) where
  swap_map : (xs : List X) (i j : ℕ) → swap (map f xs) i j ≡ map f (swap xs i j)
  swap_map [] i j = refl
  swap_map (d ∷ ys) i j =
      let xs = d ∷ ys in
      let a = get_or-map f xs j d in
      let b = get_or-map f xs i d in
      let first = slice_set xs i (slice_index_or xs j d) in
      rw (a, b) (ap (λ (z : List Y). slice_set z j (f (slice_index_or xs i d))) (sym (map-set f xs i (slice_index_or xs j d))) ∙ sym (map-set f first j (slice_index_or xs i d)))

  -- the images in another order are those of the elements in another order
  pub record Lifted (xs : List X) (ys : List Y) : Type 0 where
    pub all : List X
    pub same : IsPermutation xs all
    pub are : ys ≡ map f all

  pub lifted : (xs : List X) (ys : List Y) → IsPermutation (map f xs) ys → Lifted xs ys
  lifted xs ys moved = IsPermutation-keeps (map f xs) (λ l. Lifted xs l) (record { all = xs; same = record { moves = []; below = tt; is = refl }; are = refl })
      (λ l i j p q h. record {
        all = swap h.all i j;
        same = IsPermutation-trans xs h.all (swap h.all i j) h.same (IsPermutation-swap h.all (swap h.all i j) i j (let n = ap (λ (z : List Y). length z) h.are in let m = length-map h.all f in omega (arith, p, n, m)) (let n = ap (λ (z : List Y). length z) h.are in let m = length-map h.all f in omega (arith, q, n, m)) refl);
        are = ap (λ (z : List Y). swap z i j) h.are ∙ swap_map h.all i j;
      }) ys moved

pub all_both : {X : Type 0} (xs ys : List (List X)) → all_of (xs ++ ys) ≡ all_of xs ++ all_of ys
all_both [] ys = refl
all_both {X} (x ∷ xs) ys = ap (λ (z : List X). x ++ z) (all_both xs ys) ∙ sym (append_assoc x (all_of xs) (all_of ys))

module _ {K V : Type 0} (ek : K → List ℕ) (ev : V → List ℕ) where
  map_both : (es fs : List (K × V)) → map (written ek ev) (es ++ fs) ≡ map (written ek ev) es ++ map (written ek ev) fs
  map_both [] fs = refl
  map_both (e ∷ es) fs = ap (λ (z : List (List ℕ × List ℕ)). written ek ev e ∷ z) (map_both es fs)

  -- the pairs of some bundles and of others
  pub lent_both : (xs ys : List (Bor (List (K × V)))) (low high all : List (List ℕ × List ℕ)) → low ≡ map (written ek ev) (all_of (map (λ x. x.now) xs)) → high ≡ map (written ek ev) (all_of (map (λ x. x.now) ys)) → all ≡ low ++ high
      → all ≡ map (written ek ev) (all_of (map (λ x. x.now) (xs ++ ys)))
  lent_both xs ys low high all one other is =
      let one_all : all_of (map (λ x. x.now) (xs ++ ys)) ≡ all_of (map (λ x. x.now) xs) ++ all_of (map (λ x. x.now) ys) =
      ap (λ (z : List (List (K × V))). all_of z) (map-append (λ (x : Bor (List (K × V))). x.now) xs ys) ∙ all_both (map (λ x. x.now) xs) (map (λ x. x.now) ys) in
      is ∙ (ap (λ (z : List (List ℕ × List ℕ)). z ++ high) one ∙ (ap (λ (z : List (List ℕ × List ℕ)). map (written ek ev) (all_of (map (λ x. x.now) xs)) ++ z) other
      ∙ (sym (map_both (all_of (map (λ x. x.now) xs)) (all_of (map (λ x. x.now) ys))) ∙ ap (λ (z : List (K × V)). map (written ek ev) z) (sym one_all))))

  -- one bundle more
  pub lent_more : (xs : List (Bor (List (K × V)))) (x : Bor (List (K × V))) (now later : List (List ℕ × List ℕ)) → now ≡ map (written ek ev) (all_of (map (λ x. x.now) xs)) → later ≡ now ++ map (written ek ev) x.now
      → later ≡ map (written ek ev) (all_of (map (λ x. x.now) (xs ++ x ∷ [])))
  lent_more xs x now later old is = lent_both xs (x ∷ []) now (map (written ek ev) x.now) later old (ap (λ (z : List (K × V)). map (written ek ev) z) (sym (append-nil x.now))) is

  rising_back : (es : List (K × V)) → AreRising (map (written ek ev) es) → IsSortedBy (λ a b. is_lt (key_cmp ek a.0 b.0)) es
  rising_back es up k d low high =
      let h = up k (written ek ev d) low (let m = length-map es (written ek ev) in omega (arith, high, m)) in
      let a = get_or-map (written ek ev) es (k + 1) d in
      let b = get_or-map (written ek ev) es k d in
      sym (ap (λ (z : List ℕ × List ℕ). key_before z (slice_index_or (map (written ek ev) es) k (written ek ev d))) a ∙ ap (λ (z : List ℕ × List ℕ). key_before (written ek ev (slice_index_or es (k + 1) d)) z) b) ∙ h

  -- what was sorted is the pairs, in the order of their keys
  pub in_order : (pairs : List (K × V)) (was now : List (List ℕ × List ℕ)) → was ≡ map (written ek ev) pairs → IsPermutation was now → AreRising now → AreInOrder ek ev pairs now
  in_order pairs was now is moved up =
      let h = lifted (written ek ev) pairs now (subst (λ (z : List (List ℕ × List ℕ)). IsPermutation z now) is moved) in
      record {
        all = h.all;
        same = h.same;
        rising = rising_back h.all (subst (λ (z : List (List ℕ × List ℕ)). AreRising z) h.are up);
        are = h.are;
      }

-- ---- pairs that are written again in another order

module _ {X : Type 0} (P : X → Type 0) where
  all_at : (xs : List X) (i : ℕ) (d : X) → i < length xs → AllByRecursion P xs → P (slice_index_or xs i d)
  all_at [] i d lt all = absurd (omega (arith, lt))
  all_at (x ∷ xs) zero d lt all = all.0
  all_at (x ∷ xs) (suc i) d lt all = all_at xs i d (omega (arith, lt)) all.1

  all_set : (xs : List X) (i : ℕ) (x : X) → P x → AllByRecursion P xs → AllByRecursion P (slice_set xs i x)
  all_set [] i x p all = tt
  all_set (y ∷ ys) zero x p all = (p, all.1)
  all_set (y ∷ ys) (suc i) x p all = (all.0, all_set ys i x p all.1)

  all_swap : (xs : List X) (i j : ℕ) → i < length xs → j < length xs → AllByRecursion P xs → AllByRecursion P (swap xs i j)
  all_swap [] i j lt le all = tt
  all_swap (d ∷ ys) i j lt le all =
      let xs = d ∷ ys in
      all_set (slice_set xs i (slice_index_or xs j d)) j (slice_index_or xs i d) (all_at xs i d lt all) (all_set xs i (slice_index_or xs j d) (all_at xs j d le all) all)

-- the bytes of encodings, one pair behind the other
abbrev pub spelled : List (List ℕ × List ℕ) → List ℕ
spelled [] = []
spelled (e ∷ es) = e.0 ++ (e.1 ++ spelled es)

spelled_both : (es fs : List (List ℕ × List ℕ)) → spelled (es ++ fs) ≡ spelled es ++ spelled fs
spelled_both [] fs = refl
spelled_both (e ∷ es) fs =
    ap (λ z. e.0 ++ (e.1 ++ z)) (spelled_both es fs)
    ∙ (ap (λ z. e.0 ++ z) (sym (append_assoc e.1 (spelled es) (spelled fs)))
    ∙ sym (append_assoc e.0 (e.1 ++ spelled es) (spelled fs)))

-- one pair more
pub spelled_more : (lent : List (List ℕ × List ℕ)) (i : ℕ) (d e : List ℕ × List ℕ) (now mid later : List ℕ) → i < length lent → now ≡ spelled (take i lent) → e ≡ slice_index_or lent i d
    → mid ≡ now ++ e.0 → later ≡ mid ++ e.1 → later ≡ spelled (take (i + 1) lent)
spelled_more lent i d e now mid later lt old at one other =
    let all : spelled (take (i + 1) lent) ≡ spelled (take i lent) ++ (e.0 ++ (e.1 ++ [])) =
    ap (λ (z : List (List ℕ × List ℕ)). spelled z) (take_more lent i d lt) ∙ (spelled_both (take i lent) (slice_index_or lent i d ∷ []) ∙ ap (λ (z : List ℕ × List ℕ). spelled (take i lent) ++ (z.0 ++ (z.1 ++ []))) (sym at)) in
    other ∙ (ap (λ z. z ++ e.1) (one ∙ ap (λ z. z ++ e.0) old) ∙ (append_assoc (spelled (take i lent)) e.0 e.1 ∙ (ap (λ z. spelled (take i lent) ++ (e.0 ++ z)) (sym (append-nil e.1)) ∙ sym all)))

module _ {K V : Type 0} (ek : K → List ℕ) (ev : V → List ℕ) (AK : K → Type 0) (AV : V → Type 0) (dk : List ℕ → Option K) (dv : List ℕ → Option V) (lk : FarLaws ek dk AK) (lv : FarLaws ev dv AV) where
  spelled_body : (es : List (K × V)) → spelled (map (written ek ev) es) ≡ body_of ek ev es
  spelled_body [] = refl
  spelled_body (e ∷ es) = ap (λ z. ek e.0 ++ (ev e.1 ++ z)) (spelled_body es)

  -- the same pairs, and in the order of their keys where what was written again was so sorted
  pub record Again (pairs : List (K × V)) (count : ℕ) (lent : List (List ℕ × List ℕ)) (bytes : List ℕ) : Type 0 where
    pub same : IsPermutation pairs (pairs_in ek ev dk dv count bytes)
    pub rising : AreRising lent → Rises ek ev (pairs_in ek ev dk dv count bytes)
    pub bundle : IsBundle ek ev dk dv AK AV count bytes

  pub again : (pairs : List (K × V)) (count : ℕ) (bytes : List ℕ) (none was now lent : List (List ℕ × List ℕ)) (new : List ℕ) (i : ℕ) → IsBundle ek ev dk dv AK AV count bytes → pairs_in ek ev dk dv count bytes ≡ pairs
      → none ≡ [] → was ≡ none ++ map (written ek ev) pairs → IsPermutation was now → lent ≡ now → length lent ≤ i → new ≡ spelled (take i lent) → Again pairs count now new
  again pairs count bytes none was now lent new i old view empty is moved sorted past wrote =
      let all_lent : was ≡ map (written ek ev) pairs = is ∙ ap (λ (z : List (List ℕ × List ℕ)). z ++ map (written ek ev) pairs) empty in
      let h = lifted (written ek ev) pairs now (subst (λ (z : List (List ℕ × List ℕ)). IsPermutation z now) all_lent moved) in
      let long : length h.all ≡ length pairs = length_permutation pairs h.all h.same in
      let counted : length pairs ≡ count = ap (λ (z : List (K × V)). length z) (sym view) ∙ old.counted in
      let was_admitted = subst (λ (z : List (K × V)). AllByRecursion (λ e. AK e.0 × AV e.1) z) view old.admitted in
      let admitted = IsPermutation-keeps pairs (λ es. AllByRecursion (λ e. AK e.0 × AV e.1) es) was_admitted (λ l i j p q h. all_swap (λ e. AK e.0 × AV e.1) l i j p q h) h.all h.same in
      let is_body : new ≡ body_of ek ev h.all = wrote ∙ (ap spelled (take_all i lent past) ∙ (ap spelled (sorted ∙ h.are) ∙ spelled_body h.all)) in
      let held = holds ek ev AK AV dk dv lk lv count new h.all (omega (arith, counted, long)) is_body admitted in
      record {
        same = subst (λ (z : List (K × V)). IsPermutation pairs z) (sym held.reads) h.same;
        rising = λ up. subst (λ (z : List (K × V)). Rises ek ev z) (sym held.reads) (rising_back ek ev h.all (subst (λ (z : List (List ℕ × List ℕ)). AreRising z) h.are up));
        bundle = held.bundle;
      }
