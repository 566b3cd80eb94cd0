-- The pairs of all buckets are those of the map, and sorting them gives the map.
use Rattle.std.proofs.Common.{zero, suc, ◌≡◌, ℕ, ◌+◌, ◌<◌, ◌==◌, ◌&&◌, Bool, true, false, not, cond, ltb, List, [], ◌∷◌, ◌++◌, length, get_or, map, ◌⊎◌, inl, inr, refl, ap, sym, ◌∙◌, subst, arith}
use Rattle.std.proofs.lemmas.Bool.Decides.{nat_tests}
use Rattle.std.proofs.lemmas.List.{get_or-map, length-map}
use Rattle.std.proofs.lemmas.List.Elements.{Contains-append_left, Contains-append_right, Contains-append_cases, Contains-push, Contains-push_cases}
use Rattle.std.proofs.lemmas.List.Sorted.{IsPermutation-refl, IsPermutation-sym, IsPermutation-trans, IsPermutation-map, IsPermutation-filter_both, IsPermutation-append_left, Contains-permutation}
use Rattle.std.proofs.lemmas.Map.Keys.{sorted_head, sorted_tail, sorted_from_all_adjacent, IsDistinct-from_sorted, IsDistinct-IsPermutation, apart_from_distinct}
use denote.Ref.{Bor}
use Rattle.std.specs.List.{filter, AllByRecursion, Contains}
use Rattle.std.specs.List.Sorted.{IsStrictlySortedBy, IsPermutation, IsSortedBy}
use Rattle.std.specs.Map.{keys_of}
use Rattle.std.specs.Ordering.{is_lt, eq_by_cmp, ordering_reverse}
use Rattle.std.specs.declared.cmp.Ordering.{Ordering}
use Rattle.std.specs.declared.cmp.Ordering.TheVariants.{Less, Equal, Greater}
use Rattle.far_object.specs.Buckets.{key_cmp, bucket}
use Rattle.table_core.specs.Maps.{at_bucket, joined}
use Rattle.far_object.proofs.Rising.{total}
use Rattle.table_core.proofs.Maps.{equivalence}

-- ---- two sorted lists with the same pairs

contains_none : {X : Type 0} (x : X) → Contains [] x → ⊥
contains_none x h = let l = h.1 in omega arith

contains_cases : {X : Type 0} (y : X) (ys : List X) (x : X) → Contains (y ∷ ys) x → (y ≡ x) ⊎ Contains ys x
contains_cases {X = X} y ys x h = at (Contains-append_cases (y ∷ []) ys x h)
  where
    here : Contains [] x ⊎ (y ≡ x) → (y ≡ x) ⊎ Contains ys x
    here (inl none) = absurd (contains_none x none)
    here (inr same) = inl same

    at : Contains (y ∷ []) x ⊎ Contains ys x → (y ≡ x) ⊎ Contains ys x
    at (inl one) = here (Contains-push_cases [] y x one)
    at (inr rest) = inr rest

module _ {K : Type 0} (ek : K → List ℕ) where
  not_below_itself : (k : K) → key_cmp ek k k ≡ Less → ⊥
  not_below_itself k h = cc ((total ek).antisymm k k, ap ordering_reverse h)

  not_both_below : (j k : K) → key_cmp ek j k ≡ Less → key_cmp ek k j ≡ Less → ⊥
  not_both_below j k h i = not_below_itself j ((total ek).trans j k j h i)

  neither : (a b : K) → is_lt (key_cmp ek b a) ≡ false → eq_by_cmp (key_cmp ek) a b ≡ false → key_cmp ek a b ≡ Less
  neither a b below equal = by (key_cmp ek a b) refl
    where
      by : (o : Ordering) → key_cmp ek a b ≡ o → o ≡ Less
      by Less is = refl
      by Equal is = absurd (cc (equal, is))
      by Greater is = absurd (cc (below, ap is_lt ((total ek).antisymm b a ∙ ap ordering_reverse is)))

module _ {K V : Type 0} (ek : K → List ℕ) where
  above_in : (k : K) (es : List (K × V)) → AllByRecursion (λ y. key_cmp ek k y ≡ Less) (keys_of es) → (e : K × V) → Contains es e → key_cmp ek k e.0 ≡ Less
  above_in k [] a e h = absurd (contains_none e h)
  above_in k (x ∷ es) a e h = at (λ rest. above_in k es a.1 e rest) (contains_cases x es e h)
    where
      at : (Contains es e → key_cmp ek k e.0 ≡ Less) → (x ≡ e) ⊎ Contains es e → key_cmp ek k e.0 ≡ Less
      at next (inl same) = ap (λ (p : K × V). key_cmp ek k p.0) (sym same) ∙ a.0
      at next (inr rest) = next rest

  pub same_sorted : (xs ys : List (K × V)) → IsStrictlySortedBy (key_cmp ek) (keys_of xs) → IsStrictlySortedBy (key_cmp ek) (keys_of ys)
      → ((e : K × V) → Contains xs e → Contains ys e) → ((e : K × V) → Contains ys e → Contains xs e) → xs ≡ ys
  same_sorted [] [] sx sy to from = refl
  same_sorted [] (y ∷ ys) sx sy to from = absurd (contains_none y (from y (Contains-append_left (y ∷ []) ys y (Contains-push [] y))))
  same_sorted (x ∷ xs) [] sx sy to from = absurd (contains_none x (to x (Contains-append_left (x ∷ []) xs x (Contains-push [] x))))
  same_sorted (x ∷ xs) (y ∷ ys) sx sy to from =
      ap (λ (z : K × V). z ∷ xs) same_head
      ∙ ap (λ (z : List (K × V)). y ∷ z)
      (same_sorted xs ys (sorted_tail _ _ _ sx) (sorted_tail _ _ _ sy)
      (λ e h. into e h (contains_cases y ys e (to e (Contains-append_right (x ∷ []) xs e h))))
      (λ e h. back e h (contains_cases x xs e (from e (Contains-append_right (y ∷ []) ys e h)))))
    where
      above_x : (e : K × V) → Contains xs e → key_cmp ek x.0 e.0 ≡ Less
      above_x e h = above_in x.0 xs (sorted_head _ _ _ sx) e h

      above_y : (e : K × V) → Contains ys e → key_cmp ek y.0 e.0 ≡ Less
      above_y e h = above_in y.0 ys (sorted_head _ _ _ sy) e h

      heads : (y ≡ x) ⊎ Contains ys x → (x ≡ y) ⊎ Contains xs y → x ≡ y
      heads (inl same) b = sym same
      heads (inr a) (inl same) = same
      heads (inr a) (inr b) = absurd (not_both_below ek y.0 x.0 (above_y x a) (above_x y b))

      same_head : x ≡ y
      same_head =
          heads (contains_cases y ys x (to x (Contains-append_left (x ∷ []) xs x (Contains-push [] x))))
          (contains_cases x xs y (from y (Contains-append_left (y ∷ []) ys y (Contains-push [] y))))

      into : (e : K × V) → Contains xs e → (y ≡ e) ⊎ Contains ys e → Contains ys e
      into e h (inl same) = absurd (not_below_itself ek e.0 (ap (λ (p : K × V). key_cmp ek p.0 e.0) (sym same ∙ sym same_head) ∙ above_x e h))
      into e h (inr rest) = rest

      back : (e : K × V) → Contains ys e → (x ≡ e) ⊎ Contains xs e → Contains xs e
      back e h (inl same) = absurd (not_below_itself ek e.0 (ap (λ (p : K × V). key_cmp ek p.0 e.0) (sym same ∙ same_head) ∙ above_y e h))
      back e h (inr rest) = rest

  -- ---- a sorted permutation of a sorted list

  rises : (es : List (K × V)) → (((i j : ℕ) (d : K) → i < j → j < length (keys_of es) → eq_by_cmp (key_cmp ek) (get_or (keys_of es) i d) (get_or (keys_of es) j d) ≡ false))
      → IsSortedBy (λ x y. is_lt (key_cmp ek x.0 y.0)) es → IsStrictlySortedBy (key_cmp ek) (keys_of es)
  unfolding IsStrictlySortedBy
  rises [] apart up = tt
  rises (e ∷ es) apart up =
      sorted_from_all_adjacent (total ek) (keys_of (e ∷ es)) e.0
      (λ k h.
      let long : length (keys_of (e ∷ es)) ≡ length (e ∷ es) = length-map (e ∷ es) (λ (p : K × V). p.0) in
      let i : k < length (e ∷ es) = omega arith in
      let j : k + 1 < length (e ∷ es) = omega arith in
      let a = get_or-map (λ (p : K × V). p.0) (e ∷ es) k e e.0 i in
      let b = get_or-map (λ (p : K × V). p.0) (e ∷ es) (k + 1) e e.0 j in
      neither ek (get_or (keys_of (e ∷ es)) k e.0) (get_or (keys_of (e ∷ es)) (k + 1) e.0)
      (ap (λ z. is_lt (key_cmp ek z (get_or (keys_of (e ∷ es)) k e.0))) b ∙ (ap (λ z. is_lt (key_cmp ek (get_or (e ∷ es) (k + 1) e).0 z)) a ∙ up k e (omega arith) j))
      (apart k (k + 1) e.0 (omega arith) h))

  pub sorted_is : (m es : List (K × V)) → IsStrictlySortedBy (key_cmp ek) (keys_of m) → IsPermutation m es → IsSortedBy (λ x y. is_lt (key_cmp ek x.0 y.0)) es → es ≡ m
  sorted_is m es so moved up =
      same_sorted es m
      (rises es
      (λ i j d h k. apart_from_distinct (eq_by_cmp (key_cmp ek)) (keys_of es) i j d
      (IsDistinct-IsPermutation (eq_by_cmp (key_cmp ek)) (λ x y. (equivalence ek).symm x y) (keys_of m) (keys_of es) (IsPermutation-map (λ (p : K × V). p.0) m es moved) (IsDistinct-from_sorted (key_cmp ek) (keys_of m) so)) h k)
      up)
      so
      (λ e h. Contains-permutation es m e (IsPermutation-sym m es moved) h)
      (λ e h. Contains-permutation m es e moved h)

-- ---- the buckets together

filter_filter : {X : Type 0} (p q r : X → Bool) → ((x : X) → (q x && p x) ≡ r x) → (xs : List X) → filter p (filter q xs) ≡ filter r xs
filter_filter {X = X} p q r is [] = refl
filter_filter {X = X} p q r is (x ∷ xs) = go (filter_filter p q r is xs) (q x) (p x) refl refl (is x)
  where
    go : filter p (filter q xs) ≡ filter r xs → (a b : Bool) → q x ≡ a → p x ≡ b → (q x && p x) ≡ r x → filter p (cond a (x ∷ filter q xs) (filter q xs)) ≡ cond (r x) (x ∷ filter r xs) (filter r xs)
    go next true true f g h = let i : r x ≡ true = cc in rw (g, i) (ap (λ (z : List X). x ∷ z) next)
    go next true false f g h = let i : r x ≡ false = cc in rw (g, i) next
    go next false b f g h = let i : r x ≡ false = cc in rw i next

filter_all : {X : Type 0} (p : X → Bool) → ((x : X) → p x ≡ true) → (xs : List X) → filter p xs ≡ xs
filter_all p all [] = refl
filter_all {X = X} p all (x ∷ xs) = rw (all x) (ap (λ (z : List X). x ∷ z) (filter_all p all xs))

filter_none : {X : Type 0} (p : X → Bool) → ((x : X) → p x ≡ false) → (xs : List X) → filter p xs ≡ []
filter_none p none [] = refl
filter_none p none (x ∷ xs) = rw (none x) (filter_none p none xs)

lower : (x n : ℕ) → (ltb x (n + 1) && ltb x n) ≡ ltb x n
lower x n = grind (arith, nat_tests)

upper : (x n : ℕ) → (ltb x (n + 1) && not (ltb x n)) ≡ (x == n)
upper x n = grind (arith, nat_tests)

module _ {K V : Type 0} (ek : K → List ℕ) (buckets : ℕ) (m : List (K × V)) where
  more_below : (n : ℕ) → IsPermutation (filter (λ e. ltb (bucket ek buckets e.0) (n + 1)) m) (filter (λ e. ltb (bucket ek buckets e.0) n) m ++ at_bucket ek buckets n m)
  more_below n =
      let xs = filter (λ e. ltb (bucket ek buckets e.0) (n + 1)) m in
      let moved = IsPermutation-filter_both (λ e. ltb (bucket ek buckets e.0) n) (λ e. not (ltb (bucket ek buckets e.0) n)) (λ e. refl) xs in
      let one = filter_filter (λ e. ltb (bucket ek buckets e.0) n) (λ e. ltb (bucket ek buckets e.0) (n + 1)) (λ e. ltb (bucket ek buckets e.0) n) (λ e. lower (bucket ek buckets e.0) n) m in
      let other = filter_filter (λ e. not (ltb (bucket ek buckets e.0) n)) (λ e. ltb (bucket ek buckets e.0) (n + 1)) (λ e. bucket ek buckets e.0 == n) (λ e. upper (bucket ek buckets e.0) n) m in
      subst (λ (z : List (K × V)). IsPermutation xs z) (ap (λ (z : List (K × V)). z ++ filter (λ e. not (ltb (bucket ek buckets e.0) n)) xs) one ∙ ap (λ (z : List (K × V)). filter (λ e. ltb (bucket ek buckets e.0) n) m ++ z) other) moved

  joined_below : (n : ℕ) → IsPermutation (filter (λ e. ltb (bucket ek buckets e.0) n) m) (joined (λ b. at_bucket ek buckets b m) n)
  joined_below zero = subst (λ (z : List (K × V)). IsPermutation z []) (sym (filter_none (λ e. ltb (bucket ek buckets e.0) 0) (λ e. grind (arith, nat_tests)) m)) (IsPermutation-refl [])
  joined_below (suc n) =
      subst (λ i. IsPermutation (filter (λ e. ltb (bucket ek buckets e.0) i) m) (joined (λ b. at_bucket ek buckets b m) n ++ at_bucket ek buckets n m)) (let e : n + 1 ≡ suc n = omega arith in e)
      (IsPermutation-trans _ _ _ (more_below n) (IsPermutation-append_left (at_bucket ek buckets n m) _ _ (joined_below n)))

  -- each pair is in one of the buckets
  pub joined_is : 0 < buckets → IsPermutation m (joined (λ b. at_bucket ek buckets b m) buckets)
  joined_is some =
      subst (λ (z : List (K × V)). IsPermutation z (joined (λ b. at_bucket ek buckets b m) buckets)) (filter_all (λ e. ltb (bucket ek buckets e.0) buckets) (λ e. let h : bucket ek buckets e.0 < buckets = omega arith in grind (arith, nat_tests)) m)
      (joined_below buckets)

-- ---- part after part

pub joined_more : {X : Type 0} (part : ℕ → List X) (n : ℕ) → joined part (n + 1) ≡ joined part n ++ part n
joined_more part n = ap (λ i. joined part i) (let e : n + 1 ≡ suc n = omega arith in e)

joined_same : {X : Type 0} (f g : ℕ → List X) (n : ℕ) → ((b : ℕ) → b < n → f b ≡ g b) → joined f n ≡ joined g n
joined_same f g zero same = refl
joined_same {X = X} f g (suc n) same =
    ap (λ (z : List X). z ++ f n) (joined_same f g n (λ b h. same b (omega arith))) ∙ ap (λ (z : List X). joined g n ++ z) (same n (omega arith))

module _ {K V : Type 0} (ek : K → List ℕ) where
  lent_sorted : (refs : List (Bor (K × V))) → IsSortedBy (λ x y. is_lt (key_cmp ek x.now.0 y.now.0)) refs → IsSortedBy (λ x y. is_lt (key_cmp ek x.0 y.0)) (map (λ r. r.now) refs)
  lent_sorted [] up k d low h = absurd (omega arith)
  lent_sorted (r ∷ refs) up k d low h =
      let long : length (map (λ (x : Bor (K × V)). x.now) (r ∷ refs)) ≡ length (r ∷ refs) = length-map (r ∷ refs) (λ (x : Bor (K × V)). x.now) in
      let i : k < length (r ∷ refs) = omega arith in
      let j : k + 1 < length (r ∷ refs) = omega arith in
      let a = get_or-map (λ (x : Bor (K × V)). x.now) (r ∷ refs) k r d i in
      let b = get_or-map (λ (x : Bor (K × V)). x.now) (r ∷ refs) (k + 1) r d j in
      ap (λ (z : K × V). is_lt (key_cmp ek z.0 (get_or (map (λ (x : Bor (K × V)). x.now) (r ∷ refs)) k d).0)) b
      ∙ (ap (λ (z : K × V). is_lt (key_cmp ek (get_or (r ∷ refs) (k + 1) r).now.0 z.0)) a ∙ up k r low j)

  -- the pairs of all buckets, sorted by key, are those of the map
  pub gathered_is : (part : ℕ → List (K × V)) (buckets : ℕ) (m : List (K × V)) (refs ordered : List (Bor (K × V))) → 0 < buckets → ((b : ℕ) → b < buckets → part b ≡ at_bucket ek buckets b m)
      → IsStrictlySortedBy (key_cmp ek) (keys_of m) → map (λ r. r.now) refs ≡ joined part buckets → IsPermutation refs ordered
      → IsSortedBy (λ x y. is_lt (key_cmp ek x.now.0 y.now.0)) ordered → map (λ r. r.now) ordered ≡ m
  gathered_is part buckets m refs ordered some parts so all moved up =
      let whole : map (λ r. r.now) refs ≡ joined (λ b. at_bucket ek buckets b m) buckets = all ∙ joined_same part (λ b. at_bucket ek buckets b m) buckets parts in
      let one : IsPermutation m (map (λ r. r.now) refs) = subst (λ (z : List (K × V)). IsPermutation m z) (sym whole) (joined_is ek buckets m some) in
      sorted_is ek m (map (λ r. r.now) ordered) so (IsPermutation-trans _ _ _ one (IsPermutation-map (λ (r : Bor (K × V)). r.now) refs ordered moved)) (lent_sorted ordered up)
