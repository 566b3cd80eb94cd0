-- Pairs in rising order of their keys' bytes: where a key is among them, and what is left of the order after a change.
use Rattle.std.proofs.Common.{◌≡◌, ℕ, ◌≤◌, Bool, true, false, cond, List, [], ◌∷◌, ◌++◌, Some, None, length, refl, ap, ◌∙◌, arith}
use Rattle.std.proofs.lemmas.List.Kept.{IsStrictlySortedBy-filter}
use Rattle.std.proofs.lemmas.Map.Keys.{sorted_head, sorted_tail}
use Rattle.std.specs.List.{AllByRecursion, filter}
use Rattle.std.specs.List.Sorted.{IsStrictlySortedBy}
use Rattle.std.specs.Map.{keys_of, lookup}
use Rattle.std.specs.BTreeMap.{insert_entry, is_at}
use Rattle.std.specs.Ordering.{match_ordering, ordering_reverse}
use Rattle.std.specs.Cmp.{IsTotalOrder}
use Rattle.std.specs.Cmp.Lexicographic.{on_texts}
use Rattle.std.specs.declared.cmp.Ordering.{Ordering}
use Rattle.std.specs.declared.cmp.Ordering.TheVariants.{Less, Equal, Greater}
use Rattle.far_object.specs.Buckets.{key_cmp}
use Rattle.far_object.specs.Objects.{cut}

module _ {K : Type 0} (ek : K → List ℕ) where
  pub total : IsTotalOrder (key_cmp ek)
  total = on_texts ek

  -- what is below a key is below all that are above it
  pub all_above : (k q : K) (ks : List K) → key_cmp ek k q ≡ Less → AllByRecursion (λ y. key_cmp ek q y ≡ Less) ks → AllByRecursion (λ y. key_cmp ek k y ≡ Less) ks
  all_above k q [] h a = tt
  all_above k q (y ∷ ks) h a = (total.trans k q y h a.0, all_above k q ks h a.1)

  all_same : (k q : K) (ks : List K) → key_cmp ek k q ≡ Equal → AllByRecursion (λ y. key_cmp ek q y ≡ Less) ks → AllByRecursion (λ y. key_cmp ek k y ≡ Less) ks
  all_same k q [] h a = tt
  all_same k q (y ∷ ks) h a = (total.congr k q y h ∙ a.0, all_same k q ks h a.1)

-- ---- where a key is

module _ {K V : Type 0} (ek : K → List ℕ) where
  cut_above : (k : K) (es : List (K × V)) → AllByRecursion (λ y. key_cmp ek k y ≡ Less) (keys_of es) → cut (key_cmp ek) k es ≡ es
  cut_above k [] a = refl
  cut_above k (e ∷ es) a = rw a.0 (ap (λ (z : List (K × V)). e ∷ z) (cut_above k es a.1))

  lookup_above : (k : K) (es : List (K × V)) → AllByRecursion (λ y. key_cmp ek k y ≡ Less) (keys_of es) → lookup (is_at (key_cmp ek k)) es ≡ None
  lookup_above k [] a = refl
  lookup_above k (e ∷ es) a = rw a.0 (lookup_above k es a.1)

  -- the pair of the key k would go between these
  pub record GapBetween (k : K) (before after es : List (K × V)) : Type 0 where
    pub es_is : es ≡ before ++ after
    pub put_is : (v : V) → insert_entry (key_cmp ek) es k v ≡ before ++ (k, v) ∷ after
    pub cut_is : IsStrictlySortedBy (key_cmp ek) (keys_of es) → cut (key_cmp ek) k es ≡ es
    pub none_is : IsStrictlySortedBy (key_cmp ek) (keys_of es) → lookup (is_at (key_cmp ek k)) es ≡ None

  pub gap_none : (k : K) → GapBetween k [] [] []
  gap_none k = record { es_is = refl; put_is = λ v. refl; cut_is = λ so. refl; none_is = λ so. refl }

  pub gap_first : (k : K) (e : K × V) (es : List (K × V)) → key_cmp ek k e.0 ≡ Less → GapBetween k [] (e ∷ es) (e ∷ es)
  gap_first k e es is = record {
    es_is = refl;
    put_is = λ v. rw is refl;
    cut_is = λ so. cut_above k (e ∷ es) (is, all_above ek k e.0 (keys_of es) is (sorted_head _ _ _ so));
    none_is = λ so. lookup_above k (e ∷ es) (is, all_above ek k e.0 (keys_of es) is (sorted_head _ _ _ so));
  }

  pub gap_later : (k : K) (e : K × V) (before after es : List (K × V)) → key_cmp ek k e.0 ≡ Greater → GapBetween k before after es → GapBetween k (e ∷ before) after (e ∷ es)
  gap_later k e before after es is later = record {
    es_is = ap (λ (z : List (K × V)). e ∷ z) later.es_is;
    put_is = λ v. rw is (ap (λ (z : List (K × V)). e ∷ z) (later.put_is v));
    cut_is = λ so. rw is (ap (λ (z : List (K × V)). e ∷ z) (later.cut_is (sorted_tail _ _ _ so)));
    none_is = λ so. rw is (later.none_is (sorted_tail _ _ _ so));
  }

  -- it stands between these
  pub record HereBetween (k : K) (before : List (K × V)) (pair : K × V) (after es : List (K × V)) : Type 0 where
    pub es_is : es ≡ before ++ pair ∷ after
    pub same : key_cmp ek k pair.0 ≡ Equal
    pub put_is : (v : V) → insert_entry (key_cmp ek) es k v ≡ before ++ (pair.0, v) ∷ after
    pub cut_is : IsStrictlySortedBy (key_cmp ek) (keys_of es) → cut (key_cmp ek) k es ≡ before ++ after
    pub found_is : lookup (is_at (key_cmp ek k)) es ≡ Some pair.1

  pub here_first : (k : K) (e : K × V) (es : List (K × V)) → key_cmp ek k e.0 ≡ Equal → HereBetween k [] e es (e ∷ es)
  here_first k e es is = record {
    es_is = refl;
    same = is;
    put_is = λ v. rw is refl;
    cut_is = λ so. rw is (cut_above k es (all_same ek k e.0 (keys_of es) is (sorted_head _ _ _ so)));
    found_is = rw is refl;
  }

  pub here_later : (k : K) (e : K × V) (before : List (K × V)) (pair : K × V) (after es : List (K × V)) → key_cmp ek k e.0 ≡ Greater
      → HereBetween k before pair after es → HereBetween k (e ∷ before) pair after (e ∷ es)
  here_later k e before pair after es is later = record {
    es_is = ap (λ (z : List (K × V)). e ∷ z) later.es_is;
    same = later.same;
    put_is = λ v. rw is (ap (λ (z : List (K × V)). e ∷ z) (later.put_is v));
    cut_is = λ so. rw is (ap (λ (z : List (K × V)). e ∷ z) (later.cut_is (sorted_tail _ _ _ so)));
    found_is = rw is later.found_is;
  }

-- ---- after a change

module _ {K V : Type 0} (ek : K → List ℕ) where
  all_insert : (P : K → Type 0) (k : K) (v : V) (es : List (K × V)) → P k → AllByRecursion P (keys_of es) → AllByRecursion P (keys_of (insert_entry (key_cmp ek) es k v))
  all_insert P k v [] p a = (p, tt)
  all_insert P k v (e ∷ es) p a = go (all_insert P k v es p a.1) (key_cmp ek k e.0)
    where
      go : AllByRecursion P (keys_of (insert_entry (key_cmp ek) es k v)) → (o : Ordering) → AllByRecursion P (keys_of (match_ordering o ((k, v) ∷ e ∷ es) ((e.0, v) ∷ es) (e ∷ insert_entry (key_cmp ek) es k v)))
      go next Less = (p, (a.0, a.1))
      go next Equal = (a.0, a.1)
      go next Greater = (a.0, next)

  pub rising_insert : (k : K) (v : V) (es : List (K × V)) → IsStrictlySortedBy (key_cmp ek) (keys_of es) → IsStrictlySortedBy (key_cmp ek) (keys_of (insert_entry (key_cmp ek) es k v))
  unfolding IsStrictlySortedBy
  rising_insert k v [] so = (tt, tt)
  rising_insert k v (e ∷ es) so = go (rising_insert k v es so.1) (key_cmp ek k e.0) refl
    where
      go : IsStrictlySortedBy (key_cmp ek) (keys_of (insert_entry (key_cmp ek) es k v)) → (o : Ordering) → key_cmp ek k e.0 ≡ o
          → IsStrictlySortedBy (key_cmp ek) (keys_of (match_ordering o ((k, v) ∷ e ∷ es) ((e.0, v) ∷ es) (e ∷ insert_entry (key_cmp ek) es k v)))
      go next Less is = ((is, all_above ek k e.0 (keys_of es) is so.0), so)
      go next Equal is = so
      go next Greater is = (all_insert (λ y. key_cmp ek e.0 y ≡ Less) k v es ((total ek).antisymm e.0 k ∙ ap ordering_reverse is) so.0, next)

  -- a pair that is put takes no other away
  pub long_insert : (k : K) (v : V) (es : List (K × V)) → length es ≤ length (insert_entry (key_cmp ek) es k v)
  long_insert k v [] = omega arith
  long_insert k v (e ∷ es) = go (long_insert k v es) (key_cmp ek k e.0)
    where
      go : length es ≤ length (insert_entry (key_cmp ek) es k v) → (o : Ordering) → length (e ∷ es) ≤ length (match_ordering o ((k, v) ∷ e ∷ es) ((e.0, v) ∷ es) (e ∷ insert_entry (key_cmp ek) es k v))
      go next Less = omega arith
      go next Equal = omega arith
      go next Greater = omega arith

  keys_filter : (t : K → Bool) (es : List (K × V)) → keys_of (filter (λ e. t e.0) es) ≡ filter t (keys_of es)
  keys_filter t [] = refl
  keys_filter t (e ∷ es) = go (keys_filter t es) (t e.0)
    where
      go : keys_of (filter (λ e. t e.0) es) ≡ filter t (keys_of es) → (b : Bool) → keys_of (cond b (e ∷ filter (λ e. t e.0) es) (filter (λ e. t e.0) es)) ≡ cond b (e.0 ∷ filter t (keys_of es)) (filter t (keys_of es))
      go next true = ap (λ (z : List K). e.0 ∷ z) next
      go next false = next

  pub rising_filter : (t : K → Bool) (es : List (K × V)) → IsStrictlySortedBy (key_cmp ek) (keys_of es) → IsStrictlySortedBy (key_cmp ek) (keys_of (filter (λ e. t e.0) es))
  rising_filter t es so = rw (keys_filter t es) (IsStrictlySortedBy-filter (key_cmp ek) t (keys_of es) so)
