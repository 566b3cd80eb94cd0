-- Maps as sorted lists of pairs: one key, one bucket, and what operations do to them.
use Rattle.std.proofs.Common.{◌≡◌, ◌≢◌, ℕ, ◌%◌, ◌==◌, Bool, true, false, not, cond, List, [], ◌∷◌, refl, ap, sym, ◌∙◌, arith}
use Rattle.std.proofs.lemmas.Bool.Decides.{nat_tests}
use Rattle.std.proofs.lemmas.Map.Lookups.{exact_bytes}
use Rattle.std.proofs.lemmas.Map.Entries.{lookup-filter-keys}
use Rattle.std.proofs.lemmas.Map.Keys.{sorted_head, sorted_tail}
use Rattle.std.specs.List.{filter, AllByRecursion}
use Rattle.std.specs.List.Sorted.{IsStrictlySortedBy}
use Rattle.std.specs.Map.{keys_of}
use Rattle.std.specs.BTreeMap.{insert_entry, is_at}
use Rattle.std.specs.Ordering.{is_eq, eq_by_cmp, match_ordering}
use Rattle.std.specs.Cmp.{IsEquivalence, eq_by_cmp_equiv}
use Rattle.std.specs.declared.cmp.Ordering.{Ordering}
use Rattle.std.specs.declared.cmp.Ordering.TheVariants.{Less, Equal, Greater}
use Rattle.far_object.specs.Buckets.{key_cmp, bucket, hash_of}
use Rattle.far_object.specs.Objects.{cut}
use Rattle.far_object.proofs.Rising.{total, all_above, rising_insert, rising_filter}
use Rattle.table_core.specs.declared.operation.Operation.{Operation}
use Rattle.table_core.specs.declared.operation.Operation.TheVariants.{Put, Get, Remove, PutIf}
use Rattle.table_core.specs.Maps.{key_of, value_at, at_bucket, is_met, after}

module _ {K : Type 0} (ek : K → List ℕ) where
  pub equivalence : IsEquivalence (eq_by_cmp (key_cmp ek))
  equivalence = eq_by_cmp_equiv (total ek)

  -- keys that are written alike are in one bucket
  pub same_bucket : (buckets : ℕ) (x y : K) → key_cmp ek x y ≡ Equal → bucket ek buckets x ≡ bucket ek buckets y
  same_bucket buckets x y is = ap (λ (bytes : List ℕ). hash_of bytes % buckets) (exact_bytes (ek x) (ek y) is)

-- ---- sorted lists

module _ {K V : Type 0} (ek : K → List ℕ) where
  -- a new key below all goes first
  insert_first : (k : K) (v : V) (es : List (K × V)) → AllByRecursion (λ y. key_cmp ek k y ≡ Less) (keys_of es) → insert_entry (key_cmp ek) es k v ≡ (k, v) ∷ es
  insert_first k v [] a = refl
  insert_first k v (e ∷ es) a = rw a.0 refl

  all_filter_keys : (P : K → Type 0) (t : K → Bool) (es : List (K × V)) → AllByRecursion P (keys_of es) → AllByRecursion P (keys_of (filter (λ e. t e.0) es))
  all_filter_keys P t [] a = tt
  all_filter_keys P t (e ∷ es) a = go (all_filter_keys P t es a.1) (t e.0)
    where
      go : AllByRecursion P (keys_of (filter (λ e. t e.0) es)) → (b : Bool) → AllByRecursion P (keys_of (cond b (e ∷ filter (λ e. t e.0) es) (filter (λ e. t e.0) es)))
      go next true = (a.0, next)
      go next false = next

filter_swap : {X : Type 0} (p q : X → Bool) (xs : List X) → filter p (filter q xs) ≡ filter q (filter p xs)
filter_swap {X = X} p q [] = refl
filter_swap {X = X} p q (x ∷ xs) = go (filter_swap p q xs) (p x) refl (q x) refl
  where
    go : filter p (filter q xs) ≡ filter q (filter p xs) → (a : Bool) → p x ≡ a → (b : Bool) → q x ≡ b → filter p (cond b (x ∷ filter q xs) (filter q xs)) ≡ filter q (cond a (x ∷ filter p xs) (filter p xs))
    go next true a true b = rw (a, b) (ap (λ (z : List X). x ∷ z) next)
    go next true a false b = rw b next
    go next false a true b = rw a next
    go next false a false b = next

-- ---- one bucket of a map

module _ {K V : Type 0} (ek : K → List ℕ) (buckets : ℕ) where
  -- a key of the bucket goes to its place there
  pub insert_here : (b : ℕ) (k : K) (v : V) (es : List (K × V)) → bucket ek buckets k ≡ b → IsStrictlySortedBy (key_cmp ek) (keys_of es)
      → insert_entry (key_cmp ek) (at_bucket ek buckets b es) k v ≡ at_bucket ek buckets b (insert_entry (key_cmp ek) es k v)
  insert_here b k v [] here so = let is : (bucket ek buckets k == b) ≡ true = grind (arith, nat_tests) in rw is refl
  insert_here b k v (e ∷ es) here so = go (insert_here b k v es here (sorted_tail _ _ _ so)) (key_cmp ek k e.0) refl (bucket ek buckets e.0 == b) refl
    where
      is : (bucket ek buckets k == b) ≡ true
      is = grind (arith, nat_tests)

      go : insert_entry (key_cmp ek) (at_bucket ek buckets b es) k v ≡ at_bucket ek buckets b (insert_entry (key_cmp ek) es k v)
          → (o : Ordering) → key_cmp ek k e.0 ≡ o → (c : Bool) → (bucket ek buckets e.0 == b) ≡ c
          → insert_entry (key_cmp ek) (cond c (e ∷ at_bucket ek buckets b es) (at_bucket ek buckets b es)) k v ≡ at_bucket ek buckets b (match_ordering o ((k, v) ∷ e ∷ es) ((e.0, v) ∷ es) (e ∷ insert_entry (key_cmp ek) es k v))
      go next Less o true c = rw (o, is, c) refl
      go next Less o false c =
          rw (is, c) (insert_first ek k v (at_bucket ek buckets b es) (all_filter_keys ek (λ y. key_cmp ek k y ≡ Less) (λ y. bucket ek buckets y == b) es (all_above ek k e.0 (keys_of es) o (sorted_head _ _ _ so))))
      go next Equal o true c = rw (o, c) refl
      go next Equal o false c = let other : bucket ek buckets e.0 ≢ b = grind (arith, nat_tests) in absurd (other (sym (same_bucket ek buckets k e.0 o) ∙ here))
      go next Greater o true c = rw (o, c) (ap (λ (z : List (K × V)). e ∷ z) next)
      go next Greater o false c = rw c next

  -- a key of another bucket leaves this one alone
  pub insert_elsewhere : (b : ℕ) (k : K) (v : V) (es : List (K × V)) → bucket ek buckets k ≢ b
      → at_bucket ek buckets b (insert_entry (key_cmp ek) es k v) ≡ at_bucket ek buckets b es
  insert_elsewhere b k v [] other = let not_here : (bucket ek buckets k == b) ≡ false = grind (arith, nat_tests) in rw not_here refl
  insert_elsewhere b k v (e ∷ es) other = go (insert_elsewhere b k v es other) (key_cmp ek k e.0) refl
    where
      not_here : (bucket ek buckets k == b) ≡ false
      not_here = grind (arith, nat_tests)

      go : at_bucket ek buckets b (insert_entry (key_cmp ek) es k v) ≡ at_bucket ek buckets b es → (o : Ordering) → key_cmp ek k e.0 ≡ o
          → at_bucket ek buckets b (match_ordering o ((k, v) ∷ e ∷ es) ((e.0, v) ∷ es) (e ∷ insert_entry (key_cmp ek) es k v)) ≡ at_bucket ek buckets b (e ∷ es)
      go next Less o = rw not_here refl
      go next Equal o =
          let not_there : (bucket ek buckets e.0 == b) ≡ false = let apart : bucket ek buckets e.0 ≢ b = λ h. other (same_bucket ek buckets k e.0 o ∙ h) in grind (arith, nat_tests) in
          rw not_there refl
      go next Greater o = ap (λ (z : List (K × V)). cond (bucket ek buckets e.0 == b) (e ∷ z) z) next

  pub cut_here : (b : ℕ) (k : K) (es : List (K × V)) → cut (key_cmp ek) k (at_bucket ek buckets b es) ≡ at_bucket ek buckets b (cut (key_cmp ek) k es)
  cut_here b k es = filter_swap (λ e. not (is_at (key_cmp ek k) e.0)) (λ e. bucket ek buckets e.0 == b) es

  pub cut_elsewhere : (b : ℕ) (k : K) (es : List (K × V)) → bucket ek buckets k ≢ b → at_bucket ek buckets b (cut (key_cmp ek) k es) ≡ at_bucket ek buckets b es
  cut_elsewhere b k [] other = refl
  cut_elsewhere b k (e ∷ es) other = go (cut_elsewhere b k es other) (key_cmp ek k e.0) refl
    where
      go : at_bucket ek buckets b (cut (key_cmp ek) k es) ≡ at_bucket ek buckets b es → (o : Ordering) → key_cmp ek k e.0 ≡ o
          → at_bucket ek buckets b (cond (not (is_eq o)) (e ∷ cut (key_cmp ek) k es) (cut (key_cmp ek) k es)) ≡ at_bucket ek buckets b (e ∷ es)
      go next Less o = ap (λ (z : List (K × V)). cond (bucket ek buckets e.0 == b) (e ∷ z) z) next
      go next Equal o =
          let not_there : (bucket ek buckets e.0 == b) ≡ false = let apart : bucket ek buckets e.0 ≢ b = λ h. other (same_bucket ek buckets k e.0 o ∙ h) in grind (arith, nat_tests) in
          rw not_there next
      go next Greater o = ap (λ (z : List (K × V)). cond (bucket ek buckets e.0 == b) (e ∷ z) z) next

  -- a bucket has the values of its keys
  pub value_here : (b : ℕ) (k : K) (es : List (K × V)) → bucket ek buckets k ≡ b → value_at ek k (at_bucket ek buckets b es) ≡ value_at ek k es
  value_here b k es here =
      lookup-filter-keys (is_at (key_cmp ek k)) (λ x. bucket ek buckets x == b) true (λ x at. at_key x (key_cmp ek k x) refl at) es
    where
      at_key : (x : K) (o : Ordering) → key_cmp ek k x ≡ o → is_eq o ≡ true → (bucket ek buckets x == b) ≡ true
      at_key x Less is at = absurd cc
      at_key x Equal is at = let same : bucket ek buckets x ≡ b = sym (same_bucket ek buckets k x is) ∙ here in grind (arith, nat_tests)
      at_key x Greater is at = absurd cc

-- ---- an operation

module _ {K V : Type 0} (ek : K → List ℕ) (ev : V → List ℕ) where
  pub rising_after : (op : Operation K V) (m : List (K × V)) → IsStrictlySortedBy (key_cmp ek) (keys_of m) → IsStrictlySortedBy (key_cmp ek) (keys_of (after ek ev m op))
  rising_after (Put k v) m so = rising_insert ek k v m so
  rising_after (Get k) m so = so
  rising_after (Remove k) m so = rising_filter ek (λ x. not (is_at (key_cmp ek k) x)) m so
  rising_after (PutIf k e v) m so = go (is_met ev e (value_at ek k m))
    where
      go : (c : Bool) → IsStrictlySortedBy (key_cmp ek) (keys_of (cond c (insert_entry (key_cmp ek) m k v) m))
      go true = rising_insert ek k v m so
      go false = so

  -- an operation on a key of the bucket does there what it does to the map
  pub after_here : (buckets b : ℕ) (op : Operation K V) (m : List (K × V)) → bucket ek buckets (key_of op) ≡ b → IsStrictlySortedBy (key_cmp ek) (keys_of m)
      → after ek ev (at_bucket ek buckets b m) op ≡ at_bucket ek buckets b (after ek ev m op)
  after_here buckets b (Put k v) m here so = insert_here ek buckets b k v m here so
  after_here buckets b (Get k) m here so = refl
  after_here buckets b (Remove k) m here so = cut_here ek buckets b k m
  after_here buckets b (PutIf k e v) m here so = rw (value_here ek buckets b k m here) (go (is_met ev e (value_at ek k m)))
    where
      go : (c : Bool) → cond c (insert_entry (key_cmp ek) (at_bucket ek buckets b m) k v) (at_bucket ek buckets b m) ≡ at_bucket ek buckets b (cond c (insert_entry (key_cmp ek) m k v) m)
      go true = insert_here ek buckets b k v m here so
      go false = refl

  pub after_elsewhere : (buckets b : ℕ) (op : Operation K V) (m : List (K × V)) → bucket ek buckets (key_of op) ≢ b → at_bucket ek buckets b (after ek ev m op) ≡ at_bucket ek buckets b m
  after_elsewhere buckets b (Put k v) m other = insert_elsewhere ek buckets b k v m other
  after_elsewhere buckets b (Get k) m other = refl
  after_elsewhere buckets b (Remove k) m other = cut_elsewhere ek buckets b k m other
  after_elsewhere buckets b (PutIf k e v) m other = go (is_met ev e (value_at ek k m))
    where
      go : (c : Bool) → at_bucket ek buckets b (cond c (insert_entry (key_cmp ek) m k v) m) ≡ at_bucket ek buckets b m
      go true = insert_elsewhere ek buckets b k v m other
      go false = refl
