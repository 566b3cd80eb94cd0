-- The map of a history at one key.
use Rattle.std.proofs.Common.{◌≡◌, ℕ, Bool, true, false, not, cond, List, [], ◌∷◌, Option, Some, None, refl, ap, sym, ◌∙◌}
use Rattle.std.proofs.lemmas.Map.Entries.{lookup-filter-keys}
use Rattle.std.specs.List.{fold}
use Rattle.std.specs.List.Sorted.{IsStrictlySortedBy}
use Rattle.std.specs.Map.{keys_of, lookup}
use Rattle.std.specs.BTreeMap.{insert_entry, is_at}
use Rattle.std.specs.Ordering.{is_eq, eq_by_cmp, match_ordering}
use Rattle.std.specs.Cmp.{IsEquivalence}
use Rattle.std.specs.declared.cmp.Ordering.{Ordering}
use Rattle.std.specs.declared.cmp.Ordering.TheVariants.{Less, Equal, Greater}
use Rattle.far_object.specs.Buckets.{key_cmp}
use Rattle.table_core.specs.declared.operation.Operation.{Operation}
use Rattle.table_core.specs.declared.operation.Operation.TheVariants.{Put, Get, Remove, PutIf}
use Rattle.table_core.specs.Maps.{key_of, value_at, is_met, after, map_of, of_key, leaves, last_left}
use Rattle.table_core.proofs.Maps.{equivalence, rising_after}

module _ {K V : Type 0} (R : K → K → Ordering) (laws : IsEquivalence (eq_by_cmp R)) where
  pub lookup_insert : (q k : K) (v : V) (es : List (K × V)) → lookup (is_at (R q)) (insert_entry R es k v) ≡ cond (eq_by_cmp R k q) (Some v) (lookup (is_at (R q)) es)
  lookup_insert q k v [] = ap (λ (b : Bool). cond b (Some v) None) (laws.symm q k)
  lookup_insert q k v (e ∷ es) = by (R k e.0) refl (lookup_insert q k v es)
    where
      two : (a c : Bool) → (c ≡ true → a ≡ true → ⊥) → (x y z : Option V) → cond a x (cond c y z) ≡ cond c y (cond a x z)
      two true true never x y z = absurd (never refl refl)
      two true false never x y z = refl
      two false true never x y z = refl
      two false false never x y z = refl

      same : (a c : Bool) → c ≡ a → (x y z : Option V) → cond a y z ≡ cond c y (cond a x z)
      same true c h x y z = rw h refl
      same false c h x y z = rw h refl

      by : (o : Ordering) → R k e.0 ≡ o → lookup (is_at (R q)) (insert_entry R es k v) ≡ cond (eq_by_cmp R k q) (Some v) (lookup (is_at (R q)) es)
          → lookup (is_at (R q)) (match_ordering o ((k, v) ∷ e ∷ es) ((e.0, v) ∷ es) (e ∷ insert_entry R es k v)) ≡ cond (eq_by_cmp R k q) (Some v) (lookup (is_at (R q)) (e ∷ es))
      by Less is rest = ap (λ (b : Bool). cond b (Some v) (lookup (is_at (R q)) (e ∷ es))) (laws.symm q k)
      by Equal is rest =
          let equal : eq_by_cmp R k e.0 ≡ true = ap is_eq is in
          same (eq_by_cmp R q e.0) (eq_by_cmp R k q) (laws.congr k e.0 q equal ∙ laws.symm e.0 q) (Some e.1) (Some v) (lookup (is_at (R q)) es)
      by Greater is rest =
          let apart : eq_by_cmp R k e.0 ≡ false = ap is_eq is in
          ap (λ (o : Option V). cond (eq_by_cmp R q e.0) (Some e.1) o) rest
          ∙ two (eq_by_cmp R q e.0) (eq_by_cmp R k q) (λ c a. cc (laws.congr k q e.0 c, c, a, apart)) (Some e.1) (Some v) (lookup (is_at (R q)) es)

  -- keys that are equal have one value
  pub lookup_same : (q k : K) (es : List (K × V)) → eq_by_cmp R q k ≡ true → lookup (is_at (R k)) es ≡ lookup (is_at (R q)) es
  lookup_same q k [] h = refl
  lookup_same q k (e ∷ es) h = rw (laws.congr q k e.0 h) (ap (λ (o : Option V). cond (eq_by_cmp R k e.0) (Some e.1) o) (lookup_same q k es h))

module _ {K V : Type 0} (ek : K → List ℕ) (ev : V → List ℕ) where
  -- an operation on this key leaves there what it leaves, and one on another key nothing else
  pub value_after : (q : K) (op : Operation K V) (m : List (K × V))
      → value_at ek q (after ek ev m op) ≡ cond (is_at (key_cmp ek q) (key_of op)) (leaves ev (value_at ek q m) op) (value_at ek q m)
  value_after q (Put k v) m = lookup_insert (key_cmp ek) (equivalence ek) q k v m ∙ ap (λ (c : Bool). cond c (Some v) (value_at ek q m)) ((equivalence ek).symm k q)
  value_after q (Get k) m = same (is_at (key_cmp ek q) k)
    where
      same : (c : Bool) → value_at ek q m ≡ cond c (value_at ek q m) (value_at ek q m)
      same true = refl
      same false = refl
  value_after q (Remove k) m =
      lookup-filter-keys (is_at (key_cmp ek q)) (λ x. not (is_at (key_cmp ek k) x)) (not (eq_by_cmp (key_cmp ek) q k)) (λ x at. ap not (let l = equivalence ek in l.symm k x ∙ (sym (l.congr q x k at)))) m
      ∙ turned (eq_by_cmp (key_cmp ek) q k) (value_at ek q m)
    where
      turned : (c : Bool) (o : Option V) → cond (not c) o None ≡ cond c None o
      turned true o = refl
      turned false o = refl
  value_after q (PutIf k e v) m = at (is_at (key_cmp ek q) k) refl (is_met ev e (value_at ek k m)) refl
    where
      put : value_at ek q (insert_entry (key_cmp ek) m k v) ≡ cond (is_at (key_cmp ek q) k) (Some v) (value_at ek q m)
      put = lookup_insert (key_cmp ek) (equivalence ek) q k v m ∙ ap (λ (c : Bool). cond c (Some v) (value_at ek q m)) ((equivalence ek).symm k q)

      at : (c : Bool) → is_at (key_cmp ek q) k ≡ c → (met : Bool) → is_met ev e (value_at ek k m) ≡ met
          → value_at ek q (cond met (insert_entry (key_cmp ek) m k v) m) ≡ cond c (cond (is_met ev e (value_at ek q m)) (Some v) (value_at ek q m)) (value_at ek q m)
      at true is met m_is =
          let one = lookup_same (key_cmp ek) (equivalence ek) q k m is in
          let met_is : is_met ev e (value_at ek q m) ≡ met = ap (λ (o : Option V). is_met ev e o) (sym one) ∙ m_is in
          rw met_is (go met)
        where
          go : (c : Bool) → value_at ek q (cond c (insert_entry (key_cmp ek) m k v) m) ≡ cond c (Some v) (value_at ek q m)
          go true = put ∙ ap (λ (c : Bool). cond c (Some v) (value_at ek q m)) is
          go false = refl
      at false is true m_is = put ∙ ap (λ (c : Bool). cond c (Some v) (value_at ek q m)) is
      at false is false m_is = refl

  pub rising_from : (calls : List (ℕ × Operation K V)) (m : List (K × V)) → IsStrictlySortedBy (key_cmp ek) (keys_of m)
      → IsStrictlySortedBy (key_cmp ek) (keys_of (fold (λ m call. after ek ev m call.1) m calls))
  rising_from [] m so = so
  rising_from (c ∷ calls) m so = rising_from calls (after ek ev m c.1) (rising_after ek ev c.1 m so)

  pub rising : (calls : List (ℕ × Operation K V)) → IsStrictlySortedBy (key_cmp ek) (keys_of (map_of ek ev calls))
  unfolding IsStrictlySortedBy
  rising calls = rising_from calls [] tt

  stands_from : (q : K) (calls : List (ℕ × Operation K V)) (m : List (K × V))
      → value_at ek q (fold (λ m call. after ek ev m call.1) m calls) ≡ fold (λ now call. leaves ev now call.1) (value_at ek q m) (of_key ek q calls)
  stands_from q [] m = refl
  stands_from q (c ∷ calls) m = stands_from q calls (after ek ev m c.1) ∙ (ap (λ (o : Option V). fold (λ now call. leaves ev now call.1) o (of_key ek q calls)) (value_after q c.1 m) ∙ go (is_at (key_cmp ek q) (key_of c.1)))
    where
      go : (b : Bool) → fold (λ now call. leaves ev now call.1) (cond b (leaves ev (value_at ek q m) c.1) (value_at ek q m)) (of_key ek q calls)
          ≡ fold (λ now call. leaves ev now call.1) (value_at ek q m) (cond b (c ∷ of_key ek q calls) (of_key ek q calls))
      go true = refl
      go false = refl

  -- the value of a key is what the last of its operations which wrote it left there
  pub stands : (q : K) (calls : List (ℕ × Operation K V)) → value_at ek q (map_of ek ev calls) ≡ last_left ev (of_key ek q calls)
  stands q calls = stands_from q calls []
