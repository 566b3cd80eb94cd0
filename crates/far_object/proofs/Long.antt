-- How long an object is at least.
use Rattle.std.proofs.Common.{◌≡◌, ℕ, ◌+◌, ◌<◌, ◌≤◌, List, [], ◌∷◌, ◌++◌, length, ap, arith, length-append}
use Rattle.std.specs.List.{AllByRecursion}
use Rattle.std.specs.List.Sorted.{IsStrictlySortedBy}
use Rattle.std.specs.Map.{keys_of}
use Rattle.std.specs.BTreeMap.{insert_entry}
use Rattle.std.specs.Ordering.{nat_cmp}
use Rattle.std.specs.Cmp.Lexicographic.{slice_cmp}
use Rattle.std.specs.declared.cmp.Ordering.TheVariants.{Less}
use Rattle.far_object.specs.Buckets.{key_cmp}
use Rattle.far_object.specs.Objects.{body_of, object_of}
use Rattle.far_object.specs.Laws.{AreLong, GrowTooLong}
use Rattle.far_object.proofs.Rising.{rising_insert, long_insert}

-- what is above another list has an element
some_above : (xs ys : List ℕ) → slice_cmp nat_cmp xs ys ≡ Less → 0 < length ys
some_above [] [] is = absurd cc
some_above (x ∷ xs) [] is = absurd cc
some_above xs (y ∷ ys) is = omega arith

module _ {K V : Type 0} (ek : K → List ℕ) (ev : V → List ℕ) where
  abbrev AllSome : List K → Type 0
  AllSome ks = AllByRecursion (λ y. 0 < length (ek y)) ks

  all_some : (k : K) (ks : List K) → AllByRecursion (λ y. key_cmp ek k y ≡ Less) ks → AllSome ks
  all_some k [] all = tt
  all_some k (y ∷ ks) all = (some_above (ek k) (ek y) all.0, all_some k ks all.1)

  long_rest : (es : List (K × V)) → AllSome (keys_of es) → length es ≤ length (body_of ek ev es)
  long_rest [] all = omega arith
  long_rest (e ∷ es) all =
      let a = length-append (ek e.0) (ev e.1 ++ body_of ek ev es) in
      let b = length-append (ev e.1) (body_of ek ev es) in
      let first = all.0 in
      omega (arith, long_rest es all.1)

  -- each pair but the first takes a byte at least
  long_body : (es : List (K × V)) → IsStrictlySortedBy (key_cmp ek) (keys_of es) → length es ≤ length (body_of ek ev es) + 1
  unfolding IsStrictlySortedBy
  long_body [] so = omega arith
  long_body (e ∷ es) so =
      let a = length-append (ek e.0) (ev e.1 ++ body_of ek ev es) in
      let b = length-append (ev e.1) (body_of ek ev es) in
      omega (arith, long_rest es (all_some e.0 (keys_of es) so.0))

  pub are_long : AreLong ek ev
  are_long es so = let b = long_body es so in omega arith

  pub grow_too_long : GrowTooLong ek ev
  grow_too_long es k v so full =
      let a = long_insert ek k v es in
      let b = are_long (insert_entry (key_cmp ek) es k v) (rising_insert ek k v es so) in
      omega (arith, a, b, full)

  -- the same of bytes that are known to be an object's
  pub long_bytes : (es : List (K × V)) (bytes : List ℕ) → bytes ≡ object_of ek ev es → IsStrictlySortedBy (key_cmp ek) (keys_of es) → length es + 3 ≤ length bytes
  long_bytes es bytes is so = let l = ap length is in omega (arith, l, are_long es so)
