-- The place of a value, and the pairs after a change.
use Rattle.std.proofs.Common.{◌≡◌, ℕ, ◌+◌, ◌-◌, List, [], ◌∷◌, ◌++◌, length, drop, take, refl, ap, sym, ◌∙◌, arith, append_assoc, length-append}
use Rattle.std.specs.Prelude.{Option, Some, None, if◌then◌else◌}
use Rattle.std.specs.Int.{w32, to_be_bytes}
use Rattle.std.specs.List.{AllByRecursion}
use Rattle.std.specs.declared.cmp.Ordering.{Ordering}
use Rattle.std.specs.declared.cmp.Ordering.TheVariants.{Less, Equal, Greater}
use Rattle.std.specs.declared.ops.Range.{Range}
use Rattle.std.specs.Ordering.{match_ordering, is_eq}
use Rattle.std.specs.Map.{keys_of}
use Rattle.std.specs.List.Sorted.{IsStrictlySortedBy}
use Rattle.std.proofs.lemmas.Map.Keys.{sorted_head, sorted_tail}
use Rattle.std.proofs.lemmas.List.{drop_at, take_at}
use Rattle.far_object.specs.declared.object.locate.Spot.{Spot}
use Rattle.far_object.specs.declared.object.locate.Spot.TheVariants.{Gap, Here}
use Rattle.far_object.specs.Objects.{body_of, object_of, value_place_from, IsValueAt}
use Rattle.far_object.specs.Spots.{spot_from}
use Rattle.far_object.specs.Buckets.{key_cmp}
use Rattle.far_object.proofs.Rising.{all_above}
use Rattle.far_object.proofs.Spots.{body-append, HereSplit, here_split}

abbrev pub place_in : Spot → Option (Range ℕ)
place_in (Gap p) = None
place_in (Here p q r) = Some (record { start = q; end = r })

module _ {K V : Type 0} (ek : K → List ℕ) (ev : V → List ℕ) where
  none_above : (k : K) (at : ℕ) (es : List (K × V)) → AllByRecursion (λ y. key_cmp ek k y ≡ Less) (keys_of es) → None ≡ value_place_from ek ev k at es
  none_above k at [] a = refl
  none_above k at (e ∷ es) a = rw a.0 (none_above k (at + length (ek e.0) + length (ev e.1)) es a.1)

  pub place_is : (k : K) (at : ℕ) (es : List (K × V)) → IsStrictlySortedBy (key_cmp ek) (keys_of es) → place_in (spot_from ek ev k at es) ≡ value_place_from ek ev k at es
  place_is k at [] so = refl
  place_is k at (e ∷ es) so = go (place_is k (at + length (ek e.0) + length (ev e.1)) es (sorted_tail _ _ _ so)) (key_cmp ek k e.0) refl
    where
      go : place_in (spot_from ek ev k (at + length (ek e.0) + length (ev e.1)) es) ≡ value_place_from ek ev k (at + length (ek e.0) + length (ev e.1)) es
          → (o : Ordering) → key_cmp ek k e.0 ≡ o
          → place_in (match_ordering o (Gap at) (Here at (at + length (ek e.0)) (at + length (ek e.0) + length (ev e.1))) (spot_from ek ev k (at + length (ek e.0) + length (ev e.1)) es))
          ≡ (if is_eq o then Some (record { start = at + length (ek e.0); end = at + length (ek e.0) + length (ev e.1) }) else value_place_from ek ev k (at + length (ek e.0) + length (ev e.1)) es)
      go next Less is = none_above k (at + length (ek e.0) + length (ev e.1)) es (all_above ek k e.0 (keys_of es) is (sorted_head _ _ _ so))
      go next Equal is = refl
      go next Greater is = next

  -- an object at a pair
  object_here : (k : K) (p q r : ℕ) (es : List (K × V)) (h : HereSplit ek ev k 4 p q r es) → object_of ek ev es ≡ (to_be_bytes w32 (length es) ++ body_of ek ev h.before) ++ (ek h.pair.0 ++ (ev h.pair.1 ++ body_of ek ev h.after))
  object_here k p q r es h =
      ap (λ z. to_be_bytes w32 (length es) ++ z) (ap (λ (z : List (K × V)). body_of ek ev z) h.between.es_is ∙ body-append ek ev h.before (h.pair ∷ h.after))

  pub value_stands : (k : K) (p q r : ℕ) (es : List (K × V)) → spot_from ek ev k 4 es ≡ Here p q r → IsValueAt ek ev k es (record { start = q; end = r })
  value_stands k p q r es e =
      let h = here_split ek ev k 4 p q r es e in
      let front = to_be_bytes w32 (length es) ++ body_of ek ev h.before in
      let tail = body_of ek ev h.after in
      let o = object_here k p q r es h in
      let a = h.at_is in
      let b = h.mid_is in
      let c = h.end_is in
      let l = length-append front (ek h.pair.0) in
      let n = ap length o in
      let m = length-append front (ek h.pair.0 ++ (ev h.pair.1 ++ tail)) in
      let m2 = length-append (ek h.pair.0) (ev h.pair.1 ++ tail) in
      let m3 = length-append (ev h.pair.1) tail in
      let lq : length (front ++ ek h.pair.0) ≡ q = omega arith in
      let d : drop q (object_of ek ev es) ≡ ev h.pair.1 ++ tail =
      ap (λ z. drop q z) (o ∙ sym (append_assoc front (ek h.pair.0) (ev h.pair.1 ++ tail))) ∙ drop_at (front ++ ek h.pair.0) (ev h.pair.1 ++ tail) q lq in
      record {
        value = h.pair.1;
        is = h.between.found_is;
        starts = omega arith;
        ends = omega arith;
        bytes = ap (λ z. take (r - q) z) d ∙ take_at (ev h.pair.1) tail (r - q) (omega arith);
      }
