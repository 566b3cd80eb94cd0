-- An object's bytes have no fault.
use Rattle.std.proofs.Common.{◌≡◌, ℕ, ◌≤◌, List, [], ◌∷◌, ◌++◌, Bool, true, false, length, refl, ap, ◌∙◌, arith}
use Rattle.std.proofs.lemmas.List.{drop_at}
use Rattle.std.proofs.lemmas.Nat.{from_be_bytes-to_be_bytes_4}
use Rattle.std.proofs.lemmas.Bool.Decides.{nat_tests}
use Rattle.std.proofs.lemmas.Map.Keys.{sorted_head, sorted_tail}
use Rattle.std.specs.Prelude.{Option, None, ◌||◌, ltb}
use Rattle.std.specs.List.{AllByRecursion}
use Rattle.std.specs.Map.{keys_of}
use Rattle.std.specs.declared.cmp.Ordering.TheVariants.{Less}
use Rattle.std.specs.Ordering.{nat_cmp, is_lt}
use Rattle.std.specs.Cmp.Lexicographic.{slice_cmp}
use Rattle.std.specs.List.Sorted.{IsStrictlySortedBy}
use Rattle.far_object.specs.Encodings.{FarLaws}
use Rattle.far_object.specs.Faults.{fault_in, fault_of}
use Rattle.far_object.specs.declared.fault.ObjectFault.{ObjectFault}
use Rattle.far_object.specs.Objects.{body_of, object_of, IsMap, most_pairs}
use Rattle.far_object.specs.Buckets.{key_cmp}

module _ {K V : Type 0} (ek : K → List ℕ) (ev : V → List ℕ) (dk : List ℕ → Option K) (dv : List ℕ → Option V) (AK : K → Type 0) (AV : V → Type 0) (lk : FarLaws ek dk AK) (lv : FarLaws ev dv AV) where
  may_follow : (first : Bool) (last key : List ℕ) → (first ≡ false → slice_cmp nat_cmp last key ≡ Less) → (first || is_lt (slice_cmp nat_cmp last key)) ≡ true
  may_follow true last key h = refl
  may_follow false last key h = ap is_lt (h refl)

  clear : (first : Bool) (last : List ℕ) (es : List (K × V)) → AllByRecursion (λ e. AK e.0 × AV e.1) es → IsStrictlySortedBy (key_cmp ek) (keys_of es) → (first ≡ false → AllByRecursion (λ y. slice_cmp nat_cmp last (ek y) ≡ Less) (keys_of es)) → fault_in ek ev dk dv (length es) first last (body_of ek ev es) ≡ None
  clear first last [] a s b = refl
  clear first last (e ∷ es) a s b =
      let more = body_of ek ev es in
      let k = lk.reads e.0 (ev e.1 ++ more) a.0.0 in
      let o = may_follow first last (ek e.0) (λ f. (b f).0) in
      let d = drop_at (ek e.0) (ev e.1 ++ more) (length (ek e.0)) refl in
      let v = lv.reads e.1 more a.0.1 in
      let d2 = drop_at (ev e.1) more (length (ev e.1)) refl in
      rw (k, o, d, v, d2) (clear false (ek e.0) es a.1 (sorted_tail _ _ _ s) (λ f. sorted_head _ _ _ s))

  pub complete : (es : List (K × V)) → IsMap ek AK AV es → fault_of ek ev dk dv (object_of ek ev es) ≡ None
  complete es m =
      let f = m.few in
      let n = from_be_bytes-to_be_bytes_4 (length es) (omega (arith, f)) in
      let s : ltb (length (object_of ek ev es)) 4 ≡ false = at_least (length (object_of ek ev es)) 4 (omega arith) in
      let c : ltb most_pairs (length es) ≡ false = at_least most_pairs (length es) f in
      rw (s, n, c) (clear true [] es m.admitted m.rising (λ g. cc))
    where
      at_least : (x y : ℕ) → y ≤ x → ltb x y ≡ false
      at_least x y h = grind (arith, nat_tests)

  pub never : (bytes : List ℕ) (es : List (K × V)) (f : Option ObjectFault) → bytes ≡ object_of ek ev es → IsMap ek AK AV es → f ≡ fault_of ek ev dk dv bytes → f ≡ None
  never bytes es f b m e = e ∙ (ap (λ z. fault_of ek ev dk dv z) b ∙ complete es m)
