-- The value that is decoded at a key's place.
use Rattle.std.proofs.Common.{◌≡◌, ℕ, Bool, true, false, cond, List, [], ◌∷◌, Option, Some, ap, sym, ◌∙◌, subst}
use Rattle.std.proofs.lemmas.List.{append-nil}
use Rattle.std.specs.List.{AllByRecursion, between}
use Rattle.std.specs.Map.{lookup}
use Rattle.std.specs.BTreeMap.{is_at}
use Rattle.std.specs.declared.ops.Range.{Range}
use Rattle.far_object.specs.Buckets.{key_cmp}
use Rattle.far_object.specs.Encodings.{FarLaws}
use Rattle.far_object.specs.Objects.{object_of, IsMap, IsValueAt}

module _ {K V : Type 0} (ek : K → List ℕ) (ev : V → List ℕ) (dv : List ℕ → Option V) (AK : K → Type 0) (AV : V → Type 0) (laws : FarLaws ev dv AV) where
  found_admitted : (t : K → Bool) (es : List (K × V)) (v : V) → AllByRecursion (λ e. AK e.0 × AV e.1) es → lookup t es ≡ Some v → AV v
  found_admitted t [] v all is = absurd cc
  found_admitted t (e ∷ es) v all is = by (t e.0) is (λ later. found_admitted t es v all.1 later)
    where
      by : (c : Bool) → cond c (Some e.1) (lookup t es) ≡ Some v → (lookup t es ≡ Some v → AV v) → AV v
      by true is rest = let same : e.1 ≡ v = cc in subst AV same all.0.1
      by false is rest = rest is

  pub value_found : (k : K) (es : List (K × V)) (r : Range ℕ) (bytes : List ℕ) (x : V) → IsMap ek AK AV es → IsValueAt ek ev k es r → bytes ≡ object_of ek ev es → dv (between r.start r.end bytes) ≡ Some x
      → Some x ≡ lookup (is_at (key_cmp ek k)) es
  value_found k es r bytes x map at is read =
      let admits : AV at.value = found_admitted (is_at (key_cmp ek k)) es at.value map.admitted at.is in
      let whole : dv (ev at.value) ≡ Some at.value = ap dv (sym (append-nil (ev at.value))) ∙ laws.reads at.value [] admits in
      let here : between r.start r.end bytes ≡ ev at.value = ap (λ (bs : List ℕ). between r.start r.end bs) is ∙ at.bytes in
      sym read ∙ (ap dv here ∙ (whole ∙ sym at.is))
