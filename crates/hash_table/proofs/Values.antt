-- The value that is found in an object.
use Rattle.std.proofs.Common.{◌≡◌, ℕ, Bool, true, false, cond, List, [], ◌∷◌, Option, Some, ap, sym, ◌∙◌, subst}
use Rattle.std.proofs.lemmas.List.{append-nil}
use Rattle.std.specs.List.{AllByRecursion, between}
use Rattle.std.specs.Map.{lookup}
use Rattle.std.specs.BTreeMap.{is_at}
use Rattle.std.specs.declared.ops.Range.{Range}
use Rattle.far_object.specs.Buckets.{key_cmp}
use Rattle.far_object.specs.Encodings.{FarLaws}
use Rattle.far_object.specs.Objects.{object_of, IsMap, IsValueAt}
use Rattle.table_core.specs.Maps.{value_at}
use Rattle.hash_table.specs.Scopes.{Encodes}

module _ {K V : Type 0} (ek : K → List ℕ) (ev : V → List ℕ) (dv : List ℕ → Option V) (AK : K → Type 0) (AV : V → Type 0) (laws : FarLaws ev dv AV) where
  found_admitted : (t : K → Bool) (es : List (K × V)) (v : V) → AllByRecursion (λ e. AK e.0 × AV e.1) es → lookup t es ≡ Some v → AV v
  found_admitted t [] v all is = absurd cc
  found_admitted t (e ∷ es) v all is = by (t e.0) is (λ later. found_admitted t es v all.1 later)
    where
      by : (c : Bool) → cond c (Some e.1) (lookup t es) ≡ Some v → (lookup t es ≡ Some v → AV v) → AV v
      by true is rest = let same : e.1 ≡ v = cc in subst AV same all.0.1
      by false is rest = rest is

  -- the bytes at the place of a key are decoded as its value
  pub value_shown : (k : K) (es : List (K × V)) (r : Range ℕ) → IsMap ek AK AV es → IsValueAt ek ev k es r → dv (between r.start r.end (object_of ek ev es)) ≡ value_at ek k es
  value_shown k es r map at =
      let admits : AV at.value = found_admitted (is_at (key_cmp ek k)) es at.value map.admitted at.is in
      let whole : dv (ev at.value) ≡ Some at.value = ap dv (sym (append-nil (ev at.value))) ∙ laws.reads at.value [] admits in
      ap dv at.bytes ∙ (whole ∙ sym at.is)

  -- the bytes at the place of a key are the encoding of what they are decoded as
  pub encoded : (k : K) (es : List (K × V)) (r : Range ℕ) (bytes : List ℕ) → IsMap ek AK AV es → IsValueAt ek ev k es r → bytes ≡ between r.start r.end (object_of ek ev es) → Encodes ev (dv (between r.start r.end (object_of ek ev es))) bytes
  encoded k es r bytes map at is =
      let admits : AV at.value = found_admitted (is_at (key_cmp ek k)) es at.value map.admitted at.is in
      let whole : dv (ev at.value) ≡ Some at.value = ap dv (sym (append-nil (ev at.value))) ∙ laws.reads at.value [] admits in
      (at.value, ap dv at.bytes ∙ whole, is ∙ at.bytes)
