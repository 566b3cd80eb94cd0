-- A test of the pairs of one bucket, one after another.
use Rattle.std.proofs.Common.{◌≡◌, ◌≢◌, ℕ, ◌+◌, ◌<◌, ◌≤◌, ◌==◌, ◌&&◌, Bool, true, false, List, [], ◌∷◌, Option, Some, None, length, drop, get_or, refl, ap, sym, ◌∙◌, arith, IsTrue, ◌↔◌}
use Rattle.std.proofs.lemmas.Bool.Decides.{nat_tests}
use Rattle.std.proofs.lemmas.List.{at_drop_more, at_drop_all}
use Rattle.std.proofs.lemmas.List.Elements.{All-from_recursion, recursion_from_All}
use Rattle.std.specs.List.{AllByRecursion}
use Rattle.std.specs.List.Sorted.{IsStrictlySortedBy}
use Rattle.std.specs.Map.{keys_of}
use Rattle.std.specs.Ordering.{is_lt}
use Rattle.std.specs.declared.cmp.Ordering.{Ordering}
use Rattle.std.specs.declared.cmp.Ordering.TheVariants.{Less, Equal, Greater}
use Rattle.far_object.specs.Buckets.{key_cmp, bucket}
use Rattle.table_core.specs.Lawful.{AreContents}
use Rattle.table_core.specs.Changes.{is_above, belong}
use Rattle.far_object.proofs.Rising.{all_above}

less_is : (o : Ordering) → is_lt o ≡ true → o ≡ Less
less_is Less h = refl
less_is Equal h = cc
less_is Greater h = cc

both : (a b : Bool) → (a && b) ≡ true → (a ≡ true) × (b ≡ true)
both true true h = (refl, refl)
both true false h = absurd cc
both false b h = absurd cc

module _ {K : Type 0} (ek : K → List ℕ) where
  -- the keys are above the last one, if there is one
  abbrev AreAbove : Option K → List K → Type 0
  AreAbove None ks = Unit {0}
  AreAbove (Some last) ks = AllByRecursion (λ y. key_cmp ek last y ≡ Less) ks

module _ {K V : Type 0} (ek : K → List ℕ) (buckets b : ℕ) where
  record Fit (last : Option K) (es : List (K × V)) : Type 0 where
    here : AllByRecursion (λ k. bucket ek buckets k ≡ b) (keys_of es)
    above : AreAbove ek last (keys_of es)
    rising : IsStrictlySortedBy (key_cmp ek) (keys_of es)

  fits : (last : Option K) (es : List (K × V)) → belong ek buckets b last es ≡ true → Fit last es
  unfolding IsStrictlySortedBy
  fits None [] h = record { here = tt; above = tt; rising = tt }
  fits (Some last) [] h = record { here = tt; above = tt; rising = tt }
  fits last (e ∷ es) h =
      let p = both (bucket ek buckets e.0 == b) (is_above ek last e.0 && belong ek buckets b (Some e.0) es) h in
      let q = both (is_above ek last e.0) (belong ek buckets b (Some e.0) es) p.1 in
      let f = fits (Some e.0) es q.1 in
      let first : (bucket ek buckets e.0 == b) ≡ true = p.0 in
      record { here = ((let same : bucket ek buckets e.0 ≡ b = grind (arith, nat_tests) in same), f.here); above = more last q.0 f.above; rising = (f.above, f.rising) }
    where
      more : (last : Option K) → is_above ek last e.0 ≡ true → AllByRecursion (λ y. key_cmp ek e.0 y ≡ Less) (keys_of es) → AreAbove ek last (keys_of (e ∷ es))
      more None h a = tt
      more (Some last) h a = let is = less_is (key_cmp ek last e.0) h in (is, all_above ek last e.0 (keys_of es) is a)

  fitted : (last : Option K) (es : List (K × V)) → AllByRecursion (λ k. bucket ek buckets k ≡ b) (keys_of es) → AreAbove ek last (keys_of es) → IsStrictlySortedBy (key_cmp ek) (keys_of es)
      → belong ek buckets b last es ≡ true
  unfolding IsStrictlySortedBy
  fitted last [] here above rising = refl
  fitted last (e ∷ es) here above rising =
      let same : bucket ek buckets e.0 ≡ b = here.0 in
      let is : (bucket ek buckets e.0 == b) ≡ true = grind (arith, nat_tests) in
      rw (is, first last above) (fitted (Some e.0) es here.1 rising.0 rising.1)
    where
      first : (last : Option K) → AreAbove ek last (keys_of (e ∷ es)) → is_above ek last e.0 ≡ true
      first None a = refl
      first (Some last) a = ap is_lt a.0

  pub belong_is : (es : List (K × V)) → belong ek buckets b None es ≡ true → AreContents ek buckets b es
  belong_is es h = let f = fits None es h in record { here = All-from_recursion (λ k. bucket ek buckets k ≡ b) (keys_of es) f.here; rising = f.rising }

  pub are_contents : (es : List (K × V)) → AreContents ek buckets b es → belong ek buckets b None es ≡ true
  are_contents es h = fitted None es (recursion_from_All (λ k. bucket ek buckets k ≡ b) (keys_of es) h.here) tt h.rising

  -- ---- the loop

  -- the pairs belong where those from i on do, behind the last one
  abbrev pub BelongFrom : List (K × V) → Option K → ℕ → Type 0
  BelongFrom es last i = belong ek buckets b None es ≡ belong ek buckets b last (drop i es)

  pub belong_step : (es : List (K × V)) (last : Option K) (i : ℕ) (e : K × V) → i < length es → e ≡ get_or es i e → BelongFrom es last i
      → belong ek buckets b None es ≡ ((bucket ek buckets e.0 == b) && (is_above ek last e.0 && belong ek buckets b (Some e.0) (drop (i + 1) es)))
  belong_step es last i e h is from =
      from ∙ (at_drop_more (belong ek buckets b last) es i e h ∙ ap (λ (x : K × V). (bucket ek buckets x.0 == b) && (is_above ek last x.0 && belong ek buckets b (Some x.0) (drop (i + 1) es))) (sym is))

  pub belong_end : (es : List (K × V)) (last : Option K) (i : ℕ) → length es ≤ i → BelongFrom es last i → belong ek buckets b None es ≡ true
  belong_end es last i h from = from ∙ at_drop_all (belong ek buckets b last) es i h

  pub belong_more : (es : List (K × V)) (last : Option K) (i : ℕ) (e : K × V) (c : ℕ) (r : Bool) → i < length es → e ≡ get_or es i e → BelongFrom es last i
      → c ≡ bucket ek buckets e.0 → c ≡ b → r ≡ is_above ek last e.0 → r ≡ true → BelongFrom es (Some e.0) (i + 1)
  belong_more es last i e c r h at from here same above tested =
      let is : (bucket ek buckets e.0 == b) ≡ true = grind (arith, nat_tests) in
      let up : is_above ek last e.0 ≡ true = sym above ∙ tested in
      belong_step es last i e h at from ∙ rw (is, up) refl

  not_contents : (es : List (K × V)) → belong ek buckets b None es ≡ false → IsTrue false ↔ AreContents ek buckets b es
  not_contents es h = (λ t. absurd cc, λ a. sym h ∙ are_contents es a)

  -- the key is of another bucket
  pub belong_apart : (es : List (K × V)) (last : Option K) (i : ℕ) (e : K × V) (c : ℕ) → i < length es → e ≡ get_or es i e → BelongFrom es last i
      → c ≡ bucket ek buckets e.0 → c ≢ b → IsTrue false ↔ AreContents ek buckets b es
  belong_apart es last i e c h at from here other =
      let not_here : (bucket ek buckets e.0 == b) ≡ false = grind (arith, nat_tests) in
      not_contents es (belong_step es last i e h at from ∙ rw not_here refl)

  -- or not above the last one
  pub belong_low : (es : List (K × V)) (last : Option K) (i : ℕ) (e : K × V) (c : ℕ) (r : Bool) → i < length es → e ≡ get_or es i e → BelongFrom es last i
      → c ≡ bucket ek buckets e.0 → c ≡ b → r ≡ is_above ek last e.0 → r ≡ false → IsTrue false ↔ AreContents ek buckets b es
  belong_low es last i e c r h at from here same above tested =
      let is : (bucket ek buckets e.0 == b) ≡ true = grind (arith, nat_tests) in
      let low : is_above ek last e.0 ≡ false = sym above ∙ tested in
      not_contents es (belong_step es last i e h at from ∙ rw (is, low) refl)

  pub belong_all : (es : List (K × V)) (last : Option K) (i : ℕ) → length es ≤ i → BelongFrom es last i → IsTrue true ↔ AreContents ek buckets b es
  belong_all es last i h from = (λ t. belong_is es (belong_end es last i h from), λ a. refl)
