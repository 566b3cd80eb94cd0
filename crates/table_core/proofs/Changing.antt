-- Whether pairs are others with an effect on them, by the place of its key.
use Rattle.std.proofs.Common.{◌≡◌, ℕ, ◌+◌, ◌-◌, Bool, true, false, List, ◌∷◌, ◌++◌, length, take, drop, get_or, refl, ap, sym, ◌∙◌, arith, IsTrue, ◌↔◌, length-drop}
use Rattle.std.proofs.lemmas.List.{get_or_at, length-take-le, take_all}
use denote.Ref.{Bor}
use Rattle.std.specs.List.Sorted.{IsStrictlySortedBy}
use Rattle.std.specs.Map.{keys_of}
use Rattle.far_object.specs.Buckets.{key_cmp}
use Rattle.table_core.specs.declared.effect.Effect.{Effect}
use Rattle.table_core.specs.declared.effect.Effect.TheVariants as effect
use Rattle.table_core.specs.declared.contents.Place.TheVariants.{Gap, Here}
use Rattle.table_core.specs.Changes.{place_from, with_effect}
use Rattle.table_core.proofs.Comparing.{same_test}
use Rattle.table_core.proofs.Places.{gap_at, here_at}

-- the rest of a list, as code takes it
rest_is : {X : Type 0} (n : ℕ) (xs : List X) → take (length xs - n) (drop n xs) ≡ drop n xs
rest_is {X = X} n xs = take_all (length xs - n) (drop n xs) (omega (arith, length-drop {A = X}))

module _ {K V : Type 0} (ek : K → List ℕ) where
  -- the effect is one of these
  puts_is : (es : List (K × V)) (k : Bor K) (v : Bor V) (e : Effect K V) → e ≡ effect.Puts k v → with_effect ek es (effect.Puts k v) ≡ with_effect ek es e
  puts_is es k v e is = ap (λ (x : Effect K V). with_effect ek es x) (sym is)

  cuts_is : (es : List (K × V)) (k : Bor K) (e : Effect K V) → e ≡ effect.Cuts k → with_effect ek es (effect.Cuts k) ≡ with_effect ek es e
  cuts_is es k e is = ap (λ (x : Effect K V). with_effect ek es x) (sym is)

  module _ (new old : List (K × V)) (e : Effect K V) (k : Bor K) (at : ℕ) (r : Bool) where
    pub put_in_gap : (v : Bor V) → e ≡ effect.Puts k v → place_from ek k.now 0 old ≡ Gap at
        → IsTrue r ↔ (new ≡ take at old ++ (k.now, v.now) ∷ take (length old - at) (drop at old)) → IsTrue r ↔ (new ≡ with_effect ek old e)
    put_in_gap v is gap h = let g = gap_at ek k.now at old gap in same_test r new _ _ (ap (λ z. take at old ++ (k.now, v.now) ∷ z) (rest_is at old) ∙ (sym (g.put_is v.now) ∙ puts_is old k v e is)) h

    pub put_here : (v : Bor V) (d : K × V) → e ≡ effect.Puts k v → place_from ek k.now 0 old ≡ Here at
        → IsTrue r ↔ (new ≡ take at old ++ ((get_or old at d).0, v.now) ∷ take (length old - (at + 1)) (drop (at + 1) old)) → IsTrue r ↔ (new ≡ with_effect ek old e)
    put_here v d is here h =
        let g = here_at ek k.now at old here in
        same_test r new _ _ (ap (λ z. take at old ++ ((get_or old at d).0, v.now) ∷ z) (rest_is (at + 1) old) ∙ (ap (λ (p : K × V). take at old ++ (p.0, v.now) ∷ drop (at + 1) old) (g.pair_is d) ∙ (sym (g.put_is v.now) ∙ puts_is old k v e is))) h

    pub cut_in_gap : e ≡ effect.Cuts k → place_from ek k.now 0 old ≡ Gap at → IsStrictlySortedBy (key_cmp ek) (keys_of old)
        → IsTrue r ↔ (new ≡ old) → IsTrue r ↔ (new ≡ with_effect ek old e)
    cut_in_gap is gap so h = let g = gap_at ek k.now at old gap in same_test r new _ _ (sym (g.cut_is so) ∙ cuts_is old k e is) h

    pub cut_here : e ≡ effect.Cuts k → place_from ek k.now 0 old ≡ Here at → IsStrictlySortedBy (key_cmp ek) (keys_of old)
        → IsTrue r ↔ (new ≡ take at old ++ take (length old - (at + 1)) (drop (at + 1) old)) → IsTrue r ↔ (new ≡ with_effect ek old e)
    cut_here is here so h = let g = here_at ek k.now at old here in same_test r new _ _ (ap (λ z. take at old ++ z) (rest_is (at + 1) old) ∙ (sym (g.cut_is so) ∙ cuts_is old k e is)) h

  -- ---- pairs that an effect leaves as they are
  module _ (es : List (K × V)) (e : Effect K V) (k : Bor K) (at : ℕ) where
    pub left_by_new : (v : Bor V) → e ≡ effect.Puts k v → place_from ek k.now 0 es ≡ Gap at → IsTrue false ↔ (with_effect ek es e ≡ es)
    left_by_new v is gap =
        let g = gap_at ek k.now at es gap in
        let more = g.longer v.now in
        let same = ap length (puts_is es k v e is) in
        (λ t. absurd cc, λ q. (let l = ap length q in absurd (omega arith)))

    pub left_by_same : (v : Bor V) (d : K × V) (r : Bool) → e ≡ effect.Puts k v → place_from ek k.now 0 es ≡ Here at
        → IsTrue r ↔ ((get_or es at d).1 ≡ v.now) → IsTrue r ↔ (with_effect ek es e ≡ es)
    left_by_same v d r is here h =
        let g = here_at ek k.now at es here in
        let put = sym (puts_is es k v e is) ∙ g.put_is v.now in
        let long : length (take at es) ≡ at = (let w = g.within in length-take-le at es (omega arith)) in
        let value = ap (λ (p : K × V). p.1) (g.pair_is d) in (
          λ t. (let v_is : g.pair.1 ≡ v.now = sym value ∙ h.0 t in
              put ∙ (ap (λ (x : V). take at es ++ (g.pair.0, x) ∷ drop (at + 1) es) (sym v_is) ∙ sym g.es_is)),
          λ q.
              (let there : get_or (with_effect ek es e) at d ≡ (g.pair.0, v.now) = ap (λ (z : List (K × V)). get_or z at d) put ∙ get_or_at (take at es) (g.pair.0, v.now) (drop (at + 1) es) d at long in
              h.1 (ap (λ (p : K × V). p.1) (sym (ap (λ (z : List (K × V)). get_or z at d) q) ∙ there))),
        )

    pub left_by_none : e ≡ effect.Cuts k → place_from ek k.now 0 es ≡ Gap at → IsStrictlySortedBy (key_cmp ek) (keys_of es) → IsTrue true ↔ (with_effect ek es e ≡ es)
    left_by_none is gap so = let g = gap_at ek k.now at es gap in (λ t. sym (cuts_is es k e is) ∙ g.cut_is so, λ q. refl)

    pub left_by_cut : e ≡ effect.Cuts k → place_from ek k.now 0 es ≡ Here at → IsStrictlySortedBy (key_cmp ek) (keys_of es) → IsTrue false ↔ (with_effect ek es e ≡ es)
    left_by_cut is here so =
        let g = here_at ek k.now at es here in
        let less = g.shorter so in
        let same = ap length (cuts_is es k e is) in
        (λ t. absurd cc, λ q. (let l = ap length q in absurd (omega arith)))
