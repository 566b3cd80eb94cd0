-- Where a pair is among the bytes.
use Rattle.std.proofs.Common.{◌≡◌, ℕ, ◌+◌, List, [], ◌∷◌, ◌++◌, length, refl, ap, sym, ◌∙◌, arith, append_assoc, length-append}
use Rattle.std.specs.declared.cmp.Ordering.{Ordering}
use Rattle.std.specs.declared.cmp.Ordering.TheVariants.{Less, Equal, Greater}
use Rattle.std.specs.Ordering.{match_ordering}
use Rattle.far_object.specs.declared.object.locate.Spot.TheVariants.{Gap, Here}
use Rattle.far_object.specs.Objects.{body_of}
use Rattle.far_object.specs.Spots.{spot_from}
use Rattle.far_object.specs.Buckets.{key_cmp}
use Rattle.far_object.proofs.Rising.{GapBetween, gap_none, gap_first, gap_later, HereBetween, here_first, here_later}

module _ {K V : Type 0} (ek : K → List ℕ) (ev : V → List ℕ) where
  pub body-append : (xs ys : List (K × V)) → body_of ek ev (xs ++ ys) ≡ body_of ek ev xs ++ body_of ek ev ys
  body-append [] ys = refl
  body-append (e ∷ xs) ys =
      ap (λ z. ek e.0 ++ (ev e.1 ++ z)) (body-append xs ys)
      ∙ sym (append_assoc (ek e.0) (ev e.1 ++ body_of ek ev xs) (body_of ek ev ys) ∙ ap (λ z. ek e.0 ++ z) (append_assoc (ev e.1) (body_of ek ev xs) (body_of ek ev ys)))

  -- the pair would go between these
  pub record GapSplit (k : K) (at p : ℕ) (es : List (K × V)) : Type 0 where
    pub before : List (K × V)
    pub after : List (K × V)
    pub at_is : p ≡ at + length (body_of ek ev before)
    pub between : GapBetween ek k before after es

  -- the pair stands between these
  pub record HereSplit (k : K) (at p q r : ℕ) (es : List (K × V)) : Type 0 where
    pub before : List (K × V)
    pub pair : K × V
    pub after : List (K × V)
    pub at_is : p ≡ at + length (body_of ek ev before)
    pub mid_is : q ≡ p + length (ek pair.0)
    pub end_is : r ≡ q + length (ev pair.1)
    pub between : HereBetween ek k before pair after es

  more_before : (e : K × V) (at p : ℕ) (xs : List (K × V)) → p ≡ at + length (ek e.0) + length (ev e.1) + length (body_of ek ev xs) → p ≡ at + length (body_of ek ev (e ∷ xs))
  more_before e at p xs h = omega (arith, length-append (ek e.0) (ev e.1 ++ body_of ek ev xs), length-append (ev e.1) (body_of ek ev xs))

  pub gap_split : (k : K) (at p : ℕ) (es : List (K × V)) → spot_from ek ev k at es ≡ Gap p → GapSplit k at p es
  gap_split k at p [] h = record { before = []; after = []; at_is = (let e : at ≡ p = cc in omega arith); between = gap_none ek k }
  gap_split k at p (e ∷ es) h = go (λ i. gap_split k (at + length (ek e.0) + length (ev e.1)) p es i) (key_cmp ek k e.0) refl h
    where
      go : (spot_from ek ev k (at + length (ek e.0) + length (ev e.1)) es ≡ Gap p → GapSplit k (at + length (ek e.0) + length (ev e.1)) p es) → (o : Ordering) → key_cmp ek k e.0 ≡ o → match_ordering o (Gap at) (Here at (at + length (ek e.0)) (at + length (ek e.0) + length (ev e.1))) (spot_from ek ev k (at + length (ek e.0) + length (ev e.1)) es) ≡ Gap p → GapSplit k at p (e ∷ es)
      go next Less is h = record { before = []; after = e ∷ es; at_is = (let w : at ≡ p = cc in omega arith); between = gap_first ek k e es is }
      go next Equal is h = cc
      go next Greater is h =
          let s = next h in
          record { before = e ∷ s.before; after = s.after; at_is = more_before e at p s.before s.at_is; between = gap_later ek k e s.before s.after es is s.between }

  pub here_split : (k : K) (at p q r : ℕ) (es : List (K × V)) → spot_from ek ev k at es ≡ Here p q r → HereSplit k at p q r es
  here_split k at p q r [] h = cc
  here_split k at p q r (e ∷ es) h = go (λ i. here_split k (at + length (ek e.0) + length (ev e.1)) p q r es i) (key_cmp ek k e.0) refl h
    where
      go : (spot_from ek ev k (at + length (ek e.0) + length (ev e.1)) es ≡ Here p q r → HereSplit k (at + length (ek e.0) + length (ev e.1)) p q r es) → (o : Ordering) → key_cmp ek k e.0 ≡ o → match_ordering o (Gap at) (Here at (at + length (ek e.0)) (at + length (ek e.0) + length (ev e.1))) (spot_from ek ev k (at + length (ek e.0) + length (ev e.1)) es) ≡ Here p q r → HereSplit k at p q r (e ∷ es)
      go next Less is h = cc
      go next Equal is h =
          let a : at ≡ p = cc in
          let b : at + length (ek e.0) ≡ q = cc in
          let c : at + length (ek e.0) + length (ev e.1) ≡ r = cc in
          record { before = []; pair = e; after = es; at_is = omega arith; mid_is = omega arith; end_is = omega arith; between = here_first ek k e es is }
      go next Greater is h =
          let s = next h in
          record {
            before = e ∷ s.before;
            pair = s.pair;
            after = s.after;
            at_is = more_before e at p s.before s.at_is;
            mid_is = s.mid_is;
            end_is = s.end_is;
            between = here_later ek k e s.before s.pair s.after es is s.between;
          }
