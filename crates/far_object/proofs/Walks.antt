-- A walk over the pairs of an object, in search of a key.
use Rattle.std.proofs.Common.{◌≡◌, ℕ, ◌+◌, ◌-◌, ◌<◌, ◌≤◌, List, [], ◌∷◌, ◌++◌, length, drop, take, refl, ap, sym, ◌∙◌, arith, append_assoc, length-append}
use Rattle.std.specs.List.{AllByRecursion}
use Rattle.std.specs.declared.cmp.Ordering.{Ordering}
use Rattle.std.specs.declared.cmp.Ordering.TheVariants.{Less, Equal, Greater}
use Rattle.std.specs.Ordering.{match_ordering, nat_cmp}
use Rattle.std.specs.Cmp.Lexicographic.{slice_cmp}
use Rattle.std.proofs.lemmas.List.{drop_at, take_at, take_rest, drop-drop, length-drop}
use Rattle.far_object.specs.declared.object.locate.Spot.{Spot}
use Rattle.far_object.specs.declared.object.locate.Spot.TheVariants.{Gap, Here}
use Rattle.far_object.specs.Objects.{body_of, object_of, IsMap}
use Rattle.far_object.specs.Decoded.{BeginsWith}
use Rattle.far_object.specs.Spots.{spot_from}
use Rattle.far_object.specs.Buckets.{key_cmp}

module _ {K V : Type 0} (ek : K → List ℕ) (ev : V → List ℕ) (AK : K → Type 0) (AV : V → Type 0) where
  -- after i of n pairs the rest begins at this place, and decides
  pub record Walk (k : K) (bytes : List ℕ) (at i n : ℕ) (s : Spot) : Type 0 where
    pub rest : List (K × V)
    pub is : drop at bytes ≡ body_of ek ev rest
    pub within : at ≤ length bytes
    pub left : i + length rest ≡ n
    pub admitted : AllByRecursion (λ e. AK e.0 × AV e.1) rest
    pub answer : spot_from ek ev k at rest ≡ s

  pub walk_start : (k : K) (bytes : List ℕ) (n : ℕ) (es : List (K × V)) → bytes ≡ object_of ek ev es → IsMap ek AK AV es → n ≡ length es → Walk k bytes 4 0 n (spot_from ek ev k 4 es)
  walk_start k bytes n es is m e =
      let l = ap length is in
      record { rest = es; is = ap (λ z. drop 4 z) is; within = omega arith; left = omega arith; admitted = m.admitted; answer = refl }

  -- at the end of the walk
  pub walk_end : (k : K) (bytes : List ℕ) (at i n : ℕ) (s : Spot) → Walk k bytes at i n s → n ≤ i → Gap at ≡ s
  walk_end k bytes at i n s w h = go w.rest w.left w.answer
    where
      go : (rest : List (K × V)) → i + length rest ≡ n → spot_from ek ev k at rest ≡ s → Gap at ≡ s
      go [] l a = a
      go (e ∷ es) l a = absurd (omega arith)

  -- the next pair
  pub record Next (k : K) (bytes : List ℕ) (at i n : ℕ) (s : Spot) : Type 0 where
    pub pair : K × V
    pub more : List (K × V)
    pub is : drop at bytes ≡ ek pair.0 ++ (ev pair.1 ++ body_of ek ev more)
    pub within : at ≤ length bytes
    pub left : i + (1 + length more) ≡ n
    pub begins : BeginsWith ek ev AK AV (take (length bytes - at) (drop at bytes)) pair
    pub admitted : AllByRecursion (λ e. AK e.0 × AV e.1) more
    pub answer : match_ordering (key_cmp ek k pair.0) (Gap at) (Here at (at + length (ek pair.0)) (at + length (ek pair.0) + length (ev pair.1))) (spot_from ek ev k (at + length (ek pair.0) + length (ev pair.1)) more) ≡ s

  pub walk_next : (k : K) (bytes : List ℕ) (at i n : ℕ) (s : Spot) → Walk k bytes at i n s → i < n → Next k bytes at i n s
  walk_next k bytes at i n s w h = go w.rest w.is w.left w.admitted w.answer
    where
      go : (rest : List (K × V)) → drop at bytes ≡ body_of ek ev rest → i + length rest ≡ n → AllByRecursion (λ e. AK e.0 × AV e.1) rest → spot_from ek ev k at rest ≡ s → Next k bytes at i n s
      go [] d l a q = absurd (omega arith)
      go (e ∷ es) d l a q =
          record {
            pair = e;
            more = es;
            is = d;
            within = w.within;
            left = omega arith;
            begins = record { more = body_of ek ev es; is = take_rest bytes at ∙ d; key = a.0.0; value = a.0.1 };
            admitted = a.1;
            answer = q;
          }

  module _ (k : K) (bytes : List ℕ) (at i n : ℕ) (s : Spot) (w : Next k bytes at i n s) (own value : ℕ) (l : (own ≡ length (ek w.pair.0)) × (value ≡ length (ev w.pair.1))) (o : Ordering) (c : o ≡ slice_cmp nat_cmp (ek k) (take own (take (length bytes - at) (drop at bytes)))) where
    compared : key_cmp ek k w.pair.0 ≡ o
    compared =
        let t : take own (take (length bytes - at) (drop at bytes)) ≡ ek w.pair.0 =
        ap (λ z. take own z) (take_rest bytes at ∙ w.is) ∙ take_at (ek w.pair.0) (ev w.pair.1 ++ body_of ek ev w.more) own (sym l.0) in
        sym (c ∙ ap (λ z. slice_cmp nat_cmp (ek k) z) t)

    decided : match_ordering o (Gap at) (Here at (at + length (ek w.pair.0)) (at + length (ek w.pair.0) + length (ev w.pair.1))) (spot_from ek ev k (at + length (ek w.pair.0) + length (ev w.pair.1)) w.more) ≡ s
    decided = ap (λ z. match_ordering z (Gap at) (Here at (at + length (ek w.pair.0)) (at + length (ek w.pair.0) + length (ev w.pair.1))) (spot_from ek ev k (at + length (ek w.pair.0) + length (ev w.pair.1)) w.more)) (sym compared) ∙ w.answer

    pub met_less : o ≡ Less → Gap at ≡ s
    met_less e = let d = decided in cc (ap (λ z. match_ordering z (Gap at) (Here at (at + length (ek w.pair.0)) (at + length (ek w.pair.0) + length (ev w.pair.1))) (spot_from ek ev k (at + length (ek w.pair.0) + length (ev w.pair.1)) w.more)) e)

    pub met_equal : o ≡ Equal → Here at (at + own) (at + own + value) ≡ s
    met_equal e =
        let d = decided in
        let f : Here at (at + own) (at + own + value) ≡ Here at (at + length (ek w.pair.0)) (at + length (ek w.pair.0) + length (ev w.pair.1)) = cc (l.0, l.1) in
        cc (f, ap (λ z. match_ordering z (Gap at) (Here at (at + length (ek w.pair.0)) (at + length (ek w.pair.0) + length (ev w.pair.1))) (spot_from ek ev k (at + length (ek w.pair.0) + length (ev w.pair.1)) w.more)) e)

    pub met_greater : o ≡ Greater → Walk k bytes (at + (own + value)) (i + 1) n s
    met_greater e =
        let d = decided in
        let a : at + (own + value) ≡ at + length (ek w.pair.0) + length (ev w.pair.1) = omega (arith, l.0, l.1) in
        let f : spot_from ek ev k (at + length (ek w.pair.0) + length (ev w.pair.1)) w.more ≡ s =
        cc (ap (λ z. match_ordering z (Gap at) (Here at (at + length (ek w.pair.0)) (at + length (ek w.pair.0) + length (ev w.pair.1))) (spot_from ek ev k (at + length (ek w.pair.0) + length (ev w.pair.1)) w.more)) e) in
        let x = ap length w.is in
        let left = w.left in
        record {
          rest = w.more;
          is = sym (drop-drop (own + value) at bytes) ∙ (ap (λ z. drop (own + value) z) (w.is ∙ sym (append_assoc (ek w.pair.0) (ev w.pair.1) (body_of ek ev w.more))) ∙ drop_at (ek w.pair.0 ++ ev w.pair.1) (body_of ek ev w.more) (own + value) (omega (arith, l.0, l.1, length-append (ek w.pair.0) (ev w.pair.1))));
          within = omega (arith, x, w.within, l.0, l.1, length-drop at bytes, length-append (ek w.pair.0) (ev w.pair.1 ++ body_of ek ev w.more), length-append (ev w.pair.1) (body_of ek ev w.more));
          left = omega arith;
          admitted = w.admitted;
          answer = ap (λ z. spot_from ek ev k z w.more) a ∙ f;
        }
