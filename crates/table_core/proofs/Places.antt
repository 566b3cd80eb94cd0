-- The place of a key among pairs, and the pairs with an effect there.
use Rattle.std.proofs.Common.{◌≡◌, ℕ, ◌+◌, ◌<◌, ◌≤◌, List, [], ◌∷◌, ◌++◌, Some, None, length, take, drop, get_or, refl, ap, sym, ◌∙◌, arith, length-append}
use Rattle.std.proofs.lemmas.List.{take_at, drop_at, at_drop_more, at_drop_all}
use Rattle.std.proofs.Math.Seq.{get_or-append_seam, drop-append-add}
use Rattle.std.specs.List.Sorted.{IsStrictlySortedBy}
use Rattle.std.specs.Map.{keys_of, lookup}
use Rattle.std.specs.BTreeMap.{insert_entry, is_at}
use Rattle.std.specs.Ordering.{match_ordering}
use Rattle.std.specs.declared.cmp.Ordering.{Ordering}
use Rattle.std.specs.declared.cmp.Ordering.TheVariants.{Less, Equal, Greater}
use Rattle.far_object.specs.Buckets.{key_cmp}
use Rattle.far_object.specs.Objects.{cut}
use Rattle.table_core.specs.Changes.{place_from}
use Rattle.table_core.specs.declared.contents.Place.TheVariants.{Gap, Here}
use Rattle.far_object.proofs.Rising.{GapBetween, gap_none, gap_first, gap_later, HereBetween, here_first, here_later}

module _ {K V : Type 0} (ek : K → List ℕ) where
  -- the pair would go between these
  record GapSplit (k : K) (at p : ℕ) (es : List (K × V)) : Type 0 where
    before : List (K × V)
    after : List (K × V)
    at_is : p ≡ at + length before
    between : GapBetween ek k before after es

  -- the pair stands between these
  record HereSplit (k : K) (at p : ℕ) (es : List (K × V)) : Type 0 where
    before : List (K × V)
    pair : K × V
    after : List (K × V)
    at_is : p ≡ at + length before
    between : HereBetween ek k before pair after es

  more_before : (e : K × V) (at p : ℕ) (xs : List (K × V)) → p ≡ at + 1 + length xs → p ≡ at + length (e ∷ xs)
  more_before e at p xs h = omega arith

  gap_split : (k : K) (at p : ℕ) (es : List (K × V)) → place_from ek k at es ≡ Gap p → GapSplit k at p es
  gap_split k at p [] h = record { before = []; after = []; at_is = (let e : at ≡ p = cc in omega arith); between = gap_none ek k }
  gap_split k at p (e ∷ es) h = go (λ i. gap_split k (at + 1) p es i) (key_cmp ek k e.0) refl h
    where
      go : (place_from ek k (at + 1) es ≡ Gap p → GapSplit k (at + 1) p es) → (o : Ordering) → key_cmp ek k e.0 ≡ o
          → match_ordering o (Gap at) (Here at) (place_from ek k (at + 1) es) ≡ Gap p → GapSplit k at p (e ∷ es)
      go next Less is h = record { before = []; after = e ∷ es; at_is = (let w : at ≡ p = cc in omega arith); between = gap_first ek k e es is }
      go next Equal is h = cc
      go next Greater is h =
          let s = next h in
          record { before = e ∷ s.before; after = s.after; at_is = more_before e at p s.before s.at_is; between = gap_later ek k e s.before s.after es is s.between }

  here_split : (k : K) (at p : ℕ) (es : List (K × V)) → place_from ek k at es ≡ Here p → HereSplit k at p es
  here_split k at p [] h = cc
  here_split k at p (e ∷ es) h = go (λ i. here_split k (at + 1) p es i) (key_cmp ek k e.0) refl h
    where
      go : (place_from ek k (at + 1) es ≡ Here p → HereSplit k (at + 1) p es) → (o : Ordering) → key_cmp ek k e.0 ≡ o
          → match_ordering o (Gap at) (Here at) (place_from ek k (at + 1) es) ≡ Here p → HereSplit k at p (e ∷ es)
      go next Less is h = cc
      go next Equal is h =
          let w : at ≡ p = cc in
          record { before = []; pair = e; after = es; at_is = omega arith; between = here_first ek k e es is }
      go next Greater is h =
          let s = next h in
          record {
            before = e ∷ s.before;
            pair = s.pair;
            after = s.after;
            at_is = more_before e at p s.before s.at_is;
            between = here_later ek k e s.before s.pair s.after es is s.between;
          }

  -- the pair would go at the place p
  pub record GapAt (k : K) (p : ℕ) (es : List (K × V)) : Type 0 where
    pub within : p ≤ length es
    pub put_is : (v : V) → insert_entry (key_cmp ek) es k v ≡ take p es ++ (k, v) ∷ drop p es
    pub longer : (v : V) → length (insert_entry (key_cmp ek) es k v) ≡ length es + 1
    pub cut_is : IsStrictlySortedBy (key_cmp ek) (keys_of es) → cut (key_cmp ek) k es ≡ es
    pub none_is : IsStrictlySortedBy (key_cmp ek) (keys_of es) → lookup (is_at (key_cmp ek k)) es ≡ None

  -- it stands there
  pub record HereAt (k : K) (p : ℕ) (es : List (K × V)) : Type 0 where
    pub pair : K × V
    pub within : p < length es
    pub es_is : es ≡ take p es ++ pair ∷ drop (p + 1) es
    pub pair_is : (d : K × V) → get_or es p d ≡ pair
    pub put_is : (v : V) → insert_entry (key_cmp ek) es k v ≡ take p es ++ (pair.0, v) ∷ drop (p + 1) es
    pub cut_is : IsStrictlySortedBy (key_cmp ek) (keys_of es) → cut (key_cmp ek) k es ≡ take p es ++ drop (p + 1) es
    pub shorter : IsStrictlySortedBy (key_cmp ek) (keys_of es) → length (cut (key_cmp ek) k es) + 1 ≡ length es
    pub found_is : lookup (is_at (key_cmp ek k)) es ≡ Some pair.1

  pub gap_at : (k : K) (p : ℕ) (es : List (K × V)) → place_from ek k 0 es ≡ Gap p → GapAt k p es
  gap_at k p es h =
      let s = gap_split k 0 p es h in
      let at : length s.before ≡ p = let a = s.at_is in omega arith in
      let front : take p es ≡ s.before = ap (λ z. take p z) s.between.es_is ∙ take_at s.before s.after p at in
      let back : drop p es ≡ s.after = ap (λ z. drop p z) s.between.es_is ∙ drop_at s.before s.after p at in
      let long : length es ≡ length s.before + length s.after = ap length s.between.es_is ∙ length-append s.before s.after in
      record {
        within = omega arith;
        put_is = λ v. s.between.put_is v ∙ sym (ap (λ z. z ++ (k, v) ∷ drop p es) front ∙ ap (λ z. s.before ++ (k, v) ∷ z) back);
        longer = λ v. (let l : length (insert_entry (key_cmp ek) es k v) ≡ length s.before + length ((k, v) ∷ s.after) = ap length (s.between.put_is v) ∙ length-append s.before ((k, v) ∷ s.after) in omega arith);
        cut_is = s.between.cut_is;
        none_is = s.between.none_is;
      }

  pub here_at : (k : K) (p : ℕ) (es : List (K × V)) → place_from ek k 0 es ≡ Here p → HereAt k p es
  here_at k p es h =
      let s = here_split k 0 p es h in
      let at : length s.before ≡ p = let a = s.at_is in omega arith in
      let front : take p es ≡ s.before = ap (λ z. take p z) s.between.es_is ∙ take_at s.before (s.pair ∷ s.after) p at in
      let back : drop (p + 1) es ≡ s.after =
      ap (λ n. drop n es) (let e : p + 1 ≡ length s.before + 1 = omega arith in e) ∙ (ap (λ z. drop (length s.before + 1) z) s.between.es_is ∙ drop-append-add s.before (s.pair ∷ s.after) 1) in
      let long : length es ≡ length s.before + length (s.pair ∷ s.after) = ap length s.between.es_is ∙ length-append s.before (s.pair ∷ s.after) in
      let cut_is : IsStrictlySortedBy (key_cmp ek) (keys_of es) → cut (key_cmp ek) k es ≡ s.before ++ s.after = s.between.cut_is in
      record {
        pair = s.pair;
        within = omega arith;
        es_is = s.between.es_is ∙ sym (ap (λ z. z ++ s.pair ∷ drop (p + 1) es) front ∙ ap (λ z. s.before ++ s.pair ∷ z) back);
        pair_is = λ d. ap (λ z. get_or z p d) s.between.es_is ∙ (ap (λ n. get_or (s.before ++ s.pair ∷ s.after) n d) (sym at) ∙ get_or-append_seam s.before s.pair s.after d);
        put_is = λ v. s.between.put_is v ∙ sym (ap (λ z. z ++ (s.pair.0, v) ∷ drop (p + 1) es) front ∙ ap (λ z. s.before ++ (s.pair.0, v) ∷ z) back);
        cut_is = λ so. s.between.cut_is so ∙ sym (ap (λ z. z ++ drop (p + 1) es) front ∙ ap (λ z. s.before ++ z) back);
        shorter = λ so. (let l : length (cut (key_cmp ek) k es) ≡ length s.before + length s.after = ap length (s.between.cut_is so) ∙ length-append s.before s.after in omega arith);
        found_is = s.between.found_is;
      }

  -- ---- the loop that finds it

  -- the place among all pairs is the place among those from i on
  abbrev pub IsFrom : K → List (K × V) → ℕ → Type 0
  IsFrom k es i = place_from ek k 0 es ≡ place_from ek k i (drop i es)

  pub from_step : (k : K) (es : List (K × V)) (i : ℕ) (e : K × V) (o : Ordering) → i < length es → e ≡ get_or es i e → IsFrom k es i → o ≡ key_cmp ek k e.0
      → place_from ek k 0 es ≡ match_ordering o (Gap i) (Here i) (place_from ek k (i + 1) (drop (i + 1) es))
  from_step k es i e o h is from order =
      from
      ∙ (at_drop_more (place_from ek k i) es i e h
      ∙ (ap (λ (x : K × V). match_ordering (key_cmp ek k x.0) (Gap i) (Here i) (place_from ek k (i + 1) (drop (i + 1) es))) (sym is)
      ∙ ap (λ r. match_ordering r (Gap i) (Here i) (place_from ek k (i + 1) (drop (i + 1) es))) (sym order)))

  pub from_end : (k : K) (es : List (K × V)) (i : ℕ) → length es ≤ i → IsFrom k es i → place_from ek k 0 es ≡ Gap i
  from_end k es i h from = from ∙ at_drop_all (place_from ek k i) es i h
