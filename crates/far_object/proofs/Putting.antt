-- The bytes and the pairs after a change.
use Rattle.std.proofs.Common.{◌≡◌, ℕ, ◌+◌, ◌-◌, ◌<◌, ◌≤◌, List, [], ◌∷◌, ◌++◌, length, drop, take, ap, sym, ◌∙◌, arith, append_assoc, length-append}
use Rattle.std.specs.Prelude.{Bool, true, false, not, cond}
use Rattle.std.specs.Int.{w32, to_be_bytes}
use Rattle.std.specs.List.{AllByRecursion, filter}
use Rattle.std.specs.declared.cmp.Ordering.{Ordering}
use Rattle.std.specs.declared.cmp.Ordering.TheVariants.{Less, Equal, Greater}
use Rattle.std.specs.Ordering.{match_ordering}
use Rattle.std.specs.BTreeMap.{insert_entry, is_at}
use Rattle.std.specs.Map.{keys_of}
use Rattle.std.specs.List.Sorted.{IsStrictlySortedBy}
use Rattle.std.proofs.lemmas.Map.Lookups.{exact_bytes}
use Rattle.std.proofs.lemmas.List.{drop_at, take_at}
use Rattle.far_object.specs.declared.object.locate.Spot.TheVariants.{Gap, Here}
use Rattle.far_object.specs.Objects.{body_of, object_of, cut, IsMap, most_pairs}
use Rattle.far_object.specs.Spots.{spot_from}
use Rattle.far_object.specs.Buckets.{key_cmp}
use Rattle.far_object.proofs.Rising.{rising_insert, rising_filter}
use Rattle.far_object.proofs.Spots.{body-append, HereSplit, gap_split, here_split}

module _ {K V : Type 0} (ek : K → List ℕ) (ev : V → List ℕ) where
  -- the parts of an object's bytes before and behind a place between its pairs
  parts : (es before after : List (K × V)) (p : ℕ) → es ≡ before ++ after → p ≡ 4 + length (body_of ek ev before) → (take (p - 4) (drop 4 (object_of ek ev es)) ≡ body_of ek ev before) × (drop p (object_of ek ev es) ≡ body_of ek ev after) × (p ≤ length (object_of ek ev es))
  parts es before after p e a =
      let b : body_of ek ev es ≡ body_of ek ev before ++ body_of ek ev after = ap (λ (z : List (K × V)). body_of ek ev z) e ∙ body-append ek ev before after in
      let l = ap length b in
      let l2 = length-append (body_of ek ev before) (body_of ek ev after) in (
        ap (λ z. take (p - 4) z) b ∙ take_at (body_of ek ev before) (body_of ek ev after) (p - 4) (omega arith),
        ap (λ z. drop p (to_be_bytes w32 (length es) ++ z)) b ∙ drop_at (to_be_bytes w32 (length es) ++ body_of ek ev before) (body_of ek ev after) p (omega arith),
        omega arith,
      )

  written : (n : ℕ) (es before after : List (K × V)) (k : K) (v : V) → es ≡ before ++ (k, v) ∷ after → length es ≡ n → object_of ek ev es ≡ to_be_bytes w32 n ++ (body_of ek ev before ++ (ek k ++ (ev v ++ body_of ek ev after)))
  written n es before after k v e l =
      ap (λ m. to_be_bytes w32 m ++ body_of ek ev es) l ∙ ap (λ z. to_be_bytes w32 n ++ z) (ap (λ (z : List (K × V)). body_of ek ev z) e ∙ body-append ek ev before ((k, v) ∷ after))

  pub gap_bounds : (k : K) (p : ℕ) (es : List (K × V)) → spot_from ek ev k 4 es ≡ Gap p → (4 ≤ p) × (p ≤ length (object_of ek ev es))
  gap_bounds k p es e =
      let h = gap_split ek ev k 4 p es e in
      let b = parts es h.before h.after p h.between.es_is h.at_is in
      let a = h.at_is in
      (omega arith, b.2)

  pub put_gap : (k : K) (v : V) (p : ℕ) (es : List (K × V)) → spot_from ek ev k 4 es ≡ Gap p → to_be_bytes w32 (length es + 1) ++ (take (p - 4) (drop 4 (object_of ek ev es)) ++ (ek k ++ (ev v ++ drop p (object_of ek ev es)))) ≡ object_of ek ev (insert_entry (key_cmp ek) es k v)
  put_gap k v p es e =
      let h = gap_split ek ev k 4 p es e in
      let b = parts es h.before h.after p h.between.es_is h.at_is in
      let i = h.between.put_is v in
      let l : length (insert_entry (key_cmp ek) es k v) ≡ length es + 1 =
      omega (arith, ap length i, ap length h.between.es_is, length-append h.before h.after, length-append h.before ((k, v) ∷ h.after)) in
      ap (λ z. to_be_bytes w32 (length es + 1) ++ (z ++ (ek k ++ (ev v ++ drop p (object_of ek ev es))))) b.0
      ∙ (ap (λ z. to_be_bytes w32 (length es + 1) ++ (body_of ek ev h.before ++ (ek k ++ (ev v ++ z)))) b.1
      ∙ sym (written (length es + 1) (insert_entry (key_cmp ek) es k v) h.before h.after k v i l))

  here_next : (k : K) (p q r : ℕ) (es : List (K × V)) (h : HereSplit ek ev k 4 p q r es) → (es ≡ (h.before ++ h.pair ∷ []) ++ h.after) × (r ≡ 4 + length (body_of ek ev (h.before ++ h.pair ∷ [])))
  here_next k p q r es h =
      let a = h.at_is in
      let b = h.mid_is in
      let c = h.end_is in (
        h.between.es_is ∙ sym (append_assoc h.before (h.pair ∷ []) h.after),
        omega (arith, ap length (body-append ek ev h.before (h.pair ∷ [])), length-append (body_of ek ev h.before) (body_of ek ev (h.pair ∷ [])), length-append (ek h.pair.0) (ev h.pair.1 ++ []), length-append (ev h.pair.1) []),
      )

  pub here_bounds : (k : K) (p q r : ℕ) (es : List (K × V)) → spot_from ek ev k 4 es ≡ Here p q r → (4 ≤ p) × (p ≤ r) × (r ≤ length (object_of ek ev es)) × (0 < length es)
  here_bounds k p q r es e =
      let h = here_split ek ev k 4 p q r es e in
      let n = here_next k p q r es h in
      let b = parts es (h.before ++ h.pair ∷ []) h.after r n.0 n.1 in
      let a = h.at_is in
      let m = h.mid_is in
      let c = h.end_is in
      (omega arith, omega arith, b.2, omega (arith, ap length h.between.es_is, length-append h.before (h.pair ∷ h.after)))

  pub put_here : (k : K) (v : V) (p q r : ℕ) (es : List (K × V)) → spot_from ek ev k 4 es ≡ Here p q r → to_be_bytes w32 (length es) ++ (take (p - 4) (drop 4 (object_of ek ev es)) ++ (ek k ++ (ev v ++ drop r (object_of ek ev es)))) ≡ object_of ek ev (insert_entry (key_cmp ek) es k v)
  put_here k v p q r es e =
      let h = here_split ek ev k 4 p q r es e in
      let n = here_next k p q r es h in
      let b = parts es h.before (h.pair ∷ h.after) p h.between.es_is h.at_is in
      let d = parts es (h.before ++ h.pair ∷ []) h.after r n.0 n.1 in
      let i = h.between.put_is v in
      let same : ek k ≡ ek h.pair.0 = exact_bytes (ek k) (ek h.pair.0) h.between.same in
      let l : length (insert_entry (key_cmp ek) es k v) ≡ length es =
      omega (arith, ap length i, ap length h.between.es_is, length-append h.before (h.pair ∷ h.after), length-append h.before ((h.pair.0, v) ∷ h.after)) in
      ap (λ z. to_be_bytes w32 (length es) ++ (z ++ (ek k ++ (ev v ++ drop r (object_of ek ev es))))) b.0
      ∙ (ap (λ z. to_be_bytes w32 (length es) ++ (body_of ek ev h.before ++ (ek k ++ (ev v ++ z)))) d.1
      ∙ (ap (λ z. to_be_bytes w32 (length es) ++ (body_of ek ev h.before ++ (z ++ (ev v ++ body_of ek ev h.after)))) same
      ∙ sym (written (length es) (insert_entry (key_cmp ek) es k v) h.before h.after h.pair.0 v i l)))

  pub cut_gap : (k : K) (p : ℕ) (es : List (K × V)) → spot_from ek ev k 4 es ≡ Gap p → IsStrictlySortedBy (key_cmp ek) (keys_of es) → cut (key_cmp ek) k es ≡ es
  cut_gap k p es e so = let h = gap_split ek ev k 4 p es e in h.between.cut_is so

  pub cut_here : (k : K) (p q r : ℕ) (es : List (K × V)) → spot_from ek ev k 4 es ≡ Here p q r → IsStrictlySortedBy (key_cmp ek) (keys_of es) → to_be_bytes w32 (length es - 1) ++ (take (p - 4) (drop 4 (object_of ek ev es)) ++ drop r (object_of ek ev es)) ≡ object_of ek ev (cut (key_cmp ek) k es)
  cut_here k p q r es e so =
      let h = here_split ek ev k 4 p q r es e in
      let n = here_next k p q r es h in
      let b = parts es h.before (h.pair ∷ h.after) p h.between.es_is h.at_is in
      let d = parts es (h.before ++ h.pair ∷ []) h.after r n.0 n.1 in
      let i = h.between.cut_is so in
      let l : length (cut (key_cmp ek) k es) ≡ length es - 1 =
      omega (arith, ap length i, ap length h.between.es_is, length-append h.before (h.pair ∷ h.after), length-append h.before h.after) in
      ap (λ z. to_be_bytes w32 (length es - 1) ++ (z ++ drop r (object_of ek ev es))) b.0
      ∙ (ap (λ z. to_be_bytes w32 (length es - 1) ++ (body_of ek ev h.before ++ z)) d.1
      ∙ sym (ap (λ m. to_be_bytes w32 m ++ body_of ek ev (cut (key_cmp ek) k es)) l
      ∙ ap (λ z. to_be_bytes w32 (length es - 1) ++ z) (ap (λ (z : List (K × V)). body_of ek ev z) i ∙ body-append ek ev h.before h.after)))

  -- the same of bytes that are known to be an object's
  pub with_gap : (k : K) (v : V) (p count : ℕ) (es : List (K × V)) (bytes out : List ℕ) → bytes ≡ object_of ek ev es → count ≡ length es → Gap p ≡ spot_from ek ev k 4 es → out ≡ to_be_bytes w32 (count + 1) ++ (take (p - 4) (drop 4 bytes) ++ (ek k ++ (ev v ++ drop p bytes))) → out ≡ object_of ek ev (insert_entry (key_cmp ek) es k v)
  with_gap k v p count es bytes out b c e o =
      o ∙ (ap (λ z. to_be_bytes w32 (count + 1) ++ (take (p - 4) (drop 4 z) ++ (ek k ++ (ev v ++ drop p z)))) b
      ∙ (ap (λ n. to_be_bytes w32 (n + 1) ++ (take (p - 4) (drop 4 (object_of ek ev es)) ++ (ek k ++ (ev v ++ drop p (object_of ek ev es))))) c ∙ put_gap k v p es (sym e)))

  pub with_here : (k : K) (v : V) (p q r count : ℕ) (es : List (K × V)) (bytes out : List ℕ) → bytes ≡ object_of ek ev es → count ≡ length es → Here p q r ≡ spot_from ek ev k 4 es → out ≡ to_be_bytes w32 count ++ (take (p - 4) (drop 4 bytes) ++ (ek k ++ (ev v ++ drop r bytes))) → out ≡ object_of ek ev (insert_entry (key_cmp ek) es k v)
  with_here k v p q r count es bytes out b c e o =
      o ∙ (ap (λ z. to_be_bytes w32 count ++ (take (p - 4) (drop 4 z) ++ (ek k ++ (ev v ++ drop r z)))) b
      ∙ (ap (λ n. to_be_bytes w32 n ++ (take (p - 4) (drop 4 (object_of ek ev es)) ++ (ek k ++ (ev v ++ drop r (object_of ek ev es))))) c ∙ put_here k v p q r es (sym e)))

  pub without_here : (k : K) (p q r count : ℕ) (es : List (K × V)) (bytes out : List ℕ) → IsStrictlySortedBy (key_cmp ek) (keys_of es) → bytes ≡ object_of ek ev es → count ≡ length es → Here p q r ≡ spot_from ek ev k 4 es → out ≡ to_be_bytes w32 (count - 1) ++ (take (p - 4) (drop 4 bytes) ++ drop r bytes) → out ≡ object_of ek ev (cut (key_cmp ek) k es)
  without_here k p q r count es bytes out so b c e o =
      o ∙ (ap (λ z. to_be_bytes w32 (count - 1) ++ (take (p - 4) (drop 4 z) ++ drop r z)) b
      ∙ (ap (λ n. to_be_bytes w32 (n - 1) ++ (take (p - 4) (drop 4 (object_of ek ev es)) ++ drop r (object_of ek ev es))) c ∙ cut_here k p q r es (sym e) so))

-- ---- the pairs stay those of a map

module _ {K V : Type 0} (ek : K → List ℕ) where
  few_insert : (k : K) (v : V) (es : List (K × V)) → length (insert_entry (key_cmp ek) es k v) ≤ length es + 1
  few_insert k v [] = omega arith
  few_insert k v (e ∷ es) = go (few_insert k v es) (key_cmp ek k e.0)
    where
      go : length (insert_entry (key_cmp ek) es k v) ≤ length es + 1 → (o : Ordering) → length (match_ordering o ((k, v) ∷ e ∷ es) ((e.0, v) ∷ es) (e ∷ insert_entry (key_cmp ek) es k v)) ≤ length (e ∷ es) + 1
      go next Less = omega arith
      go next Equal = omega arith
      go next Greater = omega arith

  module _ (AK : K → Type 0) (AV : V → Type 0) where
    admitted_insert : (k : K) (v : V) (es : List (K × V)) → AK k → AV v → AllByRecursion (λ (e : K × V). AK e.0 × AV e.1) es → AllByRecursion (λ (e : K × V). AK e.0 × AV e.1) (insert_entry (key_cmp ek) es k v)
    admitted_insert k v [] p q a = ((p, q), tt)
    admitted_insert k v (e ∷ es) p q a = go (admitted_insert k v es p q a.1) (key_cmp ek k e.0)
      where
        go : AllByRecursion (λ (e : K × V). AK e.0 × AV e.1) (insert_entry (key_cmp ek) es k v) → (o : Ordering) → AllByRecursion (λ (e : K × V). AK e.0 × AV e.1) (match_ordering o ((k, v) ∷ e ∷ es) ((e.0, v) ∷ es) (e ∷ insert_entry (key_cmp ek) es k v))
        go next Less = ((p, q), (a.0, a.1))
        go next Equal = ((a.0.0, q), a.1)
        go next Greater = (a.0, next)

    pub put_map : (k : K) (v : V) (es : List (K × V)) → AK k → AV v → length es < most_pairs → IsMap ek AK AV es → IsMap ek AK AV (insert_entry (key_cmp ek) es k v)
    put_map k v es p q f m =
        record { admitted = admitted_insert k v es p q m.admitted; rising = rising_insert ek k v es m.rising; few = omega (arith, f, few_insert k v es) }

    all_filter : (P : K × V → Type 0) (t : K × V → Bool) (es : List (K × V)) → AllByRecursion P es → AllByRecursion P (filter t es)
    all_filter P t [] a = tt
    all_filter P t (e ∷ es) a = go (all_filter P t es a.1) (t e)
      where
        go : AllByRecursion P (filter t es) → (b : Bool) → AllByRecursion P (cond b (e ∷ filter t es) (filter t es))
        go next true = (a.0, next)
        go next false = next

    few_filter : (t : K × V → Bool) (es : List (K × V)) → length (filter t es) ≤ length es
    few_filter t [] = omega arith
    few_filter t (e ∷ es) = go (few_filter t es) (t e)
      where
        go : length (filter t es) ≤ length es → (b : Bool) → length (cond b (e ∷ filter t es) (filter t es)) ≤ length (e ∷ es)
        go next true = omega arith
        go next false = omega arith

    pub cut_map : (k : K) (es : List (K × V)) → IsMap ek AK AV es → IsMap ek AK AV (cut (key_cmp ek) k es)
    cut_map k es m =
        let f = m.few in
        record {
          admitted = all_filter (λ e. AK e.0 × AV e.1) (λ e. not (is_at (key_cmp ek k) e.0)) es m.admitted;
          rising = rising_filter ek (λ x. not (is_at (key_cmp ek k) x)) es m.rising;
          few = omega (arith, f, few_filter (λ e. not (is_at (key_cmp ek k) e.0)) es);
        }

    pub empty_map : IsMap {K = K} {V = V} ek AK AV []
    unfolding IsStrictlySortedBy
    empty_map = record { admitted = tt; rising = tt; few = omega arith }
