-- Pairs as they are written, one object behind the other, and lent again.
use Rattle.std.proofs.Common.{◌≡◌, ℕ, ◌+◌, ◌-◌, ◌<◌, ◌≤◌, List, [], ◌∷◌, ◌++◌, length, map, drop, take, refl, ap, sym, ◌∙◌, subst, arith, append_assoc, length-append}
use Rattle.std.proofs.lemmas.List.{append-nil, drop_at, take_at, take_rest}
use Rattle.std.specs.Prelude.{Option, Ok}
use Rattle.std.specs.List.{AllByRecursion}
use Rattle.far_object.specs.Encodings.{FarLaws, skipped}
use Rattle.far_object.specs.Objects.{body_of, object_of, IsMap}
use Rattle.far_object.specs.Decoded.{pairs_in, BeginsWith}
use Rattle.far_object.proofs.Reading.{both_lengths}
use Rattle.far_pairs.specs.Bundles.{IsBundle, written}

module _ {K V : Type 0} (ek : K → List ℕ) (ev : V → List ℕ) (AK : K → Type 0) (AV : V → Type 0) where
  abbrev Admitted : List (K × V) → Type 0
  Admitted es = AllByRecursion (λ e. AK e.0 × AV e.1) es

  body_both : (es fs : List (K × V)) → body_of ek ev (es ++ fs) ≡ body_of ek ev es ++ body_of ek ev fs
  body_both [] fs = refl
  body_both (e ∷ es) fs =
      ap (λ z. ek e.0 ++ (ev e.1 ++ z)) (body_both es fs)
      ∙ (ap (λ z. ek e.0 ++ z) (sym (append_assoc (ev e.1) (body_of ek ev es) (body_of ek ev fs)))
      ∙ sym (append_assoc (ek e.0) (ev e.1 ++ body_of ek ev es) (body_of ek ev fs)))

  admitted_both : (es fs : List (K × V)) → Admitted es → Admitted fs → Admitted (es ++ fs)
  admitted_both [] fs a b = b
  admitted_both (e ∷ es) fs a b = (a.0, admitted_both es fs a.1 b)

  -- after i of n pairs these were lent behind others, and the rest of the bytes has those that are left
  pub record Lends (es : List (K × V)) (before now : List (List ℕ × List ℕ)) (bytes : List ℕ) (i n : ℕ) : Type 0 where
    pub done : List (K × V)
    pub left : List (K × V)
    pub all : done ++ left ≡ es
    pub lent : now ≡ before ++ map (written ek ev) done
    pub is : bytes ≡ body_of ek ev left
    pub count : i + length left ≡ n
    pub admitted : Admitted left

  pub lends_end : (es : List (K × V)) (before now : List (List ℕ × List ℕ)) (bytes : List ℕ) (i n : ℕ) → Lends es before now bytes i n → n ≤ i → now ≡ before ++ map (written ek ev) es
  lends_end es before now bytes i n w h = go w.left w.all w.count
    where
      go : (left : List (K × V)) → w.done ++ left ≡ es → i + length left ≡ n → now ≡ before ++ map (written ek ev) es
      go [] a l = w.lent ∙ ap (λ (z : List (K × V)). before ++ map (written ek ev) z) (sym (append-nil w.done) ∙ a)
      go (e ∷ left) a l = absurd (omega arith)

  map_both : (es fs : List (K × V)) → map (written ek ev) (es ++ fs) ≡ map (written ek ev) es ++ map (written ek ev) fs
  map_both [] fs = refl
  map_both (e ∷ es) fs = ap (λ (z : List (List ℕ × List ℕ)). written ek ev e ∷ z) (map_both es fs)

  pub record Head (es : List (K × V)) (before now : List (List ℕ × List ℕ)) (bytes : List ℕ) (i n : ℕ) : Type 0 where
    pub pair : K × V
    pub begins : BeginsWith ek ev AK AV bytes pair
    pub next : (n' : ℕ) (later : List (List ℕ × List ℕ)) (x : List ℕ × List ℕ) → later ≡ now ++ x ∷ [] → x ≡ written ek ev pair → n' ≡ length (ek pair.0) + length (ev pair.1) → Lends es before later (take (length bytes - n') (drop n' bytes)) (i + 1) n

  pub lends_next : (es : List (K × V)) (before now : List (List ℕ × List ℕ)) (bytes : List ℕ) (i n : ℕ) → Lends es before now bytes i n → i < n → Head es before now bytes i n
  lends_next es before now bytes i n w h = go w.left w.all w.is w.count w.admitted
    where
      go : (left : List (K × V)) → w.done ++ left ≡ es → bytes ≡ body_of ek ev left → i + length left ≡ n → Admitted left → Head es before now bytes i n
      go [] a b l d = absurd (omega arith)
      go (e ∷ left) a b l d =
          record {
            pair = e;
            begins = record { more = body_of ek ev left; is = b; key = d.0.0; value = d.0.1 };
            next = λ n' later x m y f. record {
              done = w.done ++ e ∷ [];
              left = left;
              all = append_assoc w.done (e ∷ []) left ∙ a;
              lent = m ∙ (ap (λ (z : List (List ℕ × List ℕ)). z ++ x ∷ []) w.lent
                  ∙ (append_assoc before (map (written ek ev) w.done) (x ∷ [])
                  ∙ ap (λ (z : List (List ℕ × List ℕ)). before ++ z) (ap (λ (z : List ℕ × List ℕ). map (written ek ev) w.done ++ z ∷ []) y ∙ sym (map_both w.done (e ∷ [])))));
              is = take_rest bytes n' ∙ (ap (λ z. drop n' z) (b ∙ sym (append_assoc (ek e.0) (ev e.1) (body_of ek ev left))) ∙ drop_at (ek e.0 ++ ev e.1) (body_of ek ev left) n' (length-append (ek e.0) (ev e.1) ∙ sym f));
              count = omega arith;
              admitted = d.1;
            };
          }

  module _ (dk : List ℕ → Option K) (dv : List ℕ → Option V) (lk : FarLaws ek dk AK) (lv : FarLaws ev dv AV) where
    -- the pairs that their bytes are read as
    read_all : (es : List (K × V)) → Admitted es → pairs_in ek ev dk dv (length es) (body_of ek ev es) ≡ es
    read_all [] h = refl
    read_all (e ∷ es) h =
        let more = body_of ek ev es in
        let a = lk.reads e.0 (ev e.1 ++ more) h.0.0 in
        let b = drop_at (ek e.0) (ev e.1 ++ more) (length (ek e.0)) refl in
        let c = lv.reads e.1 more h.0.1 in
        let d = drop_at (ev e.1) more (length (ev e.1)) refl in
        rw (a, b, c, d) (ap (λ (w : List (K × V)). e ∷ w) (read_all es h.1))

    -- the bytes are those of just these pairs
    pub record Holds (count : ℕ) (bytes : List ℕ) (es : List (K × V)) : Type 0 where
      pub reads : pairs_in ek ev dk dv count bytes ≡ es
      pub bundle : IsBundle ek ev dk dv AK AV count bytes

    pub holds : (count : ℕ) (bytes : List ℕ) (es : List (K × V)) → count ≡ length es → bytes ≡ body_of ek ev es → Admitted es → Holds count bytes es
    holds count bytes es counted is admitted =
        let reads : pairs_in ek ev dk dv count bytes ≡ es = ap (λ n. pairs_in ek ev dk dv n bytes) counted ∙ (ap (λ z. pairs_in ek ev dk dv (length es) z) is ∙ read_all es admitted) in
        record {
          reads = reads;
          bundle = record {
            is = is ∙ ap (λ (z : List (K × V)). body_of ek ev z) (sym reads);
            counted = ap (λ (z : List (K × V)). length z) reads ∙ sym counted;
            admitted = subst (λ (z : List (K × V)). Admitted z) (sym reads) admitted;
          };
        }

    -- an object's pairs behind those of a bundle
    pub added : (count more n : ℕ) (bytes object new : List ℕ) (es : List (K × V)) → IsBundle ek ev dk dv AK AV count bytes → object ≡ object_of ek ev es → IsMap ek AK AV es → more ≡ length es → n ≡ count + more
        → new ≡ bytes ++ take (length object - 4) (drop 4 object) → Holds n new (pairs_in ek ev dk dv count bytes ++ es)
    added count more n bytes object new es old o map m s is =
        let olds = pairs_in ek ev dk dv count bytes in
        let body : take (length object - 4) (drop 4 object) ≡ body_of ek ev es = take_rest object 4 ∙ ap (λ z. drop 4 z) o in
        holds n new (olds ++ es) (let c = old.counted in let l = length-append olds es in omega (arith, c, l, m, s))
        (is ∙ (ap (λ z. z ++ take (length object - 4) (drop 4 object)) old.is ∙ (ap (λ z. body_of ek ev olds ++ z) body ∙ sym (body_both olds es))))
        (admitted_both olds es old.admitted map.admitted)

    -- none is lent yet
    pub lends_start : (count : ℕ) (bytes items : List ℕ) (es : List (K × V)) (before now : List (List ℕ × List ℕ)) → IsBundle ek ev dk dv AK AV count bytes → pairs_in ek ev dk dv count bytes ≡ es → now ≡ before → items ≡ bytes → Lends es before now items 0 count
    lends_start count bytes items es before now b view same is = record {
      done = [];
      left = es;
      all = refl;
      lent = same ∙ sym (append-nil before);
      is = is ∙ (b.is ∙ ap (λ (z : List (K × V)). body_of ek ev z) view);
      count = (let l = ap (λ (z : List (K × V)). length z) view in let c = b.counted in omega (arith, l, c));
      admitted = subst (λ (z : List (K × V)). Admitted z) view b.admitted;
    }

    -- the bytes have all of the pair that they begin with
    pub within : (bytes : List ℕ) (e : K × V) (key value : ℕ) → BeginsWith ek ev AK AV bytes e → Ok key ≡ skipped ek (dk bytes) → Ok value ≡ skipped ev (dv (take (length bytes - key) (drop key bytes))) → key + value ≤ length bytes
    within bytes e key value h a b =
        let l = both_lengths ek ev dk dv AK AV lk lv bytes e key value h a b in
        let all = ap (λ z. length z) h.is in
        let first = length-append (ek e.0) (ev e.1 ++ h.more) in
        let second = length-append (ev e.1) h.more in
        omega (arith, l.0, l.1, all, first, second)

    -- the two parts of the first pair
    pub first_is : (bytes : List ℕ) (e : K × V) (key value : ℕ) (x : List ℕ × List ℕ) → BeginsWith ek ev AK AV bytes e → Ok key ≡ skipped ek (dk bytes) → Ok value ≡ skipped ev (dv (take (length bytes - key) (drop key bytes)))
        → x ≡ (take key bytes, take value (drop key bytes)) → (x ≡ written ek ev e) × (key + value ≡ length (ek e.0) + length (ev e.1))
    first_is bytes e key value x h a b is =
        let l = both_lengths ek ev dk dv AK AV lk lv bytes e key value h a b in
        let k : take key bytes ≡ ek e.0 = ap (λ z. take key z) h.is ∙ take_at (ek e.0) (ev e.1 ++ h.more) key (sym l.0) in
        let r : drop key bytes ≡ ev e.1 ++ h.more = ap (λ z. drop key z) h.is ∙ drop_at (ek e.0) (ev e.1 ++ h.more) key (sym l.0) in
        let v : take value (drop key bytes) ≡ ev e.1 = ap (λ z. take value z) r ∙ take_at (ev e.1) h.more value (sym l.1) in
        (is ∙ (ap (λ z. (z, take value (drop key bytes))) k ∙ ap (λ z. (ek e.0, z)) v), omega (arith, l.0, l.1))
