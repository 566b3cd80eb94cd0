-- The pairs of an object, one after another.
use Rattle.std.proofs.Common.{◌≡◌, ℕ, ◌+◌, ◌-◌, ◌<◌, ◌≤◌, List, [], ◌∷◌, ◌++◌, length, drop, take, refl, ap, sym, ◌∙◌, arith, append_assoc, length-append}
use Rattle.std.proofs.lemmas.List.{append-nil, drop_at, take_rest}
use Rattle.std.specs.Prelude.{Option, Some}
use Rattle.std.specs.List.{AllByRecursion}
use Rattle.far_object.specs.Encodings.{FarLaws}
use Rattle.far_object.specs.Objects.{body_of, object_of, IsMap}
use Rattle.far_object.specs.Decoded.{BeginsWith}

module _ {K V : Type 0} (ek : K → List ℕ) (ev : V → List ℕ) (AK : K → Type 0) (AV : V → Type 0) where
  -- after i of n pairs these were got, and the rest of the bytes has the others
  pub record Reads (es got : List (K × V)) (bytes : List ℕ) (i n : ℕ) : Type 0 where
    pub left : List (K × V)
    pub all : got ++ left ≡ es
    pub is : bytes ≡ body_of ek ev left
    pub count : i + length left ≡ n
    pub admitted : AllByRecursion (λ e. AK e.0 × AV e.1) left

  pub reads_start : (es got : List (K × V)) (object rest : List ℕ) (n : ℕ) → got ≡ [] → object ≡ object_of ek ev es → rest ≡ take (length object - 4) (drop 4 object) → IsMap ek AK AV es → n ≡ length es → Reads es got rest 0 n
  reads_start es got object rest n e o r m l =
      record { left = es; all = ap (λ (z : List (K × V)). z ++ es) e; is = r ∙ (take_rest object 4 ∙ ap (λ z. drop 4 z) o); count = omega arith; admitted = m.admitted }

  pub reads_end : (es got : List (K × V)) (bytes : List ℕ) (i n : ℕ) → Reads es got bytes i n → n ≤ i → got ≡ es
  reads_end es got bytes i n w h = go w.left w.all w.count
    where
      go : (left : List (K × V)) → got ++ left ≡ es → i + length left ≡ n → got ≡ es
      go [] a l = sym (append-nil got) ∙ a
      go (e ∷ left) a l = absurd (omega arith)

  pub record Head (es got : List (K × V)) (bytes : List ℕ) (i n : ℕ) : Type 0 where
    pub pair : K × V
    pub begins : BeginsWith ek ev AK AV bytes pair
    pub next : (n' : ℕ) (now : List (K × V)) (x : K × V) → now ≡ got ++ x ∷ [] → x ≡ pair → n' ≡ length (ek pair.0) + length (ev pair.1) → Reads es now (take (length bytes - n') (drop n' bytes)) (i + 1) n

  pub reads_next : (es got : List (K × V)) (bytes : List ℕ) (i n : ℕ) → Reads es got bytes i n → i < n → Head es got bytes i n
  reads_next es got bytes i n w h = go w.left w.all w.is w.count w.admitted
    where
      go : (left : List (K × V)) → got ++ left ≡ es → bytes ≡ body_of ek ev left → i + length left ≡ n → AllByRecursion (λ e. AK e.0 × AV e.1) left → Head es got bytes i n
      go [] a b l d = absurd (omega arith)
      go (e ∷ left) a b l d =
          record {
            pair = e;
            begins = record { more = body_of ek ev left; is = b; key = d.0.0; value = d.0.1 };
            next = λ n' now x m y f. record {
              left = left;
              all = ap (λ (z : List (K × V)). z ++ left) (m ∙ ap (λ (z : K × V). got ++ z ∷ []) y) ∙ (append_assoc got (e ∷ []) left ∙ a);
              is = take_rest bytes n' ∙ (ap (λ z. drop n' z) (b ∙ sym (append_assoc (ek e.0) (ev e.1) (body_of ek ev left))) ∙ drop_at (ek e.0 ++ ev e.1) (body_of ek ev left) n' (length-append (ek e.0) (ev e.1) ∙ sym f));
              count = omega arith;
              admitted = d.1;
            };
          }

  module _ (dk : List ℕ → Option K) (dv : List ℕ → Option V) (lk : FarLaws ek dk AK) (lv : FarLaws ev dv AV) where
    pub decoded_key : (bytes : List ℕ) (e : K × V) (k : K) → BeginsWith ek ev AK AV bytes e → dk bytes ≡ Some k → k ≡ e.0
    decoded_key bytes e k h x =
        let a : Some e.0 ≡ Some k = sym (lk.reads e.0 (ev e.1 ++ h.more) h.key) ∙ (ap dk (sym h.is) ∙ x) in cc

    pub decoded_value : (bytes : List ℕ) (e : K × V) (k : K) (own : ℕ) (v : V) → BeginsWith ek ev AK AV bytes e → dk bytes ≡ Some k → own ≡ length (ek k) → dv (take (length bytes - own) (drop own bytes)) ≡ Some v → v ≡ e.1
    decoded_value bytes e k own v h x l y =
        let a = decoded_key bytes e k h x in
        let t : take (length bytes - own) (drop own bytes) ≡ ev e.1 ++ h.more =
        take_rest bytes own ∙ (ap (λ z. drop own z) h.is ∙ drop_at (ek e.0) (ev e.1 ++ h.more) own (sym (l ∙ ap (λ z. length (ek z)) a))) in
        let b : Some e.1 ≡ Some v = sym (lv.reads e.1 h.more h.value) ∙ (ap dv (sym t) ∙ y) in cc

    pub decoded_both : (bytes : List ℕ) (e : K × V) (k : K) (own : ℕ) (v : V) (size : ℕ) → BeginsWith ek ev AK AV bytes e → dk bytes ≡ Some k → own ≡ length (ek k) → dv (take (length bytes - own) (drop own bytes)) ≡ Some v → size ≡ length (ev v) → ((k, v) ≡ e) × (own + size ≡ length (ek e.0) + length (ev e.1)) × (own ≤ length bytes) × (own + size ≤ length bytes)
    decoded_both bytes e k own v size h x l y m =
        let a = decoded_key bytes e k h x in
        let b = decoded_value bytes e k own v h x l y in
        let p : own ≡ length (ek e.0) = l ∙ ap (λ z. length (ek z)) a in
        let q : size ≡ length (ev e.1) = m ∙ ap (λ z. length (ev z)) b in
        let n = ap length h.is in
        let o1 = length-append (ek e.0) (ev e.1 ++ h.more) in
        let o2 = length-append (ev e.1) h.more in
        (rw (a, b) refl, omega arith, omega arith, omega arith)

    pub key_within : (bytes : List ℕ) (e : K × V) (k : K) (own : ℕ) → BeginsWith ek ev AK AV bytes e → dk bytes ≡ Some k → own ≡ length (ek k) → own ≤ length bytes
    key_within bytes e k own h x l =
        let a = decoded_key bytes e k h x in
        let p : own ≡ length (ek e.0) = l ∙ ap (λ z. length (ek z)) a in
        let n = ap length h.is in
        let o1 = length-append (ek e.0) (ev e.1 ++ h.more) in
        omega arith
