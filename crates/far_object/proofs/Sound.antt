-- Bytes without a fault are an object's.
use Rattle.std.proofs.Common.{zero, suc, ◌≡◌, ℕ, ◌-◌, ◌≤◌, List, [], ◌∷◌, ◌++◌, Bool, true, false, length, drop, take, refl, ap, sym, ◌∙◌, subst, arith}
use Rattle.std.proofs.lemmas.List.{take-append-drop, length-take-le, take_rest}
use Rattle.std.proofs.lemmas.Nat.{be_bytes_4}
use Rattle.std.proofs.lemmas.Bool.Decides.{nat_tests}
use Rattle.std.proofs.lemmas.Cmp.{nat_list_cmp_total}
use Rattle.std.specs.Prelude.{Option, Some, None, ◌||◌, ltb, if◌then◌else◌}
use Rattle.std.specs.Int.{w32, to_be_bytes, from_be_bytes}
use Rattle.std.specs.List.{AllByRecursion}
use Rattle.std.specs.Map.{keys_of}
use Rattle.std.specs.declared.cmp.Ordering.{Ordering}
use Rattle.std.specs.declared.cmp.Ordering.TheVariants.{Less, Equal, Greater}
use Rattle.std.specs.Ordering.{nat_cmp, is_lt}
use Rattle.std.specs.Cmp.Lexicographic.{slice_cmp}
use Rattle.std.specs.List.Sorted.{IsStrictlySortedBy}
use Rattle.far_object.specs.Encodings.{FarLaws, AreBytes}
use Rattle.far_object.specs.EncodingLaws.{bytes_drop, bytes_take}
use Rattle.far_object.specs.declared.fault.ObjectFault.TheVariants.{Short, Disorder, CountWrong}
use Rattle.far_object.specs.Faults.{trailing, fault_in, fault_at, fault_behind, fault_of}
use Rattle.far_object.specs.Objects.{body_of, most_pairs}
use Rattle.far_object.specs.Decoded.{pairs_in, pairs_after, pairs_with, decoded_pairs, IsObject}
use Rattle.far_object.specs.Buckets.{key_cmp}

is_less : (o : Ordering) → is_lt o ≡ true → o ≡ Less
is_less Less e = refl
is_less Equal e = cc
is_less Greater e = cc

second : (a b : Bool) → (a || b) ≡ true → a ≡ false → b ≡ true
second true b e f = cc
second false b e f = e

module _ {K : Type 0} (ek : K → List ℕ) where
  all_past : (last : List ℕ) (k : K) (ks : List K) → slice_cmp nat_cmp last (ek k) ≡ Less → AllByRecursion (λ y. slice_cmp nat_cmp (ek k) (ek y) ≡ Less) ks → AllByRecursion (λ y. slice_cmp nat_cmp last (ek y) ≡ Less) ks
  all_past last k [] h a = tt
  all_past last k (y ∷ ks) h a = (nat_list_cmp_total.trans last (ek k) (ek y) h a.0, all_past last k ks h a.1)

  rising_cons : (k : K) (ks : List K) → AllByRecursion (λ y. slice_cmp nat_cmp (ek k) (ek y) ≡ Less) ks → IsStrictlySortedBy (key_cmp ek) ks → IsStrictlySortedBy (key_cmp ek) (k ∷ ks)
  unfolding IsStrictlySortedBy
  rising_cons k ks a s = (a, s)

  rising_none : IsStrictlySortedBy (key_cmp ek) []
  unfolding IsStrictlySortedBy
  rising_none = tt

module _ {K V : Type 0} (ek : K → List ℕ) (ev : V → List ℕ) (dk : List ℕ → Option K) (dv : List ℕ → Option V) (AK : K → Type 0) (AV : V → Type 0) (lk : FarLaws ek dk AK) (lv : FarLaws ev dv AV) where
  record Good (n : ℕ) (first : Bool) (last bs : List ℕ) (es : List (K × V)) : Type 0 where
    pub is : bs ≡ body_of ek ev es
    pub count : length es ≡ n
    pub admitted : AllByRecursion (λ e. AK e.0 × AV e.1) es
    pub rising : IsStrictlySortedBy (key_cmp ek) (keys_of es)
    pub above : first ≡ false → AllByRecursion (λ y. slice_cmp nat_cmp last (ek y) ≡ Less) (keys_of es)

  ended : (bs : List ℕ) → trailing bs ≡ None → bs ≡ []
  ended [] e = refl
  ended (b ∷ bs) e = cc

  good : (n : ℕ) (first : Bool) (last bs : List ℕ) → AreBytes bs → fault_in ek ev dk dv n first last bs ≡ None → Good n first last bs (pairs_in ek ev dk dv n bs)
  good zero first last bs b e = record { is = ended bs e; count = refl; admitted = tt; rising = rising_none ek; above = λ f. tt }
  good (suc n) first last bs b e = at_first (λ k z a f. good n false (ek k) z a f) (dk bs) refl e
    where
      at_value : (k : K) → dk bs ≡ Some k → (first || is_lt (slice_cmp nat_cmp last (ek k))) ≡ true
          → ((z : List ℕ) → AreBytes z → fault_in ek ev dk dv n false (ek k) z ≡ None → Good n false (ek k) z (pairs_in ek ev dk dv n z))
          → (y : Option V) → dv (drop (length (ek k)) bs) ≡ y → fault_behind ek ev dk dv (fault_in ek ev dk dv n false (ek k)) (drop (length (ek k)) bs) y ≡ None
          → Good (suc n) first last bs (pairs_with ek ev dk dv (pairs_in ek ev dk dv n) k (drop (length (ek k)) bs) y)
      at_value k d o next None q e = cc
      at_value k d o next (Some v) q e =
          let c = bytes_drop (length (ek k)) bs b in
          let p = lk.read k bs b d in
          let r = lv.read v (drop (length (ek k)) bs) c q in
          let h = next (drop (length (ev v)) (drop (length (ek k)) bs)) (bytes_drop (length (ev v)) (drop (length (ek k)) bs) c) e in
          let l = h.count in
          record {
            is = p.1 ∙ ap (λ z. ek k ++ z) (r.1 ∙ ap (λ z. ev v ++ z) h.is);
            count = omega arith;
            admitted = ((p.0, r.0), h.admitted);
            rising = rising_cons ek k _ (h.above refl) h.rising;
            above = λ f. (is_less (slice_cmp nat_cmp last (ek k)) (second first (is_lt (slice_cmp nat_cmp last (ek k))) o f), all_past ek last k _ (is_less (slice_cmp nat_cmp last (ek k)) (second first (is_lt (slice_cmp nat_cmp last (ek k))) o f)) (h.above refl));
          }

      at_order : (k : K) → dk bs ≡ Some k
          → ((z : List ℕ) → AreBytes z → fault_in ek ev dk dv n false (ek k) z ≡ None → Good n false (ek k) z (pairs_in ek ev dk dv n z))
          → (o : Bool) → (first || is_lt (slice_cmp nat_cmp last (ek k))) ≡ o
          → (if o then fault_behind ek ev dk dv (fault_in ek ev dk dv n false (ek k)) (drop (length (ek k)) bs) (dv (drop (length (ek k)) bs)) else Some Disorder) ≡ None
          → Good (suc n) first last bs (pairs_with ek ev dk dv (pairs_in ek ev dk dv n) k (drop (length (ek k)) bs) (dv (drop (length (ek k)) bs)))
      at_order k d next false o e = cc
      at_order k d next true o e = at_value k d o next (dv (drop (length (ek k)) bs)) refl e

      at_first : ((k : K) (z : List ℕ) → AreBytes z → fault_in ek ev dk dv n false (ek k) z ≡ None → Good n false (ek k) z (pairs_in ek ev dk dv n z))
          → (x : Option K) → dk bs ≡ x → fault_at ek ev dk dv (fault_in ek ev dk dv n false) first last bs x ≡ None
          → Good (suc n) first last bs (pairs_after ek ev dk dv (pairs_in ek ev dk dv n) bs x)
      at_first next None d e = cc
      at_first next (Some k) d e = at_order k d (next k) (first || is_lt (slice_cmp nat_cmp last (ek k))) refl e

  pub sound : (bytes : List ℕ) → AreBytes bytes → fault_of ek ev dk dv bytes ≡ None → IsObject ek ev dk dv AK AV bytes
  sound bytes b e = at_length (ltb (length bytes) 4) refl e
    where
      at_count : ltb (length bytes) 4 ≡ false → (o : Bool) → ltb most_pairs (from_be_bytes w32 (take 4 bytes)) ≡ o
          → (if o then Some CountWrong else fault_in ek ev dk dv (from_be_bytes w32 (take 4 bytes)) true [] (drop 4 bytes)) ≡ None
          → IsObject ek ev dk dv AK AV bytes
      at_count l true c e = cc
      at_count l false c e =
          let n = from_be_bytes w32 (take 4 bytes) in
          let h = good n true [] (drop 4 bytes) (bytes_drop 4 bytes b) e in
          let four : 4 ≤ length bytes = at_least (length bytes) 4 l in
          let w : to_be_bytes w32 n ≡ take 4 bytes = be_bytes_4 (take 4 bytes) n (length-take-le 4 bytes four) (bytes_take 4 bytes b) refl in
          let most : n ≤ most_pairs = at_least most_pairs n c in
          let k = h.count in
          record {
            is = sym (take-append-drop 4 bytes) ∙ (ap (λ z. z ++ drop 4 bytes) (sym w) ∙ (ap (λ m. to_be_bytes w32 m ++ drop 4 bytes) (sym h.count) ∙ ap (λ z. to_be_bytes w32 (length (decoded_pairs ek ev dk dv bytes)) ++ z) h.is));
            map = record { admitted = h.admitted; rising = h.rising; few = omega arith };
          }
        where
          at_least : (x y : ℕ) → ltb x y ≡ false → y ≤ x
          at_least x y h = grind (arith, nat_tests)

      at_length : (o : Bool) → ltb (length bytes) 4 ≡ o
          → (if o then Some Short else if ltb most_pairs (from_be_bytes w32 (take 4 bytes)) then Some CountWrong else fault_in ek ev dk dv (from_be_bytes w32 (take 4 bytes)) true [] (drop 4 bytes)) ≡ None
          → IsObject ek ev dk dv AK AV bytes
      at_length true l e = cc
      at_length false l e = at_count l (ltb most_pairs (from_be_bytes w32 (take 4 bytes))) refl e

  -- the same of the bytes behind a place
  pub sound_at : (items bytes : List ℕ) (start : ℕ) → bytes ≡ items → AreBytes (take (length bytes - start) (drop start bytes)) → None ≡ fault_of ek ev dk dv (take (length bytes - start) (drop start bytes)) → IsObject ek ev dk dv AK AV (drop start items)
  sound_at items bytes start e b f =
      let r : take (length bytes - start) (drop start bytes) ≡ drop start items = take_rest bytes start ∙ ap (λ z. drop start z) e in
      sound (drop start items) (subst AreBytes r b) (sym (f ∙ ap (λ z. fault_of ek ev dk dv z) r))
