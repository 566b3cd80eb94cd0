-- What adding an object, and taking one out, does to the list of the pairs.
use Rattle.std.proofs.Common.{◌≡◌, ◌≢◌, zero, suc, ℕ, ◌+◌, ◌-◌, ◌<◌, ◌≤◌, Bool, true, cond, List, [], ◌∷◌, ◌++◌, length, Option, Some, None, Ordering, Less, Equal, Greater, refl, ap, sym, ◌∙◌, subst, arith, append_assoc, add-one}
use Rattle.std.proofs.lemmas.List.{append-nil, nil_from_length}
use Rattle.std.proofs.lemmas.List.Sorted.{IsPermutation-refl, IsPermutation-trans, IsPermutation-append, IsPermutation-append_left, IsPermutation-append_right, IsPermutation-append_comm}
use Rattle.std.specs.List.Sorted.{IsPermutation}
use Rattle.std.specs.Option.{IfSome, is_some, option_to_list}
use Rattle.std.specs.Prelude.{IsTrue, Result, Ok, Err, slice_index_or}
use Rattle.std.specs.Ordering.{nat_cmp, eq_by_cmp, is_eq}
use Rattle.std.specs.Cmp.{nat_cmp_total, eq_by_cmp_equiv}
use Rattle.std.specs.FinMap.{get, insert, remove, get-insert, get-remove, nat_cmp-IsAntisymmetric}
use Rattle.far_object.specs.Encodings.{FarLaws}
use Rattle.far_object.specs.Objects.{object_of, IsMap}
use Rattle.far_object.proofs.Reading.{is_read}
use Rattle.far_device.specs.declared.fault.DeviceFault.{DeviceFault}
use Rattle.far_device.specs.DeviceState.{DeviceState, Contents, SameExceptAt}
use Rattle.far_device.specs.Calls.{Removes}
use Rattle.migration.specs.Parts.{all_of, pairs_at, pairs_below, Takes, Loses}

-- ---- lists

module _ {X : Type 0} where
  pub same : (xs ys : List X) → xs ≡ ys → IsPermutation xs ys
  same xs ys e = subst (λ (z : List X). IsPermutation xs z) e (IsPermutation-refl xs)

  all_both : (xs ys : List (List X)) → all_of (xs ++ ys) ≡ all_of xs ++ all_of ys
  all_both [] ys = refl
  all_both (x ∷ xs) ys = ap (λ z. x ++ z) (all_both xs ys) ∙ sym (append_assoc x (all_of xs) (all_of ys))

  all_push : (near : List (List X)) (object : List X) → all_of (near ++ object ∷ []) ≡ all_of near ++ object
  all_push near object = all_both near (object ∷ []) ∙ ap (λ z. all_of near ++ z) (append-nil object)

  -- none are added
  pub added_none : (old object : List X) → length object ≡ 0 → IsPermutation (old ++ object) old
  added_none old object e = same (old ++ object) old (ap (λ z. old ++ z) (nil_from_length object e) ∙ append-nil old)

  -- one object more in memory
  pub added_near : (far old object copy : List X) (near new : List (List X)) → far ++ all_of near ≡ old → copy ≡ object → new ≡ near ++ copy ∷ [] → IsPermutation (old ++ object) (far ++ all_of new)
  added_near far old object copy near new view copied pushed =
      let e : far ++ all_of new ≡ old ++ object =
      ap (λ z. far ++ all_of z) pushed
      ∙ ap (λ z. far ++ z) (all_push near copy)
      ∙ sym (append_assoc far (all_of near) copy)
      ∙ ap (λ z. z ++ copy) view
      ∙ ap (λ z. old ++ z) copied in
      same (old ++ object) (far ++ all_of new) (sym e)

  -- one object more between what is far and what is near
  added_between : (far near object : List X) → IsPermutation ((far ++ near) ++ object) ((far ++ object) ++ near)
  added_between far near object =
      subst (λ (z : List X). IsPermutation z ((far ++ object) ++ near)) (sym (append_assoc far near object))
      (subst (λ (z : List X). IsPermutation (far ++ (near ++ object)) z) (sym (append_assoc far object near))
      (IsPermutation-append_right far _ _ (IsPermutation-append_comm near object)))

  -- from both some go
  gone_both : (far f near g : List X) → IsPermutation ((far ++ f) ++ (near ++ g)) ((f ++ g) ++ (far ++ near))
  gone_both far f near g =
      let first = IsPermutation-append _ _ _ _ (IsPermutation-append_comm far f) (IsPermutation-append_comm near g) in
      let inner : IsPermutation (far ++ (g ++ near)) (g ++ (far ++ near)) =
      subst (λ (z : List X). IsPermutation z (g ++ (far ++ near))) (append_assoc far g near)
      (subst (λ (z : List X). IsPermutation ((far ++ g) ++ near) z) (append_assoc g far near)
      (IsPermutation-append_left near _ _ (IsPermutation-append_comm far g))) in
      let second : IsPermutation ((f ++ far) ++ (g ++ near)) ((f ++ g) ++ (far ++ near)) =
      subst (λ (z : List X). IsPermutation z ((f ++ g) ++ (far ++ near))) (sym (append_assoc f far (g ++ near)))
      (subst (λ (z : List X). IsPermutation (f ++ (far ++ (g ++ near))) z) (sym (append_assoc f g (far ++ near)))
      (IsPermutation-append_right f _ _ inner)) in
      IsPermutation-trans _ _ _ first second

  -- the part in memory that was put last
  pub popped_is : (near shown : List (List X)) (n : ℕ) (popped : Option (List X)) (object : List X) → shown ≡ near → length shown ≡ n → object ≡ slice_index_or shown (length shown - 1) object → 0 < length shown
      → (0 < n → popped ≡ Some (slice_index_or near (n - 1) object)) → popped ≡ Some object
  popped_is near shown n popped object same_list same_length is some value =
      value (subst (λ m. 0 < m) same_length some)
      ∙ ap (λ (z : List X). Some z) (ap (λ m. slice_index_or near (m - 1) object) (sym same_length) ∙ ap (λ (z : List (List X)). slice_index_or z (length shown - 1) object) (sym same_list) ∙ sym is)

  -- it is taken
  pub taken_near : (is_honest : Bool) (far old object pairs : List X) (near new : List (List X)) (popped : Option (List X)) → far ++ all_of near ≡ old → near ≡ new ++ option_to_list popped → popped ≡ Some object → pairs ≡ object
      → Takes is_honest old (far ++ all_of new) pairs
  taken_near is_honest far old object pairs near new popped view cut found given = record {
    gone = object;
    is = subst (λ (z : List X). IsPermutation z (object ++ (far ++ all_of new)))
        (append_assoc far (all_of new) object
        ∙ ap (λ (z : List X). far ++ z) (sym (all_push new object))
        ∙ ap (λ (z : List (List X)). far ++ all_of z) (sym (cut ∙ ap (λ (o : Option (List X)). new ++ option_to_list o) found))
        ∙ view)
        (IsPermutation-append_comm (far ++ all_of new) object);
    read = λ h. given;
  }

-- ---- devices

-- at every other id
pick_other : {X : Type 0} (q n : ℕ) (v w : Option X) → q ≢ n → cond (eq_by_cmp nat_cmp q n) v w ≡ w
pick_other q n v w ne = at (nat_cmp q n) refl
  where
    at : (o : Ordering) → nat_cmp q n ≡ o → cond (is_eq (nat_cmp q n)) v w ≡ w
    at Less e = ap (λ o. cond (is_eq o) v w) e
    at Equal e = absurd (ne (nat_cmp-IsAntisymmetric q n e))
    at Greater e = ap (λ o. cond (is_eq o) v w) e

same_removed : (kept kept2 : Contents) (n : ℕ) → kept2 ≡ remove kept n → SameExceptAt kept kept2 n
same_removed kept kept2 n is q ne = ap (λ m. get m q) is ∙ get-remove nat_cmp_total kept n q ∙ pick_other q n None (get kept q) ne

-- whatever a removal answers
pub removed_either : (old new : DeviceState) (id : ℕ) (result : Result Bool DeviceFault) → Removes old new id result → SameExceptAt old.contents new.contents id
removed_either old new id (Ok there) h = same_removed old.contents new.contents id h.removed
removed_either old new id (Err fault) h = h.others

same_inserted : (kept kept2 : Contents) (n : ℕ) (bytes : List ℕ) → kept2 ≡ insert kept n bytes → SameExceptAt kept kept2 n
same_inserted kept kept2 n bytes is q ne = ap (λ m. get m q) is ∙ get-insert nat_cmp_total kept n bytes q ∙ pick_other q n (Some bytes) (get kept q) ne

inserted : (kept kept2 : Contents) (n : ℕ) (bytes : List ℕ) → kept2 ≡ insert kept n bytes → get kept2 n ≡ Some bytes
inserted kept kept2 n bytes is = ap (λ m. get m n) is ∙ get-insert nat_cmp_total kept n bytes n ∙ ap (λ b. cond b (Some bytes) (get kept n)) ((eq_by_cmp_equiv nat_cmp_total).refl n)

-- what an honest read gives behind nothing is what lies there
pub read_whole : (o : Option (List ℕ)) (before after : List ℕ) → true ≡ is_some o → IfSome o (λ bytes. after ≡ before ++ bytes) → before ≡ [] → o ≡ Some after
read_whole None before after there h e = cc
read_whole (Some bytes) before after there h e = ap Some (sym (h ∙ ap (λ z. z ++ bytes) e))

-- ---- the pairs

module _ {K V : Type 0} (ek : K → List ℕ) (ev : V → List ℕ) (dk : List ℕ → Option K) (dv : List ℕ → Option V) where
  -- nothing changed below
  pub below_same : (old new : Contents) (id : ℕ) → SameExceptAt old new id → (n : ℕ) → n ≤ id → pairs_below ek ev dk dv new n ≡ pairs_below ek ev dk dv old n
  below_same old new id others zero h = refl
  below_same old new id others (suc n) h =
      ap (λ (z : List (K × V)). z ++ pairs_at ek ev dk dv (get new n)) (below_same old new id others n (omega arith))
      ∙ ap (λ o. pairs_below ek ev dk dv old n ++ pairs_at ek ev dk dv o) (others n (λ e. omega (arith, e)))

  pub record Last (contents : Contents) (far last : ℕ) : Type 0 where
    pub gone : List (K × V)
    pub is : pairs_below ek ev dk dv contents far ≡ pairs_below ek ev dk dv contents last ++ gone

  -- what lies under the last id, if there is one
  pub last_of : (contents : Contents) (far last : ℕ) → last ≡ far - 1 → Last contents far last
  last_of contents zero last e =
      let z : last ≡ 0 = omega arith in
      record { gone = []; is = sym (append-nil (pairs_below ek ev dk dv contents last) ∙ ap (λ n. pairs_below ek ev dk dv contents n) z) }
  last_of contents (suc n) last e =
      let z : n ≡ last = omega arith in
      record { gone = pairs_at ek ev dk dv (get contents n); is = ap (λ m. pairs_below ek ev dk dv contents m ++ pairs_at ek ev dk dv (get contents n)) z }

  -- the last part in memory goes, or that under the last id
  pub lost : (contents : Contents) (far last : ℕ) (near new more : List (List (K × V))) (old : List (K × V)) → pairs_below ek ev dk dv contents far ++ all_of near ≡ old → near ≡ new ++ more → Last contents far last
      → Loses old (pairs_below ek ev dk dv contents last ++ all_of new)
  lost contents far last near new more old view popped l = record {
    gone = l.gone ++ all_of more;
    is = subst (λ (z : List (K × V)). IsPermutation z ((l.gone ++ all_of more) ++ (pairs_below ek ev dk dv contents last ++ all_of new)))
        (ap (λ (z : List (K × V)). z ++ (all_of new ++ all_of more)) (sym l.is)
        ∙ ap (λ (z : List (K × V)). pairs_below ek ev dk dv contents far ++ z) (sym (all_both new more) ∙ ap (λ (z : List (List (K × V))). all_of z) (sym popped))
        ∙ view)
        (gone_both (pairs_below ek ev dk dv contents last) l.gone (all_of new) (all_of more));
  }

  pub kept_far : (contents : Contents) (far : ℕ) → Last contents far far
  kept_far contents far = record { gone = []; is = sym (append-nil (pairs_below ek ev dk dv contents far)) }

  -- the part under the last id goes
  pub lost_far : (contents now : Contents) (far last : ℕ) (near : List (List (K × V))) (old : List (K × V)) → pairs_below ek ev dk dv contents far ++ all_of near ≡ old → now ≡ contents → last ≡ far - 1
      → Loses old (pairs_below ek ev dk dv now last ++ all_of near)
  lost_far contents now far last near old view stays is =
      lost now far last near near [] old (ap (λ m. pairs_below ek ev dk dv m far ++ all_of near) stays ∙ view) (sym (append-nil near)) (last_of now far last is)

  -- it is taken
  pub taken_far : (is_honest : Bool) (contents now : Contents) (far last : ℕ) (near : List (List (K × V))) (old pairs : List (K × V)) → pairs_below ek ev dk dv contents far ++ all_of near ≡ old → SameExceptAt contents now last → far ≡ last + 1
      → (IsTrue is_honest → pairs ≡ pairs_at ek ev dk dv (get contents last)) → Takes is_honest old (pairs_below ek ev dk dv now last ++ all_of near) pairs
  taken_far is_honest contents now far last near old pairs view others is read =
      let below = pairs_below ek ev dk dv contents last in
      let gone = pairs_at ek ev dk dv (get contents last) in
      let before : (below ++ gone) ++ all_of near ≡ old = ap (λ n. pairs_below ek ev dk dv contents n ++ all_of near) (sym (is ∙ add-one last)) ∙ view in
      let after : pairs_below ek ev dk dv now last ≡ below = below_same contents now last others last (omega arith) in
      record {
        gone = gone;
        is = subst (λ (z : List (K × V)). IsPermutation z (gone ++ (pairs_below ek ev dk dv now last ++ all_of near))) before
            (subst (λ (z : List (K × V)). IsPermutation ((below ++ gone) ++ all_of near) (gone ++ (z ++ all_of near))) (sym after)
            (subst (λ (z : List (K × V)). IsPermutation ((below ++ gone) ++ all_of near) z) (append_assoc gone below (all_of near))
            (IsPermutation-append_left (all_of near) _ _ (IsPermutation-append_comm below gone))));
        read = read;
      }

  -- nothing goes
  pub kept_all : (contents now : Contents) (far : ℕ) (near : List (List (K × V))) (old : List (K × V)) → pairs_below ek ev dk dv contents far ++ all_of near ≡ old → now ≡ contents → pairs_below ek ev dk dv now far ++ all_of near ≡ old
  kept_all contents now far near old view stays = ap (λ m. pairs_below ek ev dk dv m far ++ all_of near) stays ∙ view

  -- the same pairs where nothing changed below
  pub view_same : (old new : Contents) (id far : ℕ) (near : List (List (K × V))) (view : List (K × V)) → SameExceptAt old new id → far ≤ id → pairs_below ek ev dk dv old far ++ all_of near ≡ view
      → pairs_below ek ev dk dv new far ++ all_of near ≡ view
  view_same old new id far near view others h is = ap (λ (z : List (K × V)). z ++ all_of near) (below_same old new id others far h) ∙ is

  module _ (AK : K → Type 0) (AV : V → Type 0) (lk : FarLaws ek dk AK) (lv : FarLaws ev dv AV) where
    -- one object more on the device
    pub added_far : (old new : Contents) (far next : ℕ) (bytes : List ℕ) (near : List (List (K × V))) (view object : List (K × V)) → pairs_below ek ev dk dv old far ++ all_of near ≡ view
        → new ≡ insert old far bytes → bytes ≡ object_of ek ev object → IsMap ek AK AV object → next ≡ far + 1 → IsPermutation (view ++ object) (pairs_below ek ev dk dv new next ++ all_of near)
    added_far old new far next bytes near view object is wrote spelled map more =
        let below = pairs_below ek ev dk dv old far in
        let e : pairs_below ek ev dk dv new next ≡ below ++ object =
        ap (λ n. pairs_below ek ev dk dv new n) (more ∙ add-one far)
        ∙ ap (λ (z : List (K × V)). z ++ pairs_at ek ev dk dv (get new far)) (below_same old new far (same_inserted old new far bytes wrote) far (omega arith))
        ∙ ap (λ o. below ++ pairs_at ek ev dk dv o) (inserted old new far bytes wrote)
        ∙ ap (λ (z : List (K × V)). below ++ z) (is_read ek ev dk dv AK AV lk lv bytes object spelled map) in
        subst (λ (z : List (K × V)). IsPermutation (z ++ object) (pairs_below ek ev dk dv new next ++ all_of near)) is
        (subst (λ (z : List (K × V)). IsPermutation ((below ++ all_of near) ++ object) (z ++ all_of near)) (sym e)
        (added_between below (all_of near) object))
