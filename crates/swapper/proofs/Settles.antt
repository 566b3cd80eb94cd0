-- The oldest went, one after another.
use Rattle.std.proofs.Common.{◌≡◌, ℕ, ◌+◌, ◌≤◌, ◌<◌, List, [], ◌∷◌, ◌++◌, length, take, drop, Result, Ok, Err, MatchResult, refl, ap, sym, ◌∙◌, subst, arith, length-append, append_assoc, slice_index_or}
use Rattle.std.specs.List.{remove, insert}
use Rattle.swapper.specs.declared.rule.SeatView.{SeatView}
use Rattle.swapper.specs.Seats.{HandsOver, HandsAll}

pub record Settled {T : Type 0} (all left : List T) (went : ℕ) (v w : SeatView T) : Type 0 where
  pub gone : List T
  pub all_is : all ≡ gone ++ left
  pub count : length gone ≡ went
  pub handed : HandsAll v gone w

module _ {T : Type 0} where
  hands_one_more : (gone : List T) (x : T) (v u w : SeatView T) → HandsAll v gone u → HandsOver u x w → HandsAll v (gone ++ x ∷ []) w
  hands_one_more [] x v u w h o = (w, subst (λ (y : SeatView T). HandsOver y x w) h o, refl)
  hands_one_more (y ∷ gone) x v u w h o = (h.0, h.1, hands_one_more gone x h.0 u w h.2 o)

  pub settled_none : (all : List T) (v : SeatView T) → Settled all all 0 v v
  settled_none all v = record { gone = []; all_is = refl; count = refl; handed = refl }

  pub settled_more : (all left rest : List T) (went : ℕ) (x : T) (v u w : SeatView T) → Settled all left went v u → left ≡ x ∷ rest → HandsOver u x w → Settled all rest (went + 1) v w
  settled_more all left rest went x v u w s e o = record {
    gone = s.gone ++ x ∷ [];
    all_is = s.all_is ∙ (ap (λ l. s.gone ++ l) e ∙ sym (append_assoc s.gone (x ∷ []) rest));
    count = omega (arith, s.count, length-append s.gone (x ∷ []));
    handed = hands_one_more s.gone x v u w s.handed o;
  }

  take_front : (gone left : List T) → take (length gone) (gone ++ left) ≡ gone
  take_front [] left = refl
  take_front (x ∷ gone) left = ap (λ l. x ∷ l) (take_front gone left)

  drop_front : (gone left : List T) → drop (length gone) (gone ++ left) ≡ left
  drop_front [] left = refl
  drop_front (x ∷ gone) left = drop_front gone left

  pub settled_most : (all left : List T) (went : ℕ) (v w : SeatView T) → Settled all left went v w → went + length left ≡ length all
  settled_most all left went v w s = let e = ap length s.all_is in omega (arith, e, s.count, length-append s.gone left)

  pub settled_rest : (all left : List T) (went : ℕ) (v w : SeatView T) → Settled all left went v w → left ≡ drop went all
  settled_rest all left went v w s = sym (drop_front s.gone left) ∙ (ap (λ n. drop n (s.gone ++ left)) s.count ∙ ap (λ l. drop went l) (sym s.all_is))

  pub settled_went : (all left : List T) (went : ℕ) (v w : SeatView T) → Settled all left went v w → HandsAll v (take went all) w
  settled_went all left went v w s =
      let e : s.gone ≡ take went all = sym (take_front s.gone left) ∙ (ap (λ n. take n (s.gone ++ left)) s.count ∙ ap (λ l. take went l) (sym s.all_is)) in
      subst (λ (l : List T). HandsAll v l w) e s.handed

  pub removes_first : (left rest : List T) (x : T) → 0 < length left → x ≡ slice_index_or left 0 x → rest ≡ remove left 0 → left ≡ x ∷ rest
  removes_first [] rest x some e r = absurd (omega arith)
  removes_first (y ∷ left) rest x some e r = cc (e, r)

  pub inserts_first : (rest new : List T) (x : T) → new ≡ insert rest 0 x → new ≡ x ∷ rest
  inserts_first rest new x e = e

  -- a spare that comes back from the queue goes back to its place
  pub put_back : (left rest new : List T) (x back : T) (r : Result (Unit {0}) T) → left ≡ x ∷ rest → back ≡ x → length left ≤ 64
      → MatchResult r (λ _. new ≡ back ∷ rest) (λ s. (s ≡ back) × (new ≡ rest) × (length rest ≡ 64)) → new ≡ left
  put_back left rest new x back (Ok u) e b few h = h ∙ (ap (λ (y : T). y ∷ rest) b ∙ sym e)
  put_back left rest new x back (Err s) e b few h = absurd (let n = ap length e in omega (arith, n, few, h.2))

  pub settled_none_left : (all left : List T) (went : ℕ) (v w : SeatView T) → Settled all left went v w → left ≡ [] → went < length all → ⊥
  settled_none_left all left went v w s e more = let n = ap length e in omega (arith, settled_most all left went v w s, n, more)

  pub settled_few : (all left : List T) (went : ℕ) (v w : SeatView T) → Settled all left went v w → (went ≤ length all) × (length left ≤ length all)
  settled_few all left went v w s = let n = settled_most all left went v w s in (omega (arith, n), omega (arith, n))
