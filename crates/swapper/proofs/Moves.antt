-- Each move of the queue keeps its rule.
use Rattle.std.proofs.Common.{◌≡◌, ◌≢◌, ℕ, zero, suc, ◌+◌, ◌≤◌, true, false, true≢false, List, [], ◌∷◌, ◌++◌, length, set, sym, refl, ap, ◌∙◌, subst, ⊎_elim, append_assoc, arith, length-append, Some, None, Option, MatchOption}
use Rattle.std.proofs.Math.ListN.{length-set}
use mathlib.Core.List.{IsPrefix}
use mathlib.Core.Option.{some, some-ne-none, some-injective}
use lib.ListN.{get_elem?}
use Rattle.crossbeam_queue.specs.Fifo.{Pushes, Pops, Forks, Learns, Held}
use Rattle.crossbeam_queue.proofs.Lists.{at_set, at_snoc}
use Rattle.swapper.specs.declared.rule.SeatView.{SeatView}
use Rattle.swapper.specs.Seats.{seat_view, Knows, IsInOrder, HandsOver, TakesNext, Stands}
use Rattle.swapper.proofs.Prefixes.{prefix_self, prefix_more, get_next}

module _ {T : Type 0} where
  abbrev All : (ℕ → SeatView T → Type 0) → List (SeatView T) → Type 0
  All F views = (port : ℕ) (v : SeatView T) → get_elem? views port ≡ some v → F port v

  all_set : (F : ℕ → SeatView T → Type 0) (views : List (SeatView T)) (port : ℕ) (w : SeatView T) → F port w → ((j : ℕ) (u : SeatView T) → j ≢ port → get_elem? views j ≡ some u → F j u) → All F (set views port w)
  all_set F views port w mine others j u e = ⊎_elim (λ (x : (j ≡ port) × (w ≡ u)). subst (λ (y : ℕ × SeatView T). F y.0 y.1) (λ i. (sym x.0 i, x.1 i)) mine)
      (λ (x : (j ≢ port) × (get_elem? views j ≡ some u)). others j u x.0 x.1) (at_set views port j w u e)

  -- in a row of one, a place that is filled is the first
  only : (l : List (SeatView T)) (j : ℕ) (u : SeatView T) → length l ≡ 1 → get_elem? l j ≡ some u → j ≡ 0
  only [] j u one e = absurd cc
  only (x ∷ []) zero u one e = refl
  only (x ∷ []) (suc j) u one e = absurd (some-ne-none u (sym e))
  only (x ∷ y ∷ l) j u one e = absurd (omega arith)

  pub begins : IsInOrder {T = T} [] (seat_view [] 0 true true ∷ [])
  begins = record {
    gone = [];
    taker = 0;
    known = λ port v e. elim port as (λ p. get_elem? (seat_view [] 0 true true ∷ []) p ≡ some v → Knows [] 0 1 0 p v) [
      | zero ↦ (λ h. subst (λ (u : SeatView T). Knows [] 0 1 0 0 u) (some-injective _ _ h) (record { begins = ([], refl); fewer = omega arith; whole = λ _. (refl, refl, refl); counts = λ _. (refl, refl) }))
      | suc k ↦ (λ h. absurd (some-ne-none v (sym h)))
    ] e;
  }

  pub hands : (n port : ℕ) (v : SeatView T) (x : T) → Pushes IsInOrder n port v x (λ w. HandsOver v x w)
  hands n port v x items views room h at =
      let old : List T = h.gone ++ items in
      let all : List T = h.gone ++ (items ++ x ∷ []) in
      let longer : all ≡ old ++ x ∷ [] = sym (append_assoc h.gone items (x ∷ [])) in
      let w : SeatView T = seat_view all (length h.gone) v.alone v.takes in
      let mine : Knows old (length h.gone) (length views) h.taker port v = h.known port v at in
      let seats : length (set views port w) ≡ length views = length-set views port w in
      let more : (xs : List T) → IsPrefix xs old → IsPrefix xs all = λ xs p. subst (λ (l : List T). IsPrefix xs l) (sym longer) (prefix_more xs old (x ∷ []) p) in (
        w,
        record {
          gone = h.gone;
          taker = h.taker;
          known = all_set (Knows all (length h.gone) (length (set views port w)) h.taker) views port w
              (record { begins = prefix_self all; fewer = omega arith; whole = λ a. (seats ∙ (mine.whole a).0, refl, refl); counts = λ t. ((mine.counts t).0, refl) })
              (λ j u other e. let theirs = h.known j u e in record {
                begins = more u.handed theirs.begins;
                fewer = theirs.fewer;
                counts = theirs.counts;
                whole = λ a. let one = (theirs.whole a).0 in absurd (other (only views j u one e ∙ sym (only views port v one at)));
              });
        },
        record {
          before = old;
          begins = mine.begins;
          last = longer;
          taken = mine.fewer;
          held = omega (arith, length-append h.gone items);
          alone = refl;
          takes = refl;
          counts = λ t. sym (mine.counts t).1;
          whole = λ a. (sym (mine.whole a).1, sym (mine.whole a).2);
        },
      )

  pub takes : (port : ℕ) (v : SeatView T) → v.takes ≡ true → Pops IsInOrder port v (λ x w. TakesNext v x w)
  takes port v may x items views h at =
      let old : List T = h.gone ++ x ∷ items in
      let gone : List T = h.gone ++ x ∷ [] in
      let same : gone ++ items ≡ old = append_assoc h.gone (x ∷ []) items in
      let count : length gone ≡ length h.gone + 1 = omega (arith, length-append h.gone (x ∷ [])) in
      let w : SeatView T = seat_view old (length gone) v.alone v.takes in
      let mine : Knows old (length h.gone) (length views) h.taker port v = h.known port v at in
      let seats : length (set views port w) ≡ length views = length-set views port w in (
        w,
        record {
          gone = gone;
          taker = h.taker;
          known = all_set (Knows (gone ++ items) (length gone) (length (set views port w)) h.taker) views port w
              (record {
                begins = subst (λ (l : List T). IsPrefix old l) (sym same) (prefix_self old);
                fewer = omega arith;
                whole = λ a. (seats ∙ (mine.whole a).0, sym same, refl);
                counts = λ t. ((mine.counts t).0, refl);
              })
              (λ j u other e. let theirs = h.known j u e in record {
                begins = subst (λ (l : List T). IsPrefix u.handed l) (sym same) theirs.begins;
                fewer = omega (arith, count, theirs.fewer);
                counts = λ t. absurd (other ((theirs.counts t).0 ∙ sym (mine.counts may).0));
                whole = λ a. let one = (theirs.whole a).0 in absurd (other (only views j u one e ∙ sym (only views port v one at)));
              });
        },
        record {
          count = length h.gone;
          later = mine.fewer;
          raised = count;
          begins = mine.begins;
          item = get_next h.gone x items;
          alone = refl;
          takes = refl;
          counts = λ t. sym (mine.counts t).1;
          whole = λ a. (sym (mine.whole a).1, sym (mine.whole a).2);
        },
      )

  pub stands : (port : ℕ) (v : SeatView T) → Learns IsInOrder port v (λ items. Stands v items)
  stands port v items views h at = let mine = h.known port v at in record {
    gone = h.gone;
    begins = mine.begins;
    fewer = mine.fewer;
    counts = λ t. (mine.counts t).1;
    whole = λ a. ((mine.whole a).1, (mine.whole a).2);
  }

  pub forks : (port : ℕ) (v : SeatView T) → Forks IsInOrder port v (seat_view v.handed v.taken false v.takes) (seat_view v.handed v.taken false false)
  forks port v items views h at =
      let all : List T = h.gone ++ items in
      let w : SeatView T = seat_view v.handed v.taken false v.takes in
      let r : SeatView T = seat_view v.handed v.taken false false in
      let vs : List (SeatView T) = set views port w in
      let mine : Knows all (length h.gone) (length views) h.taker port v = h.known port v at in
      let n : ℕ = length (vs ++ r ∷ []) in
      let left : Knows all (length h.gone) n h.taker port w = record { begins = mine.begins; fewer = mine.fewer; whole = λ a. absurd (true≢false (sym a)); counts = mine.counts } in
      let right : (j : ℕ) → Knows all (length h.gone) n h.taker j r = λ j. record { begins = mine.begins; fewer = mine.fewer; whole = λ a. absurd (true≢false (sym a)); counts = λ t. absurd (true≢false (sym t)) } in
      record {
        gone = h.gone;
        taker = h.taker;
        known = λ j u e. ⊎_elim
            (λ (x : get_elem? vs j ≡ some u). all_set (Knows all (length h.gone) n h.taker) views port w left
            (λ k y other e'. let theirs = h.known k y e' in record {
              begins = theirs.begins;
              fewer = theirs.fewer;
              whole = λ a. let one = (theirs.whole a).0 in absurd (other (only views k y one e' ∙ sym (only views port v one at)));
              counts = theirs.counts;
            }) j u x)
            (λ (is : r ≡ u). subst (Knows all (length h.gone) n h.taker j) is (right j))
            (at_snoc vs r u j e);
      }

  -- where the queue was empty, all that the taker had seen was taken
  pub all_taken : (v : SeatView T) → v.takes ≡ true → Stands v [] → length v.handed ≤ v.taken
  all_taken v t s =
      let n = s.counts t in
      let l : length v.handed + length s.begins.0 ≡ length (s.gone ++ []) = sym (length-append v.handed s.begins.0) ∙ ap length s.begins.1 in
      omega (arith, l, n, length-append s.gone [])

  -- what a take tells the seat that takes
  pub take_tells : (v w : SeatView T) (r : Option T) → v.takes ≡ true → MatchOption r ((w ≡ v) × Held 0 (Stands v)) (λ x. TakesNext v x w)
      → MatchOption r ((w ≡ v) × (length v.handed ≤ v.taken) × Held 0 (Stands v)) (λ x. TakesNext v x w × (w.taken ≡ v.taken + 1))
  take_tells v w None t h = (h.0, all_taken v t (subst (λ (l : List T). Stands v l) (none_in h.1.0 h.1.1) h.1.2), h.1)
    where
      none_in : (l : List T) → length l ≡ 0 → l ≡ []
      none_in [] e = refl
      none_in (x ∷ l) e = absurd (omega (arith, e))
  take_tells v w (Some x) t h = (h, h.raised ∙ ap (λ (n : ℕ). n + 1) (h.counts t))
