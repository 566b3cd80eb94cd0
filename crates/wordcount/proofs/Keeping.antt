-- A list that keeps the first of all that it was given takes one more.
use Rattle.std.proofs.Common.{◌≡◌, ◌<◌, ◌≤◌, ◌+◌, ◌++◌, ℕ, Bool, true, false, List, [], ◌∷◌, length, map, arith, rules, refl, sym, ap, ◌∙◌, subst, append_assoc, length-append}
use mathlib.Core.Bool.{cond, true≢false}
use Rattle.std.specs.Cmp.{IsStrictWeakOrder}
use Rattle.std.specs.List.{All, AllByRecursion, count_by}
use Rattle.std.specs.List.Sorted.{IsPermutation}
use Rattle.std.proofs.lemmas.List.Elements.{All-cons, All-tail, All-head, All-weaker, All-from_recursion, recursion_from_All}
use Rattle.std.proofs.lemmas.List.Sorted.{All-permutation, IsPermutation-trans, IsPermutation-sym, IsPermutation-middle, IsPermutation-append_left, IsPermutation-push_more, length_permutation, sum_by-IsPermutation}
use Rattle.std.proofs.lemmas.List.Sums.{sum_by-cons}
use Rattle.std.proofs.lemmas.List.Elements.{All-map}
use Rattle.std.proofs.lemmas.List.Sorted.{IsPermutation-map, ranks_by}
use Rattle.std.proofs.lemmas.List.{append-nil}
use Rattle.std.proofs.lemmas.Cmp.{nat_cmp_total, nat_list_cmp_total, on_total, then_total, back_total}
use Rattle.std.specs.BinaryHeap.{heap_items, heap_len, IsHeap, IsUpperBound, KeepsHeap, PopsGreatest}
use Rattle.std.specs.Cmp.{IsTotalOrder}
use Rattle.std.specs.Ordering.{nat_cmp, is_lt}
use Rattle.std.specs.Prelude.{suc, Option, Some, None, IfSome, IfNone}
use Rattle.std.specs.declared.alloc.Global.{Global}
use Rattle.std.specs.declared.cmp.Reverse.{Reverse}
use Rattle.std.specs.declared.collections.binary_heap.BinaryHeap.{BinaryHeap}
use Rattle.std.specs.declared.vec.Vec.{Vec}
use Rattle.wordcount.specs.Tops.{AreFirst, GoesOn, counted, print_cmp, words_in}

abbrev one_if : Bool → ℕ
one_if test = cond test 1 0

split_test : (b test : Bool) (count : ℕ) (P : Type 0) → test ≡ b → one_if test + count ≡ 0 → (count ≡ 0 → P) → (test ≡ false) × P
split_test true test count P is sum then = absurd (let one : one_if test ≡ 1 = simp is refl in omega (arith, one, sum))
split_test false test count P is sum then = let none : one_if test ≡ 0 = simp is refl in (is, then (omega (arith, none, sum)))

module _ {X : Type 0} where
  -- none passes a test just where as many as none are counted
  none_counted : (test : X → Bool) (xs : List X) → AllByRecursion (λ x. test x ≡ false) xs → count_by test xs ≡ 0
  none_counted test [] all = refl
  none_counted test (x ∷ xs) all = sum_by-cons (λ y. one_if (test y)) x xs ∙ (let fails : test x ≡ false = all.0 in let rest : count_by test xs ≡ 0 = none_counted test xs all.1 in simp (fails, rest) refl)

  none_passes : (test : X → Bool) (xs : List X) → count_by test xs ≡ 0 → AllByRecursion (λ x. test x ≡ false) xs
  none_passes test [] none = tt
  none_passes test (x ∷ xs) none = split_test (test x) (test x) (count_by test xs) _ refl (sym (sum_by-cons (λ y. one_if (test y)) x xs) ∙ none) (none_passes test xs)

  module _ (lt : X → X → Bool) (order : IsStrictWeakOrder lt) where
    -- one came and the last went: what is left comes no later than what came no earlier than all before
    still_cases : (b : Bool) (other x last : X) (kept left : List X) → lt other x ≡ b → IsPermutation (x ∷ kept) (last ∷ left) → lt last x ≡ false → All (λ one. lt other one ≡ false) kept → All (λ one. lt other one ≡ false) left
    still_cases false other x last kept left is moved upto all = All-tail (λ one. lt other one ≡ false) last left (All-permutation (λ one. lt other one ≡ false) (x ∷ kept) (last ∷ left) moved (All-cons (λ one. lt other one ≡ false) x kept is all))
    still_cases true other x last kept left is moved upto all = All-from_recursion (λ one. lt other one ≡ false) left (none_passes (lt other) left (
        let before : count_by (lt other) (x ∷ kept) ≡ one_if (lt other x) + count_by (lt other) kept = sum_by-cons (λ y. one_if (lt other y)) x kept in
        let after : count_by (lt other) (last ∷ left) ≡ one_if (lt other last) + count_by (lt other) left = sum_by-cons (λ y. one_if (lt other y)) last left in
        let same : count_by (lt other) (last ∷ left) ≡ count_by (lt other) (x ∷ kept) = sum_by-IsPermutation (λ y. one_if (lt other y)) (x ∷ kept) (last ∷ left) moved in
        let none : count_by (lt other) kept ≡ 0 = none_counted (lt other) kept (recursion_from_All (λ one. lt other one ≡ false) kept all) in
        let one : one_if (lt other x) ≡ 1 = simp is refl in
        let other_one : one_if (lt other last) ≡ 1 = last_passes (lt other last) refl in
        omega (arith, before, after, same, none, one, other_one)))
      where
        last_passes : (b : Bool) → lt other last ≡ b → one_if (lt other last) ≡ 1
        last_passes true found = simp found refl
        last_passes false found = absurd (true≢false (sym is ∙ order.chain other last x found upto))

    still : (other x last : X) (kept left : List X) → IsPermutation (x ∷ kept) (last ∷ left) → lt last x ≡ false → All (λ one. lt other one ≡ false) kept → All (λ one. lt other one ≡ false) left
    still other x last kept left = still_cases (lt other x) other x last kept left refl

    -- one more where there is room
    pub grows : (most : ℕ) (all kept grown : List X) (x : X) → IsPermutation (x ∷ kept) grown → length grown ≤ most → AreFirst lt most all kept → AreFirst lt most (all ++ x ∷ []) grown
    grows most all kept grown x pushed room f =
        let longer : length grown ≡ length (x ∷ kept) = length_permutation (x ∷ kept) grown pushed in
        record {
          rest = f.rest;
          split = IsPermutation-push_more all (kept ++ f.rest) (grown ++ f.rest) x f.split (IsPermutation-append_left f.rest (x ∷ kept) grown pushed);
          few = room;
          full = λ some. absurd (let were : length kept ≡ most = f.full some in omega (arith, were, longer, room));
          first = λ k d within. absurd (let were : length kept ≡ most = f.full (omega (arith, within)) in omega (arith, were, longer, room));
        }

    -- one more, and the last goes
    pub stays : (most : ℕ) (all kept grown left : List X) (x last : X) → IsPermutation (x ∷ kept) grown → IsPermutation grown (last ∷ left) → All (λ one. lt last one ≡ false) grown → most < length grown → AreFirst lt most all kept → AreFirst lt most (all ++ x ∷ []) left
    stays most all kept grown left x last pushed popped greatest over f =
        let moved : IsPermutation (x ∷ kept) (last ∷ left) = IsPermutation-trans (x ∷ kept) grown (last ∷ left) pushed popped in
        let longer : length grown ≡ length (x ∷ kept) = length_permutation (x ∷ kept) grown pushed in
        let shorter : length (last ∷ left) ≡ length grown = length_permutation grown (last ∷ left) popped in
        let few : length kept ≤ most = f.few in
        let upto : lt last x ≡ false = All-head (λ one. lt last one ≡ false) x kept (All-permutation (λ one. lt last one ≡ false) grown (x ∷ kept) (IsPermutation-sym (x ∷ kept) grown pushed) greatest) in
        record {
          rest = last ∷ f.rest;
          split = IsPermutation-push_more all (kept ++ f.rest) (left ++ last ∷ f.rest) x f.split (
              IsPermutation-trans (x ∷ kept ++ f.rest) ((last ∷ left) ++ f.rest) (left ++ last ∷ f.rest) (IsPermutation-append_left f.rest (x ∷ kept) (last ∷ left) moved)
              (IsPermutation-sym (left ++ last ∷ f.rest) (last ∷ (left ++ f.rest)) (IsPermutation-middle left last f.rest)));
          few = omega (arith, longer, shorter, few);
          full = λ some. omega (arith, longer, shorter, few, over);
          first = All-cons (λ other. All (λ one. lt other one ≡ false) left) last f.rest (All-tail (λ one. lt last one ≡ false) last left (All-permutation (λ one. lt last one ≡ false) grown (last ∷ left) popped greatest))
              (All-weaker (λ other. All (λ one. lt other one ≡ false) kept) (λ other. All (λ one. lt other one ≡ false) left) (λ other. still other x last kept left moved upto) f.rest f.first);
        }

abbrev Word : Type 0
Word = Reverse ℕ × Vec ℕ Global

abbrev shown : Word → ℕ × List ℕ
shown word = (word.0.0, word.1.items)

abbrev by_shown : Word → Word → Rattle.std.specs.declared.cmp.Ordering.Ordering
by_shown one other = print_cmp (shown one) (shown other)

abbrev comes_first : ℕ × List ℕ → ℕ × List ℕ → Bool
comes_first one other = is_lt (print_cmp one other)

total : IsTotalOrder print_cmp
total = then_total (back_total (on_total (λ (e : ℕ × List ℕ). e.0) nat_cmp_total)) (on_total (λ (e : ℕ × List ℕ). e.1) nat_list_cmp_total)

order : IsStrictWeakOrder comes_first
order = ranks_by total (λ e. e)

shown_as : (item : Word) (count : ℕ) (word : List ℕ) → item.0.0 ≡ count → item.1.items ≡ word → shown item ≡ (count, word)
shown_as item count word is same = ap (λ (n : ℕ). (n, item.1.items)) is ∙ ap (λ (w : List ℕ). (count, w)) same

pushed : (x : ℕ × List ℕ) (item : Word) (old new : List Word) → shown item ≡ x → IsPermutation (item ∷ old) new → IsPermutation (x ∷ map shown old) (map shown new)
pushed x item old new is moved = subst (λ (y : ℕ × List ℕ). IsPermutation (y ∷ map shown old) (map shown new)) is (IsPermutation-map shown (item ∷ old) new moved)

shown_length : (words : List Word) → length (map shown words) ≡ length words
shown_length [] = refl
shown_length (word ∷ words) = ap suc (shown_length words)

-- a word that was pushed where there is room
pub word_stays : (most count : ℕ) (word : List ℕ) (old new : BinaryHeap Word Global) (item : Word) → item.0.0 ≡ count → item.1.items ≡ word → IsPermutation (item ∷ heap_items old) (heap_items new) → heap_len new ≤ most →
    GoesOn most (words_in old) ((count, word) ∷ []) (words_in new)
word_stays most count word old new item is same moved room = λ all.
    grows comes_first order most all (words_in old) (words_in new) (count, word) (pushed (count, word) item (heap_items old) (heap_items new) (shown_as item count word is same) moved)
    (let long : heap_len new ≡ length (heap_items new) = new.data.ok.0 in let alike : length (map shown (heap_items new)) ≡ length (heap_items new) = shown_length (heap_items new) in omega (arith, long, alike, room))

-- a word that was pushed, and the last that was popped then
pub word_or_last_goes : (most count : ℕ) (word : List ℕ) (old grown new : BinaryHeap Word Global) (item : Word) (popped : Option Word) → item.0.0 ≡ count → item.1.items ≡ word → IsPermutation (item ∷ heap_items old) (heap_items grown) → most < heap_len grown →
    IsHeap by_shown (heap_items grown) → IfSome popped (λ last. IsPermutation (heap_items grown) (last ∷ heap_items new)) → IfSome popped (λ last. PopsGreatest by_shown (heap_items grown) last (heap_items new)) → IfNone popped (heap_len grown ≡ 0) →
    GoesOn most (words_in old) ((count, word) ∷ []) (words_in new)
word_or_last_goes most count word old grown new item None is same moved over heap gone greatest none = absurd (omega (arith, over, none))
word_or_last_goes most count word old grown new item (Some last) is same moved over heap gone greatest none = λ all.
    stays comes_first order most all (words_in old) (words_in grown) (words_in new) (count, word) (shown last) (pushed (count, word) item (heap_items old) (heap_items grown) (shown_as item count word is same) moved)
    (IsPermutation-map shown (heap_items grown) (last ∷ heap_items new) gone)
    (All-map (λ (one : ℕ × List ℕ). comes_first (shown last) one ≡ false) shown (heap_items grown) (All-from_recursion (λ (one : Word). comes_first (shown last) (shown one) ≡ false) (heap_items grown) ((greatest heap).1)))
    (let long : heap_len grown ≡ length (heap_items grown) = grown.data.ok.0 in let alike : length (map shown (heap_items grown)) ≡ length (heap_items grown) = shown_length (heap_items grown) in omega (arith, long, alike, over))
