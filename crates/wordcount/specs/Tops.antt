-- The words that are printed: the first of all that were taken.
use Rattle.std.specs.Prelude.{◌≡◌, ◌<◌, ◌≤◌, ◌++◌, ℕ, Bool, false, List, length, map}
use Rattle.std.specs.Ordering.{nat_cmp, ordering_then, is_lt}
use Rattle.std.specs.declared.cmp.Ordering.{Ordering}
use Rattle.std.specs.Cmp.Lexicographic.{slice_cmp}
use Rattle.std.specs.List.{All}
use Rattle.std.specs.List.Sorted.{IsPermutation}
use Rattle.std.specs.BinaryHeap.{heap_items}
use Rattle.std.specs.declared.alloc.Global.{Global}
use Rattle.std.specs.declared.cmp.Reverse.{Reverse}
use Rattle.std.specs.declared.collections.binary_heap.BinaryHeap.{BinaryHeap}
use Rattle.std.specs.declared.vec.Vec.{Vec}
use Rattle.wordcount.specs.Counts.{count_of}

-- a word with its count, of a pair of the map
abbrev pub counted : List ℕ × List ℕ → ℕ × List ℕ
counted pair = (count_of pair.1, pair.0)

-- the greater count first, and of equal ones the lesser word
abbrev pub print_cmp : ℕ × List ℕ → ℕ × List ℕ → Ordering
print_cmp one other = ordering_then (nat_cmp other.0 one.0) (slice_cmp nat_cmp one.1 other.1)

-- of all kept are the first, as many as there may be, in any order: none of the rest comes before one of them
pub record AreFirst {X : Type 0} (comes_before : X → X → Bool) (most : ℕ) (all kept : List X) : Type 0 where
  pub rest : List X
  pub split : IsPermutation all (kept ++ rest)
  pub few : length kept ≤ most
  pub full : 0 < length rest → length kept ≡ most
  pub first : All (λ other. All (λ one. comes_before other one ≡ false) kept) rest

-- the words of a heap, with their counts, in no order
abbrev pub words_in : BinaryHeap (Reverse ℕ × Vec ℕ Global) Global → List (ℕ × List ℕ)
words_in heap = map (λ word. (word.0.0, word.1.items)) (heap_items heap)

-- who kept the first of all that was given goes on to keep the first, where these were given too
abbrev pub GoesOn : ℕ → List (ℕ × List ℕ) → List (ℕ × List ℕ) → List (ℕ × List ℕ) → Type 0
GoesOn most old words new = (all : List (ℕ × List ℕ)) → AreFirst (λ one other. is_lt (print_cmp one other)) most all old → AreFirst (λ one other. is_lt (print_cmp one other)) most (all ++ words) new
