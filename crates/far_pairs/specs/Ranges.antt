-- Pairs as they are written, in the order of their keys, and cut at a key.
use Rattle.std.specs.Prelude.{◌≡◌, ℕ, Bool, true, false, List, ◌++◌, All}
use Rattle.std.specs.List.Sorted.{IsPermutation, IsSortedBy}
use Rattle.std.specs.Ordering.{is_lt, nat_cmp}
use Rattle.std.specs.Cmp.Lexicographic.{slice_cmp}

-- a pair's key comes before this one, by their bytes
abbrev pub is_before : List ℕ → List ℕ × List ℕ → Bool
is_before key e = is_lt (slice_cmp nat_cmp e.0 key)

-- the first pair's key comes before that of the second
abbrev pub key_before : List ℕ × List ℕ → List ℕ × List ℕ → Bool
key_before a b = is_before b.0 a

-- no pair's key comes before that of the pair in front of it
abbrev pub AreRising : List (List ℕ × List ℕ) → Type 0
AreRising pairs = IsSortedBy key_before pairs

-- the same pairs in the order of their keys
pub record AreMerged (pairs merged : List (List ℕ × List ℕ)) : Type 0 where
  pub same : IsPermutation pairs merged
  pub rising : AreRising merged

-- the same pairs in two lists: those whose keys come before this one, and the others
pub record AreCut (key : List ℕ) (pairs low high : List (List ℕ × List ℕ)) : Type 0 where
  pub same : IsPermutation pairs (low ++ high)
  pub before : All (λ e. is_before key e ≡ true) low
  pub behind : All (λ e. is_before key e ≡ false) high
