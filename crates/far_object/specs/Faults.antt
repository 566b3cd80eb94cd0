-- Which fault comes first.
use Rattle.std.specs.Prelude.{zero, suc, ℕ, ◌||◌, ltb, Bool, true, false, if◌then◌else◌, List, [], ◌∷◌, length, take, drop, Option, Some, None, Result, Ok, Err}
use Rattle.std.specs.Int.{w32, from_be_bytes}
use Rattle.std.specs.Ordering.{nat_cmp, is_lt}
use Rattle.std.specs.Cmp.Lexicographic.{slice_cmp}
use Rattle.far_object.specs.declared.fault.ObjectFault.{ObjectFault}
use Rattle.far_object.specs.declared.fault.ObjectFault.TheVariants.{Short, Trailing, Disorder, CountWrong}
use Rattle.far_object.specs.Formats.{start_of}
use Rattle.far_object.specs.Objects.{most_pairs}

abbrev pub trailing : List ℕ → Option ObjectFault
trailing [] = None
trailing (b ∷ bs) = Some Trailing

module _ {K V : Type 0} (ek : K → List ℕ) (ev : V → List ℕ) (dk : List ℕ → Option K) (dv : List ℕ → Option V) where
  -- behind a key: the value, and then the rest
  abbrev pub fault_behind : (List ℕ → Option ObjectFault) → List ℕ → Option V → Option ObjectFault
  fault_behind rest bs None = Some Short
  fault_behind rest bs (Some v) = rest (drop (length (ev v)) bs)

  -- at a key: it is above the last one, if it is not the first
  abbrev pub fault_at : (List ℕ → List ℕ → Option ObjectFault) → Bool → List ℕ → List ℕ → Option K → Option ObjectFault
  fault_at rest first last bs None = Some Short
  fault_at rest first last bs (Some k) =
      if first || is_lt (slice_cmp nat_cmp last (ek k)) then fault_behind (rest (ek k)) (drop (length (ek k)) bs) (dv (drop (length (ek k)) bs)) else Some Disorder

  -- the first fault of n pairs, of which the last key before them was written so
  abbrev pub fault_in : ℕ → Bool → List ℕ → List ℕ → Option ObjectFault
  fault_in zero first last bs = trailing bs
  fault_in (suc n) first last bs = fault_at (fault_in n false) first last bs (dk bs)

  -- the first fault of an object's bytes
  abbrev pub fault_of : List ℕ → Option ObjectFault
  fault_of bytes =
      if ltb (length bytes) 4 then Some Short
      else if ltb most_pairs (from_be_bytes w32 (take 4 bytes)) then Some CountWrong
      else fault_in (from_be_bytes w32 (take 4 bytes)) true [] (drop 4 bytes)

  -- the first fault of bytes whose object begins at this place
  abbrev pub fault_behind_start : List ℕ → Result ℕ ObjectFault → Option ObjectFault
  fault_behind_start bytes (Err fault) = Some fault
  fault_behind_start bytes (Ok start) = fault_of (drop start bytes)

  -- the first fault of bytes that are to be the object of this bucket and name, in either format
  abbrev pub placed_fault : ℕ → ℕ → List ℕ → Option ObjectFault
  placed_fault bucket name bytes = fault_behind_start bytes (start_of bucket name bytes)
