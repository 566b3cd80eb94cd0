-- The two formats of an object.
use Rattle.std.specs.Prelude.{ℕ, nat_eq, ltb, if◌then◌else◌, List, [], ◌∷◌, ◌++◌, length, Result, Ok, Err}
use Rattle.std.specs.Int.{w32, w64, to_be_bytes}
use Rattle.std.specs.List.{starts_with}
use Rattle.far_object.specs.declared.fault.ObjectFault.{ObjectFault}
use Rattle.far_object.specs.declared.fault.ObjectFault.TheVariants.{Short, Misplaced}
use Rattle.far_object.specs.declared.format.Format.{Format}
use Rattle.far_object.specs.declared.format.Format.TheVariants.{One, Two}
use Rattle.far_object.specs.Objects.{object_of}

-- what a header begins with, and no object
abbrev pub marker : List ℕ
marker = 255 ∷ 255 ∷ 255 ∷ 255 ∷ []

-- the header of a bucket and a name
abbrev pub header_of : ℕ → ℕ → List ℕ
header_of bucket name = marker ++ (to_be_bytes w32 bucket ++ to_be_bytes w64 name)

-- the one spelling of a map in a format, for a bucket and a name
abbrev pub spelling : {K V : Type 0} → (K → List ℕ) → (V → List ℕ) → Format → ℕ → ℕ → List (K × V) → List ℕ
spelling ek ev One bucket name es = object_of ek ev es
spelling ek ev Two bucket name es = header_of bucket name ++ object_of ek ev es

-- where the object begins: behind the header of this bucket and name, or at once where there is no header
abbrev pub start_of : ℕ → ℕ → List ℕ → Result ℕ ObjectFault
start_of bucket name bytes =
    if starts_with nat_eq bytes marker then
    (if starts_with nat_eq bytes (header_of bucket name) then Ok 16
    else if ltb (length bytes) 16 then Err Short
    else Err Misplaced)
    else Ok 0
