-- Which bucket a key belongs to, and how keys compare.
use Rattle.std.specs.Prelude.{ℕ, ◌+◌, ◌*◌, ◌%◌, ◌^◌, List}
use Rattle.std.specs.List.{fold}
use Rattle.std.specs.Ordering.{nat_cmp}
use Rattle.std.specs.Cmp.Lexicographic.{slice_cmp}
use Rattle.std.specs.declared.cmp.Ordering.{Ordering}

-- the hash behind a byte: the byte is added to 31 times the hash before it
abbrev pub hashed : ℕ → ℕ → ℕ
hashed hash byte = (hash * 31 + byte) % 2 ^ 32

abbrev pub hash_of : List ℕ → ℕ
hash_of bytes = fold hashed 0 bytes

module _ {K : Type 0} (enc : K → List ℕ) where
  -- keys are compared by the bytes that they are written as
  abbrev pub key_cmp : K → K → Ordering
  key_cmp x y = slice_cmp nat_cmp (enc x) (enc y)

  -- the bucket of a key, of so many
  abbrev pub bucket : ℕ → K → ℕ
  bucket buckets k = hash_of (enc k) % buckets
