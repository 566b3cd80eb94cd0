-- How blobs are written as bytes.
use Rattle.std.specs.Prelude.{◌≡◌, ℕ, ◌^◌, ◌≤◌, ltb, if◌then◌else◌, List, ◌++◌, length, take, drop, Option, Some, None}
use Rattle.std.specs.Int.{w32, to_be_bytes, from_be_bytes}
use Rattle.far_object.specs.Encodings.{AreBytes}

abbrev pub most_bytes : ℕ
most_bytes = 2 ^ 24

abbrev pub enc_blob : List ℕ → List ℕ
enc_blob b = to_be_bytes w32 (length b) ++ b

abbrev pub IsBlob : List ℕ → Type 0
IsBlob b = (length b ≤ most_bytes) × AreBytes b

-- the first n bytes, where there are so many and they are not too many
abbrev pub blob_after : ℕ → List ℕ → Option (List ℕ)
blob_after n bs = if ltb most_bytes n then None else (if ltb (length bs) n then None else Some (take n bs))

abbrev pub dec_blob : List ℕ → Option (List ℕ)
dec_blob bs = if ltb (length bs) 4 then None else blob_after (from_be_bytes w32 (take 4 bs)) (drop 4 bs)
