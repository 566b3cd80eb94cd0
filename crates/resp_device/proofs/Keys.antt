-- Keys of two objects differ.
use Rattle.std.proofs.Common.{◌≡◌, ℕ, zero, suc, ◌<◌, ◌/◌, ◌^◌, List, [], ◌∷◌, ◌++◌, length, drop, sym, ap, ◌∙◌, arith}
use Rattle.std.proofs.Math.Nat.{mod-lt}
use Rattle.std.proofs.Math.Seq.{drop-append_seam}
use Rattle.std.proofs.lemmas.Nat.{from_be_bytes-to_be_bytes_8}
use Rattle.std.specs.Int.{w64, w128, to_be_bytes, from_be_bytes, byte_at, bytes_high_first}
use Rattle.hex.specs.Hex.{IsBytes, encode_lower, decode_of}
use Rattle.hex.proofs.HexLemmas.{decode_of-encode_lower}
use Rattle.resp_device.specs.Wire.{key_of}

behind : (front x y : List ℕ) → front ++ x ≡ front ++ y → x ≡ y
behind front x y same = sym (drop-append_seam front x) ∙ (ap (λ (l : List ℕ). drop (length front) l) same ∙ drop-append_seam front y)

byte_small : (k n : ℕ) → byte_at k n < 256
byte_small zero n = mod-lt n (omega arith)
byte_small (suc k) n = mod-lt (n / 256 ^ suc k) (omega arith)

are_bytes : (k n : ℕ) → IsBytes (bytes_high_first k n)
are_bytes zero n i = omega arith
are_bytes (suc k) n zero = byte_small k n
are_bytes (suc k) n (suc i) = are_bytes k n i

hex_alone : (i j : ℕ) → i < 2 ^ 64 → j < 2 ^ 64 → encode_lower (to_be_bytes w64 i) ≡ encode_lower (to_be_bytes w64 j) → i ≡ j
hex_alone i j si sj same =
    let one = decode_of-encode_lower (to_be_bytes w64 i) (are_bytes 8 i) in
    let other = decode_of-encode_lower (to_be_bytes w64 j) (are_bytes 8 j) in
    let both = sym one ∙ (ap (λ (l : List ℕ). decode_of l) same ∙ other) in
    let bytes : to_be_bytes w64 i ≡ to_be_bytes w64 j = cc in
    sym (from_be_bytes-to_be_bytes_8 i si) ∙ (ap (λ (l : List ℕ). from_be_bytes w64 l) bytes ∙ from_be_bytes-to_be_bytes_8 j sj)

tail_of : (x : ℕ) (a b : List ℕ) → x ∷ a ≡ x ∷ b → a ≡ b
tail_of x a b same = cc

pub keys_apart : (prefix lane i j : ℕ) → i < 2 ^ 64 → j < 2 ^ 64 → key_of prefix lane i ≡ key_of prefix lane j → i ≡ j
keys_apart prefix lane i j si sj same =
    let a = encode_lower (to_be_bytes w64 i) in
    let b = encode_lower (to_be_bytes w64 j) in
    let middle = encode_lower (lane ∷ []) in
    let first = tail_of 58 (middle ++ 58 ∷ a) (middle ++ 58 ∷ b) (behind (encode_lower (to_be_bytes w128 prefix)) (58 ∷ (middle ++ 58 ∷ a)) (58 ∷ (middle ++ 58 ∷ b)) same) in
    hex_alone i j si sj (tail_of 58 a b (behind middle (58 ∷ a) (58 ∷ b) first))
