-- Requests to a store as they are spelled, and what goes to and fro at a call.
use Rattle.std.specs.Prelude.{◌≡◌, ℕ, ◌<◌, ◌≤◌, ◌^◌, pos, List, [], ◌∷◌, ◌++◌, length, Option, codes}
use Rattle.std.specs.Int.{w64, w128, to_be_bytes}
use Rattle.std.specs.Io.KnownBytes.{Appends, Consumes}
use Rattle.hex.specs.Hex.{encode_lower}
use Rattle.resp.specs.declared.limits.Limits.{Limits}
use Rattle.resp.specs.declared.tokens.Token.{Token as Read}
use Rattle.resp.specs.Requests.{array}
use Rattle.resp.specs.Replies.{token, token_in, Simple, Number, String, IsTaken, IsWithin}

-- the prefix as 32 hex digits, the lane as 2, and the id as 16, with colons between
abbrev pub key_of : ℕ → ℕ → ℕ → List ℕ
key_of prefix lane id = encode_lower (to_be_bytes w128 prefix) ++ 58 ∷ (encode_lower (lane ∷ []) ++ 58 ∷ encode_lower (to_be_bytes w64 id))

abbrev pub set_request : List ℕ → List ℕ → List ℕ
set_request key bytes = array (codes "SET" ∷ key ∷ bytes ∷ [])

abbrev pub get_request : List ℕ → List ℕ
get_request key = array (codes "GET" ∷ key ∷ [])

abbrev pub delete_request : List ℕ → List ℕ
delete_request key = array (codes "DEL" ∷ key ∷ [])

-- no array, a string of so many bytes at most, and a line of 4096
abbrev pub limits_of : ℕ → Limits
limits_of most = record { arguments = 0; bytes = most; line = 4096 }

-- the bytes are just the token that was read, which the limits admit
pub record IsWhole (limits : Limits) (bytes : List ℕ) (read : Read) : Type 0 where
  pub is : bytes ≡ token (token_in bytes read)
  pub may : IsTaken limits (token_in bytes read)
  pub within : IsWithin (length bytes) read

-- the request was sent whole, and then just this reply was taken
pub record Exchanges {P : Type 0} (contents remaining : P → Option (List ℕ)) (old new : P) (request reply : List ℕ) : Type 0 where
  pub asked : P
  pub sent : Appends (contents old) (contents asked) request
  pub came : Consumes (remaining asked) (remaining new) reply

-- SET, which was replied +OK
abbrev pub IsStored : {P : Type 0} → (contents remaining : P → Option (List ℕ)) → (old new : P) → (key bytes : List ℕ) → Type 0
IsStored contents remaining old new key bytes = Exchanges contents remaining old new (set_request key bytes) (token (Simple (codes "OK")))

-- GET, which was replied the bytes that the caller's vector gained
abbrev pub IsFetched : {P : Type 0} → (contents remaining : P → Option (List ℕ)) → (old new : P) → (key before after : List ℕ) → Type 0
IsFetched contents remaining old new key before after = (given : List ℕ) × (after ≡ before ++ given) × Exchanges contents remaining old new (get_request key) (token (String given))

-- DEL, which was replied :0 or :1
abbrev pub IsDeleted : {P : Type 0} → (contents remaining : P → Option (List ℕ)) → (old new : P) → (key : List ℕ) → Type 0
IsDeleted contents remaining old new key = (n : ℕ) × (n ≤ 1) × Exchanges contents remaining old new (delete_request key) (token (Number (pos n)))

-- no two objects of a device have one key
abbrev pub KeysAreApart : Type 0
KeysAreApart = (prefix lane i j : ℕ) → i < 2 ^ 64 → j < 2 ^ 64 → key_of prefix lane i ≡ key_of prefix lane j → i ≡ j
