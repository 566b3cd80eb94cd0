-- The tokens of which replies are made.
use Rattle.std.specs.Prelude.{◌≡◌, ◌≢◌, ◌⊎◌, ◌-◌, ◌^◌, min, pos, ℕ, Bool, true, false, List, [], ◌∷◌, Option, Some, None}
use Rattle.resp.specs.Replies.{Token, Number, String, Nothing}

-- a value as it is replied, or the null reply
abbrev pub value_token : Option (List ℕ) → Token
value_token (Some bytes) = String bytes
value_token None = Nothing

-- 1, or 0
abbrev pub flag_token : Bool → Token
flag_token true = Number (pos 1)
flag_token false = Number (pos 0)

-- a number as it is replied: no more than 2^63 - 1
abbrev pub number_token : ℕ → Token
number_token n = Number (pos (min n (2 ^ 63 - 1)))

-- a key and its value
abbrev pub pair_tokens : (List ℕ × List ℕ) → List Token
pair_tokens pair = String pair.0 ∷ String pair.1 ∷ []

-- 1 if the key had the expected value, so that it was set; otherwise the value that it has
abbrev pub IsIfReply : Option (List ℕ) → Option (List ℕ) → List Token → Type 0
IsIfReply expected found rs = ((found ≡ expected) × (rs ≡ flag_token true ∷ [])) ⊎ ((found ≢ expected) × (rs ≡ value_token found ∷ []))
