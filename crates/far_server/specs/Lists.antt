-- What is replied of keys of the map.
use Rattle.std.specs.Prelude.{◌≡◌, ◌⊎◌, ℕ, List, [], ◌∷◌, map, Contains}
use Rattle.resp.specs.Replies.{Token, String, Nothing}
use Rattle.stored_keys.specs.StoredKeys.{client_key}

-- the client's key of a stored one
abbrev pub told_key : List ℕ → Token
told_key stored = String (client_key stored)

-- of each of them
abbrev pub told_keys : List (List ℕ) → List Token
told_keys stored = map told_key stored

-- of one of them, or nothing where there is none
abbrev pub IsToldOne : List (List ℕ) → List Token → Type 0
IsToldOne stored rs = ((stored ≡ []) × (rs ≡ Nothing ∷ [])) ⊎ ((key : List ℕ) × Contains stored key × (rs ≡ told_key key ∷ []))
