-- What a word is.
use Rattle.std.specs.Prelude.{◌≡◌, ◌<◌, ◌++◌, ◌||◌, ℕ, Bool, true, false, nat_lt, List, [], ◌∷◌, length, Option, Some, None, ⊤}
use Rattle.std.specs.List.{All}
use denote.Ref.{Bor}
use Rattle.std.specs.Char.{is_ascii_alphanumeric}

-- an ASCII letter or digit, or a byte above 127
abbrev pub is_of_word : ℕ → Bool
is_of_word byte = is_ascii_alphanumeric byte || nat_lt 127 byte

-- it is empty, or its first byte is of a word, or is not
abbrev pub BeginsWith : Bool → List ℕ → Type 0
BeginsWith of_word [] = ⊤
BeginsWith of_word (byte ∷ _) = is_of_word byte ≡ of_word

-- a text's first word, which goes on as far as it can, and the rest behind it
pub record IsWordThen (text word rest : List ℕ) : Type 0 where
  pub gap : List ℕ
  pub split : text ≡ gap ++ (word ++ rest)
  pub before : All (λ byte. is_of_word byte ≡ false) gap
  pub within : All (λ byte. is_of_word byte ≡ true) word
  pub some : 0 < length word
  pub behind : BeginsWith false rest

-- the first word and the rest, or none where there is no word
abbrev pub IsFirst : List ℕ → Option (Bor (List ℕ) × Bor (List ℕ)) → Type 0
IsFirst text (Some parts) = IsWordThen text parts.0.now parts.1.now
IsFirst text None = All (λ byte. is_of_word byte ≡ false) text
