-- What is put behind the bytes of before: replies, each of them whole.
use Rattle.std.specs.Prelude.{◌≡◌, ℕ, zero, suc, ◌+◌, ◌*◌, List, [], ◌∷◌, ◌++◌, flat_map}
use Rattle.resp.specs.Replies.{Token, token, Simple, Failure, Number, String, Nothing, Count, NoArray}

-- how many replies stand behind a token and belong to it
abbrev pub members : Token → ℕ
members (Simple text) = 0
members (Failure text) = 0
members (Number n) = 0
members (String bytes) = 0
members Nothing = 0
members (Count n) = n
members NoArray = 0

-- these tokens are just so many replies: an array is its count, and that many replies behind it
abbrev pub AreReplies : ℕ → List Token → Type 0
AreReplies n [] = n ≡ 0
AreReplies zero (t ∷ ts) = ⊥
AreReplies (suc n) (t ∷ ts) = AreReplies (n + members t) ts

-- just so many replies are put behind the bytes of before
pub record Replies (n : ℕ) (before after : List ℕ) : Type 0 where
  pub tokens : List Token
  pub whole : AreReplies n tokens
  pub spelled : after ≡ before ++ flat_map token tokens

-- an array of an even number of replies
pub record RepliesEven (before after : List ℕ) : Type 0 where
  pub pairs : ℕ
  pub tokens : List Token
  pub whole : AreReplies (2 * pairs) tokens
  pub spelled : after ≡ before ++ flat_map token (Count (2 * pairs) ∷ tokens)

-- just these tokens are put behind the bytes of before
pub record Tells (tokens : List Token) (before after : List ℕ) : Type 0 where
  pub spelled : after ≡ before ++ flat_map token tokens

-- the bytes of before are still there
pub record Grows (before after : List ℕ) : Type 0 where
  pub more : List ℕ
  pub longer : after ≡ before ++ more
