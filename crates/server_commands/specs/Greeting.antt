-- What HELLO replies.
use Rattle.std.specs.Prelude.{ℕ, pos, min, List, [], ◌∷◌, codes}
use Rattle.resp.specs.Replies.{Token, Number, String, Count}

-- seven names, each with its value behind it
abbrev pub greeting : ℕ → List Token
greeting client = Count 14 ∷ String (codes "server") ∷ String (codes "redis") ∷ String (codes "version") ∷ String (codes "7.0.15") ∷ String (codes "proto") ∷ Number (pos 2) ∷ String (codes "id") ∷ Number (pos (min client 9223372036854775807)) ∷ String (codes "mode") ∷ String (codes "standalone") ∷ String (codes "role") ∷ String (codes "master") ∷ String (codes "modules") ∷ Count 0 ∷ []
