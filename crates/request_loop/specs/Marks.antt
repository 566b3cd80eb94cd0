-- What is said on connections.
use Rattle.std.specs.Prelude.{◌≡◌, ℕ, Bool, true, false, List, [], ◌∷◌, ◌++◌, ◌==◌, if◌then◌else◌}

-- items on a connection, its end, or what is of no connection
pub data Mark (A : Type 0) : Type 0 where
  Piece : (connection : ℕ) (items : List A) → Mark A
  Stop : (connection : ℕ) → Mark A
  Else : Mark A

-- all that was said on connection c
abbrev pub said : {A : Type 0} → ℕ → List (Mark A) → List A
said c [] = []
said c (Piece d items ∷ marks) = if d == c then items ++ said c marks else said c marks
said c (Stop d ∷ marks) = said c marks
said c (Else ∷ marks) = said c marks

-- whether connection c was stopped
abbrev pub is_stopped : {A : Type 0} → ℕ → List (Mark A) → Bool
is_stopped c [] = false
is_stopped c (Piece d items ∷ marks) = is_stopped c marks
is_stopped c (Stop d ∷ marks) = if d == c then true else is_stopped c marks
is_stopped c (Else ∷ marks) = is_stopped c marks

-- behind the stop of connection c nothing is said on it, and it is not stopped again
abbrev pub EndsOnce : {A : Type 0} → ℕ → List (Mark A) → Type 0
EndsOnce c [] = Unit {0}
EndsOnce c (Piece d items ∷ marks) = EndsOnce c marks
EndsOnce c (Stop d ∷ marks) = (d ≡ c → (said c marks ≡ []) × (is_stopped c marks ≡ false)) × EndsOnce c marks
EndsOnce c (Else ∷ marks) = EndsOnce c marks
