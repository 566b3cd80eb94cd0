-- Numbers that are added to a value.
use Rattle.std.specs.Prelude.{◌≡◌, ◌≢◌, ◌⊎◌, ℕ, ℤ, ◌+ℤ◌, FitsSigned, List, codes, Option, Some, None}
use Rattle.std.specs.Int.{w64}
use Rattle.std.specs.Fmt.{signed_decimal}
use Rattle.resp.specs.Replies.{Number, String}
use Rattle.key_commands.specs.Values.{Value, deadline_of}
use Rattle.key_commands.specs.Outcomes.{Outcome, fails, sets}

abbrev pub no_whole_number : List ℕ
no_whole_number = codes "ERR value is not an integer or out of range"

abbrev pub overflow : List ℕ
overflow = codes "ERR increment or decrement would overflow"

abbrev pub no_float : List ℕ
no_float = codes "ERR value is not a valid float"

abbrev pub no_finite_sum : List ℕ
no_finite_sum = codes "ERR increment would produce NaN or Infinity"

-- where there is no value, 0 counts
abbrev pub counted : Option Value → List ℕ
counted None = codes "0"
counted (Some v) = v.bytes

-- the value is a number of 64 bits with a sign, the sum is one too, and it is set and replied
pub record Increases (by : ℤ) (v : Option Value) (o : Outcome) : Type 0 where
  pub was : ℤ
  pub is : counted v ≡ signed_decimal was
  pub fits : FitsSigned w64 (was +ℤ by)
  pub outcome : o ≡ sets (Number (was +ℤ by)) (deadline_of v) (signed_decimal (was +ℤ by))

-- the value is a number, and the sum is not of 64 bits
pub record Overflows (by : ℤ) (v : Option Value) (o : Outcome) : Type 0 where
  pub was : ℤ
  pub is : counted v ≡ signed_decimal was
  pub fits : FitsSigned w64 was
  pub over : ¬ (FitsSigned w64 (was +ℤ by))
  pub outcome : o ≡ fails overflow

-- the value is no number of 64 bits
pub record IsNoNumber (v : Option Value) (o : Outcome) : Type 0 where
  pub none : (z : ℤ) → FitsSigned w64 z → counted v ≢ signed_decimal z
  pub outcome : o ≡ fails no_whole_number

abbrev pub Adds : ℤ → Option Value → Outcome → Type 0
Adds by v o = Increases by v o ⊎ (Overflows by v o ⊎ IsNoNumber v o)

-- what is set and replied is one text, and the deadline stays; which text is not said
pub record AddsFloat (v : Option Value) (o : Outcome) : Type 0 where
  pub text : List ℕ
  pub outcome : (o ≡ sets (String text) (deadline_of v) text) ⊎ ((o ≡ fails no_float) ⊎ (o ≡ fails no_finite_sum))
