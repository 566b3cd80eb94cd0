-- Commands that only read, and those that take out.
use Rattle.std.specs.Prelude.{ℕ, suc, ◌-◌, ℤ, pos, negsuc, Bool, true, nat_le, if◌then◌else◌, List, [], length, take, drop, codes, Option, Some, None}
use Rattle.resp.specs.Replies.{Token, Simple, Number, String, Nothing}
use Rattle.commands.specs.Ranges.{place}
use Rattle.key_commands.specs.Values.{Value}
use Rattle.key_commands.specs.Outcomes.{Outcome, replies, removes}

abbrev pub got : Option Value → Token
got None = Nothing
got (Some v) = String v.bytes

abbrev pub presence : Option Value → Token
presence None = Number (pos 0)
presence (Some v) = Number (pos 1)

abbrev pub size_of : List ℕ → Token
size_of bytes = Number (pos (length bytes))

abbrev pub kind : Option Value → Token
kind None = Simple (codes "none")
kind (Some v) = Simple (codes "string")

abbrev pub string_of : List ℕ → Token
string_of bytes = String bytes

-- where both places count from the end, the first is not behind the last
abbrev pub are_in_order : ℤ → ℤ → Bool
are_in_order (negsuc m) (negsuc n) = nat_le n m
are_in_order first last = true

-- the bytes from the first place to the last; -1 is the place of the last byte
abbrev pub part : ℤ → ℤ → List ℕ → List ℕ
part first last bytes = if are_in_order first last then take (suc (place last (length bytes)) - place first (length bytes)) (drop (place first (length bytes)) bytes) else []

abbrev pub deleted : Option Value → Outcome
deleted None = replies (Number (pos 0))
deleted (Some v) = removes (Number (pos 1))

abbrev pub got_and_deleted : Option Value → Outcome
got_and_deleted None = replies Nothing
got_and_deleted (Some v) = removes (String v.bytes)
