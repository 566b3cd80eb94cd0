-- How long values last.
use Rattle.std.specs.Prelude.{ℕ, ◌+◌, ◌-◌, ◌/◌, ℤ, pos, negsuc, min, Bool, ◌==◌, ◌&&◌, ◌||◌, not, nat_le, if◌then◌else◌, List, Option, Some, None}
use Rattle.resp.specs.Replies.{Token, Number, String, Nothing}
use Rattle.commands.specs.declared.command.Lifetime.{Lifetime}
use Rattle.commands.specs.declared.command.Lifetime.TheVariants as lifetime
use Rattle.commands.specs.declared.command.Only.{Only}
use Rattle.key_commands.specs.Values.{Value}
use Rattle.key_commands.specs.Outcomes.{Outcome, replies, sets, removes}

-- the greatest number of 64 bits with a sign, or less
abbrev pub capped : ℕ → ℕ
capped n = min n 9223372036854775807

-- -2 where there is no value, and -1 where it has no deadline
abbrev pub milliseconds_after : ℕ → Option Value → ℤ
milliseconds_after from None = negsuc 1
milliseconds_after from (Some v) = if v.deadline == 0 then negsuc 0 else pos (capped (v.deadline - from))

-- to the nearest second
abbrev pub seconds_after : ℕ → Option Value → ℤ
seconds_after from None = negsuc 1
seconds_after from (Some v) = if v.deadline == 0 then negsuc 0 else pos ((capped (v.deadline - from) + 500) / 1000)

abbrev pub persisted : Option Value → Outcome
persisted None = replies (Number (pos 0))
persisted (Some v) = if v.deadline == 0 then replies (Number (pos 0)) else sets (Number (pos 1)) 0 v.bytes

-- bytes with a deadline that is over go
abbrev pub expires : Token → ℕ → ℕ → List ℕ → Outcome
expires r now deadline bytes = if nat_le deadline now then removes r else sets r deadline bytes

abbrev pub lasting : Lifetime → ℕ → Value → Outcome
lasting lifetime.Keep now v = replies (String v.bytes)
lasting lifetime.Forever now v = if v.deadline == 0 then replies (String v.bytes) else sets (String v.bytes) 0 v.bytes
lasting (lifetime.Until deadline) now v = expires (String v.bytes) now deadline v.bytes

abbrev pub got_for : Lifetime → ℕ → Option Value → Outcome
got_for l now None = replies Nothing
got_for l now (Some v) = lasting l now v

-- NX: there is no deadline; XX: there is one; GT: the new one is later, and none is later than none; LT: it is earlier, or there is none
abbrev pub may_change : Only → ℕ → ℕ → Bool
may_change only present new =
    not (only.absent && not (present == 0)) && not (only.present && (present == 0))
    && not (only.later && ((present == 0) || nat_le new present)) && not (only.earlier && not (present == 0) && nat_le present new)

abbrev pub expired : ℕ → Only → ℕ → Option Value → Outcome
expired deadline only now None = replies (Number (pos 0))
expired deadline only now (Some v) = if may_change only v.deadline deadline then expires (Number (pos 1)) now deadline v.bytes else replies (Number (pos 0))
