-- Commands that set a value.
use Rattle.std.specs.Prelude.{ℕ, pos, Bool, true, false, if◌then◌else◌, List, length, codes, Option, Some, None}
use Rattle.resp.specs.Replies.{Token, Simple, Number, Nothing}
use Rattle.commands.specs.declared.command.Lifetime.{Lifetime}
use Rattle.commands.specs.declared.command.Lifetime.TheVariants as lifetime
use Rattle.commands.specs.declared.command.Where.{Where}
use Rattle.commands.specs.declared.command.Where.TheVariants as places
use Rattle.commands.specs.declared.command.Change.{Change}
use Rattle.key_commands.specs.Values.{Value, deadline_of}
use Rattle.key_commands.specs.Outcomes.{Outcome, replies, sets, fitting}
use Rattle.key_commands.specs.Reading.{got}

-- NX: where there is no value; XX: where there is one
abbrev pub may_set : Where → Option Value → Bool
may_set places.Always v = true
may_set places.Absent None = true
may_set places.Absent (Some v) = false
may_set places.Present None = false
may_set places.Present (Some v) = true

abbrev pub deadline_after : Lifetime → Option Value → ℕ
deadline_after lifetime.Keep v = deadline_of v
deadline_after lifetime.Forever v = 0
deadline_after (lifetime.Until deadline) v = deadline

abbrev pub set_reply : Bool → Option Value → Token
set_reply get v = if get then got v else Simple (codes "OK")

abbrev pub kept_reply : Bool → Option Value → Token
kept_reply get v = if get then got v else Nothing

abbrev pub set_to : List ℕ → Change → ℕ → Option Value → Outcome
set_to new change most v = fitting most (length new)
    (if may_set change.to v then sets (set_reply change.get v) (deadline_after change.lifetime v) new else replies (kept_reply change.get v))

abbrev pub set_absent : List ℕ → Option Value → Outcome
set_absent new None = sets (Number (pos 1)) 0 new
set_absent new (Some v) = replies (Number (pos 0))

abbrev pub set_if_absent : List ℕ → ℕ → Option Value → Outcome
set_if_absent new most v = fitting most (length new) (set_absent new v)

abbrev pub got_and_set : List ℕ → ℕ → Option Value → Outcome
got_and_set new most v = fitting most (length new) (sets (got v) 0 new)
