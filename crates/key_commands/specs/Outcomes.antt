-- What a command comes to: its reply, and what becomes of the value.
use Rattle.std.specs.Prelude.{◌≡◌, ℕ, ℤ, nat_le, if◌then◌else◌, List, codes, Option, Some, None}
use Rattle.resp.specs.Replies.{Token, Failure, Number}
use Rattle.commands.specs.Stored.{stored}
use Rattle.key_commands.specs.Values.{Value}
use Rattle.key_commands.specs.declared.key_command.Effect.{Effect}
use Rattle.key_commands.specs.declared.key_command.Effect.TheVariants as effects

pub data After : Type 0 where
  Stays : After
  Becomes : (value : Value) → After
  Goes : After

pub record Outcome : Type 0 where
  pub reply : Token
  pub after : After

abbrev pub replies : Token → Outcome
replies r = record { reply = r; after = Stays }

abbrev pub fails : List ℕ → Outcome
fails text = replies (Failure text)

abbrev pub sets : Token → ℕ → List ℕ → Outcome
sets r deadline bytes = record { reply = r; after = Becomes (record { deadline = deadline; bytes = bytes }) }

abbrev pub removes : Token → Outcome
removes r = record { reply = r; after = Goes }

abbrev pub number : ℤ → Token
number n = Number n

abbrev pub too_long : List ℕ
too_long = codes "ERR string exceeds maximum allowed size (proto-max-bulk-len)"

-- a value of more than `most` bytes is refused
abbrev pub fitting : ℕ → ℕ → Outcome → Outcome
fitting most len o = if nat_le len most then o else fails too_long

-- an expired value goes where it would stay
abbrev pub cleaned : Option (List ℕ) → Option Value → After → After
cleaned (Some stored) None Stays = Goes
cleaned found present after = after

-- the effect is this change; where the key is set, these are its stored bytes
abbrev pub IsEffect : After → Effect → List ℕ → Type 0
IsEffect Stays effects.Leaves bytes = Unit {0}
IsEffect (Becomes v) effects.Sets bytes = bytes ≡ stored v.deadline v.bytes
IsEffect Goes effects.Removes bytes = Unit {0}
IsEffect after effect bytes = ⊥
