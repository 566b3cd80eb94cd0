-- What a command asks of one key, and what each comes to.
use Rattle.std.specs.Prelude.{◌≡◌, ℕ, ℤ, pos, ◌-◌, ◌/◌, ◌%◌, ◌^◌, unsigned_abs, List, get_or, Option, Some, None}
use denote.Ref.{Bor}
use Rattle.commands.specs.declared.command.Command.{Command}
use Rattle.commands.specs.declared.command.Command.TheVariants as command
use Rattle.commands.specs.declared.name.OfKey.{OfKey}
use Rattle.commands.specs.declared.name.OfKey.TheVariants as of_key
use Rattle.commands.specs.declared.name.OfPair.{OfPair}
use Rattle.commands.specs.declared.name.OfPair.TheVariants as of_pair
use Rattle.commands.specs.declared.name.OfNumber.{OfNumber}
use Rattle.commands.specs.declared.name.OfNumber.TheVariants as of_number
use Rattle.resp.specs.Replies.{Token}
use Rattle.key_commands.specs.declared.key_command.KeyCommand.{KeyCommand}
use Rattle.key_commands.specs.declared.key_command.KeyCommand.TheVariants as ask
use Rattle.key_commands.specs.declared.key_command.Effect.{Effect}
use Rattle.key_commands.specs.Values.{Value, live, bytes_of}
use Rattle.key_commands.specs.Outcomes.{Outcome, IsEffect, replies, number, cleaned}
use Rattle.key_commands.specs.Reading.{got, presence, size_of, kind, string_of, part, deleted, got_and_deleted}
use Rattle.key_commands.specs.Lasting.{milliseconds_after, seconds_after, persisted, got_for, expired}
use Rattle.key_commands.specs.Setting.{set_to, set_if_absent, got_and_set}
use Rattle.key_commands.specs.Editing.{appended, overwritten}
use Rattle.key_commands.specs.Adding.{Adds, AddsFloat}

-- ---- what is asked

abbrev pub key_command : OfKey → KeyCommand
key_command of_key.Get = ask.Get
key_command of_key.GetDel = ask.GetDel
key_command of_key.StrLen = ask.StrLen
key_command of_key.Ttl = ask.Ttl
key_command of_key.PTtl = ask.PTtl
key_command of_key.ExpireTime = ask.ExpireTime
key_command of_key.PExpireTime = ask.PExpireTime
key_command of_key.Persist = ask.Persist
key_command of_key.TypeOf = ask.TypeOf

abbrev pub pair_command : OfPair → Bor (List ℕ) → KeyCommand
pair_command of_pair.SetNx value = ask.SetIfAbsent value
pair_command of_pair.GetSet value = ask.GetSet value
pair_command of_pair.Append value = ask.Append value

abbrev pub number_command : OfNumber → ℤ → KeyCommand
number_command of_number.IncrBy number = ask.Add number
number_command of_number.GetBit number = ask.GetBit (unsigned_abs number)

-- the key, and what is asked of it; none where there are several keys or none
abbrev pub of_one_key : Command → Option (Bor (List ℕ) × KeyCommand)
of_one_key (command.Key of key) = Some (key, key_command of)
of_one_key (command.Pair of key value) = Some (key, pair_command of value)
of_one_key (command.Number of key number) = Some (key, number_command of number)
of_one_key (command.Set key value change) = Some (key, ask.Set value change)
of_one_key (command.GetEx key lifetime) = Some (key, ask.GetEx lifetime)
of_one_key (command.GetRange key first last) = Some (key, ask.GetRange first last)
of_one_key (command.SetRange key offset value) = Some (key, ask.SetRange offset value)
of_one_key (command.Add key by) = Some (key, ask.Add by)
of_one_key (command.AddFloat key by) = Some (key, ask.AddFloat by)
of_one_key (command.Expire key deadline only) = Some (key, ask.Expire deadline only)
of_one_key c = None

-- ---- what it comes to

-- the bit at an offset, of which 0 is the first byte's highest bit; 0 after the last byte
abbrev pub bit_at : ℕ → List ℕ → ℤ
bit_at offset bytes = pos ((get_or bytes (offset / 8) 0 / 2 ^ (7 - offset % 8)) % 2)

-- at this time, where no value may have more bytes than `most`, and the key has this value
abbrev pub IsOutcome : KeyCommand → ℕ → ℕ → Option Value → Outcome → Type 0
IsOutcome ask.Get now most v o = o ≡ replies (got v)
IsOutcome ask.Exists now most v o = o ≡ replies (presence v)
IsOutcome ask.Delete now most v o = o ≡ deleted v
IsOutcome ask.StrLen now most v o = o ≡ replies (size_of (bytes_of v))
IsOutcome ask.TypeOf now most v o = o ≡ replies (kind v)
IsOutcome ask.Ttl now most v o = o ≡ replies (number (seconds_after now v))
IsOutcome ask.PTtl now most v o = o ≡ replies (number (milliseconds_after now v))
IsOutcome ask.ExpireTime now most v o = o ≡ replies (number (seconds_after 0 v))
IsOutcome ask.PExpireTime now most v o = o ≡ replies (number (milliseconds_after 0 v))
IsOutcome ask.Persist now most v o = o ≡ persisted v
IsOutcome ask.GetDel now most v o = o ≡ got_and_deleted v
IsOutcome (ask.GetBit offset) now most v o = o ≡ replies (number (bit_at offset (bytes_of v)))
IsOutcome (ask.SetIfAbsent new) now most v o = o ≡ set_if_absent new.now most v
IsOutcome (ask.GetSet new) now most v o = o ≡ got_and_set new.now most v
IsOutcome (ask.Append new) now most v o = o ≡ appended new.now most v
IsOutcome (ask.Set new change) now most v o = o ≡ set_to new.now change most v
IsOutcome (ask.GetEx lifetime) now most v o = o ≡ got_for lifetime now v
IsOutcome (ask.GetRange first last) now most v o = o ≡ replies (string_of (part first last (bytes_of v)))
IsOutcome (ask.SetRange offset new) now most v o = o ≡ overwritten offset new.now most v
IsOutcome (ask.Add by) now most v o = Adds by v o
IsOutcome (ask.AddFloat by) now most v o = AddsFloat v o
IsOutcome (ask.Expire deadline only) now most v o = o ≡ expired deadline only now v

-- A command on a key that has these stored bytes, if any, replies this token and has this effect; where the key is set, these
-- are its new stored bytes. An expired value is none, and goes where it would stay.
pub record Does (command : KeyCommand) (now most : ℕ) (found : Option (List ℕ)) (reply : Token) (effect : Effect) (bytes : List ℕ) : Type 0 where
  pub outcome : Outcome
  pub is : IsOutcome command now most (live now found) outcome
  pub replied : reply ≡ outcome.reply
  pub changed : IsEffect (cleaned found (live now found) outcome.after) effect bytes
