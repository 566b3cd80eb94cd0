-- Where the words of a command lie in a text.
use Rattle.std.specs.Prelude.{◌≡◌, ℕ, ◌+◌, ◌≤◌, List, [], ◌++◌, length, take, drop}
use Rattle.std.specs.List.{AllByRecursion}
use Rattle.command_file.specs.declared.command.Command.{Command}
use Rattle.command_file.specs.declared.command.Command.TheVariants.{Map, Table}
use Rattle.command_file.specs.declared.command.MapCommand.TheVariants.{Put, Get, Delete, PutIf, PutNew, Hold}
use Rattle.command_file.specs.declared.command.TableCommand.TheVariants.{Show, Release, Evict, Where}
use Rattle.command_file.specs.declared.verb.Alone.{Alone}
use Rattle.command_file.specs.declared.verb.Alone.TheVariants as alone
use Rattle.command_file.specs.declared.verb.OfKey.{OfKey}
use Rattle.command_file.specs.declared.verb.OfKey.TheVariants as verb_of_key
use Rattle.command_file.specs.declared.verb.OfPair.{OfPair}
use Rattle.command_file.specs.declared.verb.OfPair.TheVariants as verb_of_pair
use Rattle.command_file.specs.declared.place.Place.{Place}
use Rattle.command_file.specs.declared.place.Place.TheVariants as place
use Rattle.command_file.specs.declared.parse.Line.{Line}
use Rattle.command_file.specs.declared.parse.Line.TheVariants as line
use Rattle.command_file.specs.Grammar.{Says, IsGood}
use Rattle.command_file.specs.Words.{Reads}

-- ---- the command whose words lie so

abbrev pub of_alone : Alone → Command
of_alone alone.Show = Table Show
of_alone alone.Release = Table Release
of_alone alone.Evict = Table Evict

abbrev pub of_key : OfKey → List ℕ → Command
of_key verb_of_key.Get key = Map (Get key)
of_key verb_of_key.Delete key = Map (Delete key)
of_key verb_of_key.Hold key = Map (Hold key)
of_key verb_of_key.Where key = Table (Where key)

abbrev pub of_pair : OfPair → List ℕ → List ℕ → Command
of_pair verb_of_pair.Put key value = Map (Put key value)
of_pair verb_of_pair.PutNew key value = Map (PutNew key value)

-- so many bytes of the text, from a place on
abbrev pub part : List ℕ → ℕ → ℕ → List ℕ
part text from count = take count (drop from text)

-- the texts of a command stand one behind the other, with a byte between
abbrev pub command_in : List ℕ → Place → Command
command_in text (place.Alone verb) = of_alone verb
command_in text (place.OfKey verb key from) = of_key verb (part text from key)
command_in text (place.OfPair verb key value from) = of_pair verb (part text from key) (part text (from + key + 1) value)
command_in text (place.PutIf key expected value from) = Map (PutIf (part text from key) (part text (from + key + 1) expected) (part text (from + key + expected + 2) value))

-- where its last word ends
abbrev pub end_of : Place → ℕ
end_of (place.Alone verb) = 0
end_of (place.OfKey verb key from) = from + key
end_of (place.OfPair verb key value from) = from + key + value + 1
end_of (place.PutIf key expected value from) = from + key + expected + value + 2

-- all of them end within so many bytes
abbrev pub AreWithin : ℕ → List Place → Type 0
AreWithin count places = AllByRecursion (λ p. end_of p ≤ count) places

-- ---- what the parts of the parser give

-- the bytes stand in the text from this place on
pub record StandsAt (text : List ℕ) (from : ℕ) (bytes : List ℕ) : Type 0 where
  pub before : List ℕ
  pub behind : List ℕ
  pub is : text ≡ before ++ (bytes ++ behind)
  pub from_is : length before ≡ from

-- in each text in which the rest of the words stands from this place on, the words are those of the command that lies so
pub record PlacesWords (words : List (List ℕ)) (rest : List ℕ) (from : ℕ) (p : Place) : Type 0 where
  pub ends : end_of p ≤ from + length rest
  pub reads : (text : List ℕ) → StandsAt text from rest → Reads words (command_in text p)

-- in each text in which the line stands from this place on, it says the command that lies so
pub record PlacesLine (line : List ℕ) (from : ℕ) (p : Place) : Type 0 where
  pub ends : end_of p ≤ from + length line
  pub says : (text : List ℕ) → StandsAt text from line → Says line (command_in text p)

abbrev pub IsLine : List ℕ → ℕ → Line → Type 0
IsLine bytes from line.Empty = bytes ≡ []
IsLine bytes from (line.Command p) = PlacesLine bytes from p
IsLine bytes from line.Bad = ¬ (IsGood bytes)
