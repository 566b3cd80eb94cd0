-- How a line is cut into words, and which command they are.
use Rattle.std.specs.Prelude.{◌≡◌, ℕ, ◌==◌, List, length, codes}
use Rattle.std.specs.List.{AllByRecursion, slice_split}
use Rattle.command_file.specs.declared.command.Command.{Command}
use Rattle.command_file.specs.declared.verb.Alone.{Alone}
use Rattle.command_file.specs.declared.verb.Alone.TheVariants as alone
use Rattle.command_file.specs.declared.verb.OfKey.{OfKey}
use Rattle.command_file.specs.declared.verb.OfKey.TheVariants as of_key
use Rattle.command_file.specs.declared.verb.OfPair.{OfPair}
use Rattle.command_file.specs.declared.verb.OfPair.TheVariants as of_pair
use Rattle.command_file.specs.declared.verb.Verb.{Verb}
use Rattle.command_file.specs.declared.verb.Verb.TheVariants as verb
use Rattle.command_file.specs.Grammar.{IsWord, words_of}

-- ---- verbs, by how many texts stand behind them

abbrev pub alone_name : Alone → List ℕ
alone_name alone.Show = codes "show"
alone_name alone.Release = codes "release"
alone_name alone.Evict = codes "evict"

abbrev pub of_key_name : OfKey → List ℕ
of_key_name of_key.Get = codes "get"
of_key_name of_key.Delete = codes "del"
of_key_name of_key.Hold = codes "hold"
of_key_name of_key.Where = codes "where"

abbrev pub of_pair_name : OfPair → List ℕ
of_pair_name of_pair.Put = codes "put"
of_pair_name of_pair.PutNew = codes "putnew"

abbrev pub name_of : Verb → List ℕ
name_of (verb.OfKey v) = of_key_name v
name_of (verb.OfPair v) = of_pair_name v
name_of verb.PutIf = codes "putif"

abbrev pub count_of : Verb → ℕ
count_of (verb.OfKey v) = 1
count_of (verb.OfPair v) = 2
count_of verb.PutIf = 3

-- ---- words

-- the parts between spaces
abbrev pub words_in : List ℕ → List (List ℕ)
words_in bytes = slice_split (λ byte. byte == 32) bytes

-- they are n words
pub record AreWords (n : ℕ) (words : List (List ℕ)) : Type 0 where
  pub count : length words ≡ n
  pub each : AllByRecursion IsWord words

-- the words are those of the command
pub record Reads (words : List (List ℕ)) (command : Command) : Type 0 where
  pub same : words ≡ words_of command
  pub each : AllByRecursion IsWord (words_of command)
