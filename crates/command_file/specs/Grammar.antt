-- What a line says.
use Rattle.std.specs.Prelude.{◌≡◌, ℕ, ◌<◌, ◌≤◌, ◌⊎◌, List, [], ◌∷◌, length, All, codes}
use Rattle.std.specs.List.{AllByRecursion, join_with_byte}
use Rattle.command_file.specs.declared.command.Command.{Command}
use Rattle.command_file.specs.declared.command.Command.TheVariants.{Map, Table}
use Rattle.command_file.specs.declared.command.MapCommand.{MapCommand}
use Rattle.command_file.specs.declared.command.MapCommand.TheVariants.{Put, Get, Delete, PutIf, PutNew, Hold}
use Rattle.command_file.specs.declared.command.TableCommand.{TableCommand}
use Rattle.command_file.specs.declared.command.TableCommand.TheVariants.{Show, Release, Evict, Where}

-- a byte that prints, and is no space
abbrev pub IsWordByte : ℕ → Type 0
IsWordByte byte = (33 ≤ byte) × (byte ≤ 126)

pub record IsWord (word : List ℕ) : Type 0 where
  pub some : 0 < length word
  pub short : length word ≤ 255
  pub bytes : All IsWordByte word

-- the words of a command: its verb, and the texts behind it
abbrev pub map_words : MapCommand → List (List ℕ)
map_words (Put key value) = codes "put" ∷ key ∷ value ∷ []
map_words (Get key) = codes "get" ∷ key ∷ []
map_words (Delete key) = codes "del" ∷ key ∷ []
map_words (PutIf key expected value) = codes "putif" ∷ key ∷ expected ∷ value ∷ []
map_words (PutNew key value) = codes "putnew" ∷ key ∷ value ∷ []
map_words (Hold key) = codes "hold" ∷ key ∷ []

abbrev pub table_words : TableCommand → List (List ℕ)
table_words Show = codes "show" ∷ []
table_words Release = codes "release" ∷ []
table_words Evict = codes "evict" ∷ []
table_words (Where key) = codes "where" ∷ key ∷ []

abbrev pub words_of : Command → List (List ℕ)
words_of (Map command) = map_words command
words_of (Table command) = table_words command

-- the words, with one space between
abbrev pub spelling : Command → List ℕ
spelling command = join_with_byte 32 (words_of command)

-- a command that a line can say
pub record IsCommand (command : Command) : Type 0 where
  pub words : AllByRecursion IsWord (words_of command)
  pub short : length (spelling command) ≤ 1024

pub record Says (line : List ℕ) (command : Command) : Type 0 where
  pub spelt : line ≡ spelling command
  pub admitted : IsCommand command

-- an empty line, or a command
abbrev pub IsGood : List ℕ → Type 0
IsGood line = (line ≡ []) ⊎ ((command : Command) × Says line command)
