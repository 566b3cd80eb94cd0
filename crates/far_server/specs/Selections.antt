-- Which database a connection has selected, and what SELECT does with it.
use Rattle.std.specs.Prelude.{◌≡◌, ◌≢◌, ◌⊎◌, ℕ, ◌≤◌, ℤ, Bool, true, false, List, [], ◌∷◌, ◌++◌, Option, Some, None, decimal, codes}
use Rattle.std.specs.Fmt.{signed_decimal}
use denote.Ref.{Bor}
use Rattle.resp.specs.Replies.{Token, Simple, Failure}
use Rattle.commands.specs.declared.command.Command.{Command}
use Rattle.commands.specs.declared.command.Command.TheVariants as command
use Rattle.commands.specs.declared.name.OfNothing.{OfNothing}
use Rattle.commands.specs.declared.name.OfNothing.TheVariants as nothing
use Rattle.commands.specs.declared.server.ServerCommand.{ServerCommand}
use Rattle.commands.specs.declared.server.ServerCommand.TheVariants as server
use Rattle.far_map.specs.declared.refusal.MapRefusal.TheVariants as refusal
use Rattle.far_server.specs.declared.selection.Selection.{Selection}
use Rattle.far_server.specs.declared.selection.Selection.TheVariants as selection
use Rattle.far_server.specs.Refusing.{text_of}
use Rattle.stored_keys.specs.declared.DigestKeys.{DigestKeys}
use Rattle.stored_keys.specs.declared.Keyspace.{Keyspace}

-- what a new connection has selected
abbrev pub first_selected : Selection
first_selected = selection.Database 0

-- where the keys of this database are stored
abbrev pub keyspace_of : DigestKeys → ℕ → Keyspace
keyspace_of digest d = record { digest_keys = digest; database = d }

-- ---- the commands on keys: those that name some, and those on all keys of a database, or of all

abbrev pub nothing_on_keys : OfNothing → Bool
nothing_on_keys nothing.DbSize = true
nothing_on_keys nothing.RandomKey = true
nothing_on_keys of = false

abbrev pub server_on_keys : ServerCommand → Bool
server_on_keys (server.Scan scan) = true
server_on_keys server.FlushAll = true
server_on_keys server.FlushDb = true
server_on_keys c = false

abbrev pub is_on_keys : Command → Bool
is_on_keys (command.Nothing of) = nothing_on_keys of
is_on_keys (command.Server c) = server_on_keys c
is_on_keys (command.Ping text) = false
is_on_keys (command.Echo text) = false
is_on_keys command.Quit = false
is_on_keys c = true

-- ---- SELECT

-- the word behind it
abbrev pub select_of : ServerCommand → Option (Bor (List ℕ))
select_of (server.Select index) = Some index
select_of c = None

abbrev pub selects : Command → Option (Bor (List ℕ))
selects (command.Server c) = select_of c
selects c = None

-- SELECT by this word, where databases have numbers up to `last`: that database is selected, and the reply is OK; or none is, and the reply is an
-- error. It is refused only where the word is no number of a database, or memory is refused.
abbrev pub IsSelected : ℕ → List ℕ → Selection → List Token → Type 0
IsSelected last index (selection.Database d) rs = (d ≤ last) × (index ≡ decimal d) × (rs ≡ Simple (codes "OK") ∷ [])
IsSelected last index (selection.Refused n) rs = (((d : ℕ) → d ≤ last → index ≢ decimal d) × ((text : List ℕ) × (rs ≡ Failure text ∷ [])))
    ⊎ (rs ≡ Failure (text_of refusal.Memory) ∷ [])

-- ---- after a SELECT was refused

-- its number, where it was one
abbrev pub refused_number : Option ℤ → List ℕ
refused_number None = []
refused_number (Some n) = signed_decimal n ++ codes " "

abbrev pub no_database : Option ℤ → List ℕ
no_database n = codes "ERR no database is selected, since SELECT " ++ (refused_number n ++ codes "was refused")

-- what a command on keys replies
abbrev pub IsUnselected : Option ℤ → List Token → Type 0
IsUnselected n rs = (rs ≡ Failure (no_database n) ∷ []) ⊎ (rs ≡ Failure (text_of refusal.Memory) ∷ [])
