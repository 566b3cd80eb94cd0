-- What a request is read as.
use Rattle.std.specs.Prelude.{◌≡◌, ℕ, List, ◌∷◌, map, Result, Ok, Err}
use Rattle.std.specs.Char.{to_ascii_lowercase}
use Rattle.commands.specs.declared.command.Command.{Command}
use Rattle.commands.specs.declared.fault.CommandFault.{CommandFault}
use Rattle.commands.specs.declared.name.Name.{Name}
use Rattle.commands.specs.Names.{text_of}
use Rattle.commands.specs.Commands.{Spells, IsCounted}

-- a request that may be refused: it does not begin with the name of a command that takes any arguments of their number
abbrev pub IsUnread : List (List ℕ) → Type 0
IsUnread arguments = (n : Name) → (first : List ℕ) → (rest : List (List ℕ)) → arguments ≡ first ∷ rest → map to_ascii_lowercase first ≡ text_of n → IsCounted n rest → ⊥

-- a command that a request spells at some time, in milliseconds since 1970: the times of SET, GETEX and EXPIRE depend on it
abbrev pub IsSpelled : List (List ℕ) → Command → Type 0
IsSpelled arguments c = (now : ℕ) × Spells now arguments c

-- the command that it spells at this time, or a fault
abbrev pub IsReadAt : ℕ → List (List ℕ) → Result Command CommandFault → Type 0
IsReadAt now arguments (Ok c) = Spells now arguments c
IsReadAt now arguments (Err fault) = IsUnread arguments

-- the same at some time
abbrev pub IsRead : List (List ℕ) → Result Command CommandFault → Type 0
IsRead arguments (Ok c) = IsSpelled arguments c
IsRead arguments (Err fault) = IsUnread arguments
