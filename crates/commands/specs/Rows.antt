-- What the table of commands has at each index.
use Rattle.std.specs.Prelude.{ℕ, List, [], map, get_or}
use Rattle.commands.specs.declared.name.Name.{Name}
use Rattle.commands.specs.declared.name.Name.TheVariants as name
use Rattle.commands.specs.declared.name.OfNothing.TheVariants as of_nothing
use Rattle.commands.specs.declared.table.TheConstants.{TABLE}

-- where there is no entry
abbrev pub nameless : Name
nameless = name.Nothing of_nothing.Multi

unfoldable pub listed_names : List Name
listed_names = map (λ entry. entry.1.name) TABLE

-- the text of the entry at an index
unfoldable pub text_at : ℕ → List ℕ
text_at index = get_or (map (λ entry. entry.0.now) TABLE) index []

-- the command of the entry at an index
unfoldable pub name_at : ℕ → Name
name_at index = get_or listed_names index nameless
