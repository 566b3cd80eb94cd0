use Rattle.std.proofs.Common.{◌≡◌, ℕ, List, ◌∷◌, map, sym, ap, subst, ◌∙◌}
use Rattle.std.specs.Char.{to_ascii_lowercase}
use Rattle.commands.specs.declared.name.Name.{Name}
use Rattle.commands.specs.Arguments.{listed}
use Rattle.commands.specs.Commands.{IsCounted}
use Rattle.commands.proofs.Rows.{same_name}
use Rattle.commands.proofs.parser.read.Goals as goal

pub returns-clause-counted : goal.returns-clause-counted
returns-clause-counted c = λ n first rest is text counted.
    let both : first ∷ rest ≡ c.in-Some.first.now ∷ listed c.in-Some.rest = sym is ∙ c.in-Some.ensures in
    let same_first : first ≡ c.in-Some.first.now = cc in
    let same_rest : rest ≡ listed c.in-Some.rest = cc in
    let name : n ≡ c.in-Some-name_of.name = same_name n c.in-Some-name_of.name (sym text ∙ (ap (λ (word : List ℕ). map to_ascii_lowercase word) same_first ∙ c.in-Some-name_of.ensures)) in
    let M : Name → Type 0 = λ m. IsCounted m (listed c.in-Some.rest) in
    let R : List (List ℕ) → Type 0 = λ words. IsCounted n words in
    c.by_name.ensures.counted (subst M name (subst R same_rest counted))
