-- Options among the arguments of a command.
use Rattle.std.proofs.Common.{◌≡◌, ℕ, List, ◌∷◌, ◌++◌, map, sym, ap, ◌∙◌, append_assoc}
use Rattle.std.specs.Char.{to_ascii_lowercase}
use Rattle.commands.specs.Servers.{IsOption}

pub option_of : (text : List ℕ) (values words before behind after : List (List ℕ)) (word : List ℕ) → words ≡ before ++ word ∷ behind → map to_ascii_lowercase word ≡ text → behind ≡ values ++ after → IsOption text values words
option_of text values words before behind after word is named are =
    record { before = before; word = word; after = after; named = named; are = is ∙ ap (λ l. before ++ word ∷ l) are }

-- what stands behind an option ends the arguments
pub front_of : (values words before behind after : List (List ℕ)) (word : List ℕ) → words ≡ before ++ word ∷ behind → behind ≡ values ++ after → (front : List (List ℕ)) × (words ≡ front ++ after)
front_of values words before behind after word is are =
    (before ++ word ∷ values, is ∙ (ap (λ l. before ++ word ∷ l) are ∙ sym (append_assoc before (word ∷ values) after)))
