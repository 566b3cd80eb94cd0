-- From the name of a request and its arguments to the request.
use Rattle.std.proofs.Common.{◌≡◌, inr, List, ℕ, ◌∷◌, Option, Some, None, sym, ap, subst, ◌∙◌}
use Rattle.std.specs.Prelude.{MatchOption}
use Rattle.farcalls.specs.declared.name.Name.{Name}
use Rattle.farcalls.specs.declared.request.Request.{Request}
use Rattle.farcalls.specs.Requests.{text_of, IsCounted, IsUnread, name_of, arguments_of, Spells}

pub spelled : (words : List (List ℕ)) (word : List ℕ) (rest : List (List ℕ)) (n : Name) (read : Option Request) → words ≡ word ∷ rest → word ≡ text_of n
    → MatchOption read (IsCounted n rest → ⊥) (λ r. (name_of r ≡ n) × (arguments_of r ≡ rest)) → MatchOption read (IsUnread words) (λ r. Spells words r)
spelled words word rest n None are text uncounted = subst (λ (ws : List (List ℕ)). IsUnread ws) (sym are) (inr (n, text, uncounted))
spelled words word rest n (Some r) are text is =
    are ∙ (ap (λ (w : List ℕ). w ∷ rest) (text ∙ ap text_of (sym is.0)) ∙ ap (λ (l : List (List ℕ)). text_of (name_of r) ∷ l) (sym is.1))
