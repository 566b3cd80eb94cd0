use Rattle.std.proofs.Common.{◌∷◌, sym, subst}
use Rattle.commands.specs.Patterns.{Matches}
use Rattle.commands.proofs.Matching.{leads_back, leads_on, leads_rest}
use Rattle.commands.proofs.pattern.matches.Goals as goal

pub returns-in-Star : goal.returns-in-Star
returns-in-Star c =
    let leads = c.in-Star.ensures.0.1 in
    let ends = c.matches_behind_star.ensures in
    (λ t. leads_back leads (ends.0 t), λ m. ends.1 (subst (Matches (42 ∷ c.in-Star.pattern.now)) (sym (leads_rest leads)) (leads_on leads c.args.text.now m)))
