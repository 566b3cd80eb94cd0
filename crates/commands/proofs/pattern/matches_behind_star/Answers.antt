-- The `*` in front takes a byte more where the rest is stuck, and leaves all to the next `*` where there is one.
use Rattle.std.proofs.Common.{◌≡◌, ◌∷◌, refl, sym, subst}
use Rattle.commands.specs.Patterns.{Matches}
use Rattle.commands.proofs.Matching.{star_takes, star_takes_none, star_must, star_on, star_back}
use Rattle.commands.proofs.pattern.matches_behind_star.Goals as goal

pub returns-in-Whole : goal.returns-in-Whole
returns-in-Whole c = (λ t. c.stars.invariant.1 (star_takes_none c.stars.behind.now c.stars.left.now c.in-Whole.ensures), λ m. refl)

pub stars-preserved-in-Stuck : goal.stars-preserved-in-Stuck
stars-preserved-in-Stuck c =
    let behind = c.stars.behind.now in
    let rest = c.in-Some.rest.now in
    let byte = c.in-Some.field-0-0.now in
    let is : c.stars.left.now ≡ byte ∷ rest = c.in-Some.ensures.cases.0 in (
      λ m. star_must behind rest byte (λ h. c.in-Stuck.ensures (subst (Matches behind) (sym is) h)) (subst (Matches (42 ∷ behind)) is (c.stars.invariant.0 m)),
      λ m. c.stars.invariant.1 (subst (Matches (42 ∷ behind)) (sym is) (star_takes behind rest byte m)),
    )

pub stars-preserved : goal.stars-preserved
stars-preserved c =
    let leads = c.in-Star.ensures.0.1 in
    (λ m. star_on leads (c.stars.invariant.0 m), λ m. c.stars.invariant.1 (star_back leads m))
