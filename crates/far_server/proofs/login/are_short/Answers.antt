use Rattle.std.proofs.Common.{◌≡◌, ◌<◌, ◌≤◌, ℕ, List, ◌∷◌, length, sym, subst, inl, inr}
use Rattle.commands.specs.Arguments.{listed}
use Rattle.far_server.specs.Logins.{AreShort, HasLong}
use Rattle.far_server.proofs.login.are_short.Goals as goal

pub loop-argument-init : goal.loop-argument-init
loop-argument-init c = (λ short. short, λ long. long)

pub loop-argument-preserved : goal.loop-argument-preserved
loop-argument-preserved c =
    let inv = c.loop-argument.invariant in
    let is : listed c.loop-argument.rest ≡ c.in-Some.argument.now ∷ listed c.in-Some.behind = c.in-Some.ensures in
    let short : length c.in-Some.argument.now ≤ 16384 = search in (
      λ rest. inv.0 (subst (λ (words : List (List ℕ)). AreShort words) (sym is) (short, rest)),
      λ rest. inv.1 (subst (λ (words : List (List ℕ)). HasLong words) (sym is) (inr rest)),
    )

pub returns-then-argument-gt-MOST_BYTES : goal.returns-then-argument-gt-MOST_BYTES
returns-then-argument-gt-MOST_BYTES c =
    let is : listed c.loop-argument.rest ≡ c.in-Some.argument.now ∷ listed c.in-Some.behind = c.in-Some.ensures in
    let long : 16384 < length c.in-Some.argument.now = search in
    c.loop-argument.invariant.1 (subst (λ (words : List (List ℕ)). HasLong words) (sym is) (inl long))

pub returns : goal.returns
returns c = c.loop-argument.invariant.0 (subst (λ (words : List (List ℕ)). AreShort words) (sym c.in_default.ensures) tt)
