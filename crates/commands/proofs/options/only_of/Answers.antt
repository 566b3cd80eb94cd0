use Rattle.std.proofs.Common.{◌∷◌, List, ℕ, refl, sym, subst}
use Rattle.commands.specs.Arguments.{listed}
use Rattle.commands.specs.Options.{AreOnly}
use Rattle.commands.proofs.options.only_of.Goals as goal

pub loop-word-init : goal.loop-word-init
loop-word-init c = λ t says. says

pub loop-word-preserved : goal.loop-word-preserved
loop-word-preserved c = λ t more.
    let says : AreOnly (c.in-Some.word.now ∷ listed c.in-Some.behind) c.loop-word.only t = (c.in-Some-with_only.now_said, c.in-Some-with_only.ensures, more) in
    c.loop-word.invariant t (subst (λ (ws : List (List ℕ)). AreOnly ws c.loop-word.only t) (sym c.in-Some.ensures) says)

pub returns : goal.returns
returns c = c.loop-word.invariant c.loop-word.only (subst (λ (ws : List (List ℕ)). AreOnly ws c.loop-word.only c.loop-word.only) (sym c.in_default.ensures) refl)
