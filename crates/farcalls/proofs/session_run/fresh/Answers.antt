use Rattle.std.proofs.Common.{◌≡◌, ℕ, ap, ◌∙◌, arith}
use Rattle.farcalls.specs.Serving.{all_fresh}
use Rattle.farcalls.proofs.session_run.fresh.Goals as goal

pub returns : goal.returns
returns g c =
    let at : c.loop-made.made ≡ c.args.sessions = omega (arith, c.loop-made-test.false, c.loop-made.auto.made-end) in
    c.loop-made.invariant ∙ ap (λ (n : ℕ). all_fresh n) at
