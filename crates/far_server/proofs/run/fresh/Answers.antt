use Rattle.std.proofs.Common.{◌≡◌, ℕ, ap, ◌∙◌, arith}
use Rattle.far_server.specs.Serving.{all_fresh}
use Rattle.far_server.proofs.run.fresh.Goals as goal

pub returns : goal.returns
returns g c =
    let at : c.loop-made.made ≡ c.args.all_workers = omega (arith, c.loop-made-test.false, c.loop-made.auto.made-end) in
    c.loop-made.invariant ∙ ap (λ (n : ℕ). all_fresh n) at
