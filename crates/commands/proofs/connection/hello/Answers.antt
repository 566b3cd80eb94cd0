use Rattle.std.proofs.Common.{◌≡◌, pos, ◌∷◌, refl, inr, ap, ◌∙◌, arith}
use Rattle.std.proofs.lemmas.Int.{ints}
use Rattle.std.specs.Fmt.{signed_decimal}
use Rattle.commands.specs.Arguments.{listed}
use Rattle.commands.proofs.connection.hello.Goals as goal

pub returns-in-Ok-clause-spelt : goal.returns-in-Ok-clause-spelt
returns-in-Ok-clause-spelt c =
    let two : c.in-Some-whole_number.version ≡ pos 2 = omega (arith, ints) in
    (refl, inr (listed c.in-Some.words, c.in-Some.ensures ∙ ap (λ v. v ∷ listed c.in-Some.words) (c.in-Some-whole_number.ensures ∙ ap signed_decimal two), c.in-Ok.ensures))
