-- The options so far stand among the arguments, and what is left ends them.
use Rattle.std.proofs.Common.{[], ◌++◌, refl, ap, ◌∙◌}
use Rattle.commands.specs.Arguments.{listed}
use Rattle.commands.proofs.connection.greeting_of.Goals as goal

pub options-init : goal.options-init
options-init c = (record { login = tt; name = tt }, ([], refl))

pub options-preserved : goal.options-preserved
options-preserved c =
    let before = c.options.invariant.1.0 in
    c.in-Ok.ensures (listed c.args.words) before (c.options.invariant.1.1 ∙ ap (λ l. before ++ l) c.in-Some.ensures) c.options.invariant.0
