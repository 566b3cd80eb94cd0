-- The options so far stand among the arguments, and what is left ends them.
use Rattle.std.proofs.Common.{◌≡◌, [], ◌∷◌, ◌++◌, refl, sym, ap, ◌∙◌, append_assoc}
use Rattle.commands.specs.Arguments.{listed}
use Rattle.commands.proofs.scan.with_options.Goals as goal

pub options-init : goal.options-init
options-init c = (c.requires, refl, ([], refl))

pub options-preserved : goal.options-preserved
options-preserved c =
    let before = c.options.invariant.2.0 in
    let word = c.in-Some.word.now in
    let value = c.in-Some-split_first.value.now in
    let behind = listed c.in-Some-split_first.behind in
    let is : listed c.args.words ≡ before ++ word ∷ value ∷ behind = c.options.invariant.2.1 ∙ ap (λ l. before ++ l) (c.in-Some.ensures ∙ ap (λ l. word ∷ l) c.in-Some-split_first.ensures) in (
      c.in-Ok.ensures.options (listed c.args.words) before behind is c.options.invariant.0,
      c.in-Ok.ensures.cursor ∙ c.options.invariant.1,
      (before ++ word ∷ value ∷ [], is ∙ sym (append_assoc before (word ∷ value ∷ []) behind)),
    )
