use Rattle.std.proofs.Common.{sym, ap, ◌∙◌, arith}
use Rattle.std.proofs.lemmas.Bool.Decides.{nat_tests}
use Rattle.std.specs.List.{list_all}
use Rattle.far_driver.specs.Arguments.{is_digit}
use Rattle.far_driver.proofs.Numbers.{parsed, no_digits}
use Rattle.far_driver.proofs.arguments.number.Goals as goal

pub returns-then-not-are_digits : goal.returns-then-not-are_digits
returns-then-not-are_digits c =
    no_digits c.args.text.now (ap (list_all is_digit) (sym c.as_bytes.ensures.value) ∙ (sym c.are_digits.ensures ∙ c.if-not-are_digits.true))

pub returns : goal.returns
returns c =
    parsed c.args.text.now c.parse.result c.ok.result c.parse.ensures.value.0
    (ap (list_all is_digit) (sym c.as_bytes.ensures.value) ∙ (sym c.are_digits.ensures ∙ c.if-not-are_digits.false))
    (grind (arith, nat_tests)) (omega arith) c.ok.ensures.value
