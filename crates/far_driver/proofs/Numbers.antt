-- Texts of digits and what they parse as.
use Rattle.std.proofs.Common.{◌≡◌, ℕ, ◌<◌, ◌≤◌, Bool, true, false, ◌&&◌, cond, List, [], ◌∷◌, Option, Some, None, Result, Ok, length, refl, ap, sym, ◌∙◌, arith, rules, nat_lt, nat_le}
use Rattle.std.proofs.lemmas.Bool.Decides.{nat_tests}
use Rattle.std.proofs.lemmas.Str.Parse.{IsNumeralModel, numerals_by_fold, parse_gives, digits_value_short}
use Rattle.std.specs.List.{list_all}
use Rattle.std.specs.Result.{result_ok}
use Rattle.std.specs.Str.{all_ascii_digits}
use Rattle.std.specs.Str.Parse.{ParsesUnsigned}
use Rattle.std.specs.declared.num.ParseIntError.{ParseIntError}
use Rattle.far_driver.specs.Arguments.{is_digit, decimal_from, number_of}

own : IsNumeralModel (λ ds. all_ascii_digits ds ≡ true) (decimal_from 0)
own = numerals_by_fold _ (search rules) decimal_from (search rules)

digits : (text : List ℕ) → list_all is_digit text ≡ true → all_ascii_digits text ≡ true
digits [] h = refl
digits (d ∷ ds) h = grind (arith, nat_tests, digits ds)

pub parsed : (text : List ℕ) (r : Result ℕ ParseIntError) (o : Option ℕ) → ParsesUnsigned 32 10 text r → list_all is_digit text ≡ true → 0 < length text → length text ≤ 7 → o ≡ result_ok r → o ≡ number_of text
parsed text r o p all more few is =
    let ds = digits text all in
    let e : r ≡ Ok (decimal_from 0 text) = parse_gives own 32 text r p ds more (omega (arith, digits_value_short own text 7 ds few)) in
    let a : nat_lt 0 (length text) ≡ true = grind (arith, nat_tests) in
    let b : nat_le (length text) 7 ≡ true = grind (arith, nat_tests) in
    is ∙ (ap result_ok e ∙ sym (rw (a, b, all) refl))

pub no_digits : (text : List ℕ) → list_all is_digit text ≡ false → None ≡ number_of text
no_digits text none = sym (rw none (go (nat_lt 0 (length text)) (nat_le (length text) 7)))
  where
    go : (a b : Bool) → cond (a && (b && false)) (Some (decimal_from 0 text)) None ≡ None
    go true true = refl
    go true false = refl
    go false true = refl
    go false false = refl
