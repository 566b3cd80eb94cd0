-- Numbers but for a zero, and what bytes have of one.
use Rattle.std.proofs.Common.{◌≡◌, ◌≢◌, ℕ, ◌^◌, ◌<◌, ◌≤◌, zero, suc, List, [], ◌∷◌, ◌++◌, length, take, get_or, refl, sym, ap, ◌∙◌, arith, append-nil, length-append, length-take-le}
use Rattle.std.proofs.lemmas.List.{get_or-take}
use Rattle.std.specs.Prelude.{decimal}
use Rattle.std.proofs.lemmas.Fmt.{decimal_digit, first_decimal, decimal_nonempty}
use Rattle.resp.specs.declared.line.Line.{Line}
use Rattle.resp.specs.declared.line.Line.TheVariants.{Whole, Short, Bad}
use Rattle.resp.specs.Lines.{number, Lacks, Spoilt, IsLineOf, IsPositive, IsPositiveOf}
use Rattle.resp.proofs.Numbers.{number_tail}

positive_front : (v : ℕ) (front x y : List ℕ) → 0 < length front → get_or front 0 0 ≢ 48 → front ++ x ≡ number v ++ y → 0 < v
positive_front zero [] x y some ne e = absurd (omega arith)
positive_front zero (f ∷ front) x y some ne e =
    let zeroes : number 0 ++ y ≡ 48 ∷ 13 ∷ 10 ∷ y = ap (λ l. (l ++ 13 ∷ 10 ∷ []) ++ y) (decimal_digit 0 (omega arith)) in
    let all : f ∷ (front ++ x) ≡ 48 ∷ 13 ∷ 10 ∷ y = e ∙ zeroes in
    absurd (ne cc)
positive_front (suc v) front x y some ne e = omega arith

bad_positive : (most at : ℕ) (bytes : List ℕ) → 0 < most → 0 < length bytes → get_or bytes 0 0 ≢ 48 → Spoilt number (λ n. n ≤ most) bytes at → Spoilt number (IsPositive most) bytes at
bad_positive most zero bytes large some ne bad = record {
  within = bad.within;
  value = 1;
  may = (omega arith, omega arith);
  rest = number 1;
  is = refl;
  stuck = λ x more tail may e. bad.stuck x more tail may.1 e;
}
bad_positive most (suc at) bytes large some ne bad = record {
  within = bad.within;
  value = bad.value;
  may = (
    positive_front bad.value (take (suc at) bytes) bad.rest [] (omega (arith, length-take-le (suc at) bytes (omega (arith, bad.within)))) (λ e. ne (sym (get_or-take (suc at) bytes 0 0 (omega arith)) ∙ e)) (bad.is ∙ sym (append-nil (number bad.value))),
    bad.may,
  );
  rest = bad.rest;
  is = bad.is;
  stuck = λ x more tail may e. bad.stuck x more tail may.1 e;
}

pub positive_is : (most : ℕ) (bytes : List ℕ) (line : Line) → 0 < most → 0 < length bytes → get_or bytes 0 0 ≢ 48 → IsLineOf number most bytes line → IsPositiveOf number most bytes line
positive_is most bytes (Whole v len) large some ne begins = record {
  may = (positive_front v bytes [] begins.rest some ne (append-nil bytes ∙ begins.is), begins.may);
  rest = begins.rest;
  is = begins.is;
  long = begins.long;
}
positive_is most bytes (Short v n) large some ne lacks = (
  record {
    some = lacks.some;
    value = v;
    may = (positive_front v bytes lacks.rest [] some ne (lacks.is ∙ sym (append-nil (number v))), lacks.may);
    rest = lacks.rest;
    is = lacks.is;
    long = lacks.long;
    least = λ x more tail may e. (lacks.least x more tail may.1 e).1;
  },
  lacks.few,
)
positive_is most bytes (Bad at) large some ne bad = bad_positive most at bytes large some ne bad

first_of_two : (l x : List ℕ) (c : ℕ) (more : List ℕ) → 0 < length l → c ∷ more ≡ l ++ x → get_or l 0 0 ≡ c
first_of_two [] x c more some e = absurd (omega arith)
first_of_two (d ∷ l) x c more some e = cc

pub positive_yet : (most : ℕ) → 0 < most → most < 2 ^ 64 → Lacks number (IsPositive most) [] 3
positive_yet most large fits = record {
  some = omega arith;
  value = 1;
  may = (omega arith, omega arith);
  rest = number 1;
  is = refl;
  long = ap (λ l. length (l ++ 13 ∷ 10 ∷ [])) (decimal_digit 1 (omega arith));
  least = λ x more tail may e. omega (arith, ap length e, length-append (number x) tail, length-append (decimal x) (13 ∷ 10 ∷ []), decimal_nonempty x (omega (arith, may.1)));
}

pub zero_first : (most : ℕ) (bytes : List ℕ) → 0 < most → most < 2 ^ 64 → 0 < length bytes → take 1 bytes ≡ 48 ∷ [] → Spoilt number (IsPositive most) bytes 0
zero_first most bytes large fits within is = record {
  within = within;
  value = 1;
  may = (omega arith, omega arith);
  rest = number 1;
  is = refl;
  stuck = λ x more tail may e.
      let there : 48 ∷ more ≡ decimal x ++ 13 ∷ 10 ∷ tail = ap (λ l. l ++ more) (sym is) ∙ (e ∙ number_tail x tail) in
      let small : x < 2 ^ 64 = omega (arith, may.1) in
      omega (arith, first_decimal x may.0 small, first_of_two (decimal x) (13 ∷ 10 ∷ tail) 48 more (decimal_nonempty x small) there);
}
