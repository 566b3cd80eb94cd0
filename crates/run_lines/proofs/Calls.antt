-- The calls of a pass in a history that grows.
use Rattle.std.proofs.Common.{◌≡◌, ◌≢◌, ℕ, ◌==◌, Bool, true, false, List, [], ◌∷◌, ◌++◌, map, refl, ap, sym, ◌∙◌, arith}
use Rattle.std.proofs.lemmas.Bool.Decides.{nat_tests}
use Rattle.std.proofs.lemmas.List.{map-append}
use Rattle.std.proofs.lemmas.List.Elements.{filter-append}
use Rattle.std.specs.List.{AllByRecursion, filter}
use Rattle.run_lines.specs.Calls.{Asked, Call, calls_by}

pub calls_by-append : (p : ℕ) (xs ys : List Call) → calls_by p (xs ++ ys) ≡ calls_by p xs ++ calls_by p ys
calls_by-append p xs ys =
    ap (λ (calls : List Call). map (λ call. call.1) calls) (filter-append (λ (call : Call). call.0 == p) xs ys)
    ∙ map-append (λ (call : Call). call.1) (filter (λ (call : Call). call.0 == p) xs) (filter (λ (call : Call). call.0 == p) ys)

pub calls_by-own : (p : ℕ) (o : Asked) → calls_by p ((p, o) ∷ []) ≡ o ∷ []
calls_by-own p o = let same : (p == p) ≡ true = grind (arith, nat_tests) in rw same refl

-- where all calls are of one pass, another has none
pub calls_by-other : (p q : ℕ) (calls : List Call) → AllByRecursion (λ call. call.0 ≡ p) calls → p ≢ q → calls_by q calls ≡ []
calls_by-other p q [] all other = refl
calls_by-other p q (call ∷ calls) all other =
    let first : call.0 ≡ p = all.0 in
    let none : (call.0 == q) ≡ false = by (call.0 == q) refl in
    rw none (calls_by-other p q calls all.1 other)
  where
    by : (b : Bool) → (call.0 == q) ≡ b → b ≡ false
    by false is = refl
    by true is =
        let same : call.0 ≡ q = grind (arith, nat_tests) in
        absurd (other (sym all.0 ∙ same))
