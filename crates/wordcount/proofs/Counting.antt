-- The words of a map that was handed over are the first of its pairs.
use Rattle.std.proofs.Common.{◌≡◌, ◌≤◌, ◌<◌, ◌++◌, ℕ, Bool, List, [], ◌∷◌, Result, Ok, Err, map, length, arith, refl, subst}
use Rattle.std.proofs.lemmas.List.Sorted.{IsPermutation-refl}
use Rattle.std.specs.Ordering.{is_lt}
use Rattle.table_core.specs.declared.limits.Limits.{Limits}
use Rattle.far_map.specs.Runs.{EndsThrough, IsRunThrough}
use Rattle.far_map.specs.Views.{Pairs, SessionView}
use Rattle.far_map.specs.declared.fault.MapFault.{MapFault}
use Rattle.wordcount.specs.Tops.{AreFirst, GoesOn, print_cmp}

-- of none, none are the first
first_of_none : (most : ℕ) → AreFirst (λ (one other : ℕ × List ℕ). is_lt (print_cmp one other)) most [] []
first_of_none most = record {
  rest = [];
  split = IsPermutation-refl [];
  few = omega arith;
  full = λ some. (let no : ⊥ = omega (arith, some) in absurd no);
  first = λ k d lt. (let no : ⊥ = omega (arith, lt) in absurd no);
}

-- who began with none kept the first of what was given
pub first_of_all : (most : ℕ) (before words after : List (ℕ × List ℕ)) → before ≡ [] → GoesOn most before words after → AreFirst (λ (one other : ℕ × List ℕ). is_lt (print_cmp one other)) most words after
first_of_all most before words after none goes =
    goes [] (subst (λ (kept : List (ℕ × List ℕ)). AreFirst (λ (one other : ℕ × List ℕ). is_lt (print_cmp one other)) most [] kept) (let back : [] ≡ before = cc in back) (first_of_none most))

-- a run whose end was Ok handed its pairs over
pub handed_of : {V Out S : Type 0} {ev : V → List ℕ} {Done : ℕ → Limits → SessionView V → SessionView V → Out → Type 0} {l : Limits} {limit count : ℕ} {outs : List Out} {Takes : S → Pairs V → S → Type 0} {Stops : S → S → Type 0} {old new : S}
    (ended : Result (Unit {0}) MapFault) (done : Unit {0}) → ended ≡ Ok done → EndsThrough ev Done l limit count outs Takes Stops old new ended → IsRunThrough ev Done l limit count outs Takes Stops old new
handed_of (Ok now) done is run = run
handed_of (Err fault) done is run = (let no : ⊥ = cc in absurd no)
