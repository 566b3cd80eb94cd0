-- The workers of a run, whose work was each one's only term.
use Rattle.std.proofs.Common.{◌≡◌, ℕ, ◌+◌, List, [], ◌∷◌, Option, Some, None, IsSome, length, map, refl, ap, sym, ◌∙◌, subst, arith}
use Rattle.std.specs.Prelude.{IsSomeAnd}
use Rattle.std.specs.List.{AllByRecursion}
use Rattle.far_map.specs.Views.{View, Log, SessionView}
use Rattle.far_map.specs.Runs.{Served, AreServed, Worked}
use Rattle.far_map.specs.Generations.{AreTerms}

module _ {V Out : Type 0} (Done : ℕ → SessionView V → SessionView V → Out → Type 0) (limit : ℕ) (told : Log V) where
  -- from here on each worker kept what its work gave back
  abbrev AreKept : ℕ → List (View V) → List (Option Out) → List (Option Out) → Type 0
  AreKept n passes befores afters = AreTerms (λ worker begun ended before after. IsSomeAnd after (λ out. Done worker begun ended out)) limit told n passes befores afters

  pub all_kept : (n : ℕ) (passes : List (View V)) (befores afters : List (Option Out)) → AreKept n passes befores afters → AllByRecursion IsSome afters
  all_kept n [] [] [] h = tt
  all_kept n [] [] (a ∷ afters) h = absurd h
  all_kept n [] (b ∷ befores) afters h = absurd h
  all_kept n (p ∷ passes) [] afters h = absurd h
  all_kept n (p ∷ passes) (b ∷ befores) [] h = absurd h
  all_kept n (p ∷ passes) (b ∷ befores) (None ∷ afters) h = absurd h.0.done
  all_kept n (p ∷ passes) (b ∷ befores) (Some out ∷ afters) h = (refl, all_kept (n + 1) passes befores afters h.1)

  all_served : (n : ℕ) (passes : List (View V)) (befores : List (Option Out)) (outs : List Out) → AreKept n passes befores (map Some outs)
      → (all : List (Served V Out)) × (length all ≡ length befores) × (map (λ s. s.ended.pass) all ≡ passes) × (map (λ s. s.out) all ≡ outs) × AreServed Done limit n all
  all_served n [] [] [] h = ([], refl, refl, refl, tt)
  all_served n [] [] (o ∷ outs) h = absurd h
  all_served n [] (b ∷ befores) outs h = absurd h
  all_served n (p ∷ passes) [] outs h = absurd h
  all_served n (p ∷ passes) (b ∷ befores) [] h = absurd h
  all_served n (p ∷ passes) (b ∷ befores) (o ∷ outs) h =
      let s : Served V Out = record { worker = n; begun = h.0.begun; ended = h.0.ended; out = o } in
      let rest = all_served (n + 1) passes befores outs h.1 in (
        s ∷ rest.0,
        omega (arith, rest.1),
        ap (λ (v : View V). v ∷ map (λ (t : Served V Out). t.ended.pass) rest.0) h.0.pass_is ∙ ap (λ (vs : List (View V)). p ∷ vs) rest.2,
        ap (λ (xs : List Out). o ∷ xs) rest.3,
        (refl, h.0.new, h.0.done, rest.4),
      )

  -- workers of a run did their work where each kept one of these
  pub worked : (count : ℕ) (passes : List (View V)) (befores afters : List (Option Out)) (outs : List Out)
      → length befores ≡ count → map Some outs ≡ afters → AreKept 0 passes befores afters → Worked Done limit count passes outs
  worked count passes befores afters outs each kept h =
      let w = all_served 0 passes befores outs (subst (λ (xs : List (Option Out)). AreKept 0 passes befores xs) (sym kept) h) in
      record { all = w.0; count_is = w.1 ∙ each; passes_are = w.2; outs_are = w.3; served = w.4 }
