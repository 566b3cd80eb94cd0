-- A pass that has not entered has no call, and a name that was not drawn has no install.
use Rattle.std.proofs.Common.{◌≡◌, ◌≢◌, ℕ, ◌+◌, ◌≤◌, ◌==◌, false, List, [], ◌∷◌, ◌++◌, Some, None, refl, ap, arith}
use Rattle.std.proofs.lemmas.Bool.Decides.{nat_tests}
use Rattle.table_core.specs.declared.event.Event.{Event}
use Rattle.table_core.specs.declared.event.Event.TheVariants.{Enter, Named, Done, Moved}
use Rattle.table_core.specs.declared.limits.Limits.{Limits}
use Rattle.table_core.specs.BucketWords.{name_of}
use Rattle.table_core.specs.Logs.{passes_of, names_of}
use Rattle.table_core.specs.Lawful.{MayFollow, IsLawful}
use Rattle.table_core.proofs.Logs.{passes-append, names-append, lawful_more, lawful_keeps, names_below}
use Rattle.version_words.specs.Boards.{total, hit}
use Rattle.version_words.specs.Tallies.{calls_in, passes_in, installs_in, names_in, IsNext}
use Rattle.version_words.proofs.Totals.{total_snoc}

no_hit : (n k m : ℕ) → n ≤ m → m ≤ k → hit (n == k + 1) ≡ 0
no_hit n k m le le' = let other : n ≢ k + 1 = omega arith in let is : (n == k + 1) ≡ false = grind (arith, nat_tests) in ap hit is

module _ {K V : Type 0} (ek : K → List ℕ) (ev : V → List ℕ) (l : Limits) where
  abbrev Unborn : List (Event K V) → Type 0
  Unborn log = (k : ℕ) → passes_of log ≤ k → total calls_in log k ≡ 0

  unborn_more : (log : List (Event K V)) (e : Event K V) → Unborn log → MayFollow ek ev l log e → Unborn (log ++ e ∷ [])
  unborn_more log e old may k le =
      let grow = passes-append log (e ∷ []) in
      let before : passes_of log ≤ k = omega (arith, grow, le) in
      omega (arith, total_snoc calls_in passes_in log e k, old k before, none e may before)
    where
      none : (e : Event K V) → MayFollow ek ev l log e → passes_of log ≤ k → calls_in e k ≡ 0
      none (Enter p) may le = refl
      none (Named n b es) may le = refl
      none (Done p o w) may le = no_hit p k (passes_of log) (let r = may.pass in r.1) le
      none (Moved b w) may le = refl

  pub unborn : (log : List (Event K V)) → IsLawful ek ev l log → Unborn log
  unborn log h = lawful_keeps ek ev l Unborn unborn_more [] log (λ k le. refl) h

  abbrev Undrawn : List (Event K V) → Type 0
  Undrawn log = IsLawful ek ev l log × ((k : ℕ) → names_of log ≤ k → total installs_in log k ≡ 0)

  undrawn_more : (log : List (Event K V)) (e : Event K V) → Undrawn log → MayFollow ek ev l log e → Undrawn (log ++ e ∷ [])
  undrawn_more log e old may = (
    lawful_more ek ev l log e old.0 may,
    λ k le.
        let grow = names-append log (e ∷ []) in
        let before : names_of log ≤ k = omega (arith, grow, le) in
        omega (arith, total_snoc installs_in names_in log e k, old.1 k before, none k e may before),
  )
    where
      none : (k : ℕ) (e : Event K V) → MayFollow ek ev l log e → names_of log ≤ k → installs_in e k ≡ 0
      none k (Enter p) may le = refl
      none k (Named n b es) may le = refl
      none k (Done p o None) may le = refl
      none k (Done p o (Some w)) may le = let below = names_below ek ev l log old.0 (name_of w) _ may.drawn in no_hit (name_of w) k (names_of log) below.1 le
      none k (Moved b w) may le = let below = names_below ek ev l log old.0 (name_of w) b may.drawn in no_hit (name_of w) k (names_of log) below.1 le

  pub undrawn : (log : List (Event K V)) → IsLawful ek ev l log → (k : ℕ) → names_of log ≤ k → total installs_in log k ≡ 0
  undrawn log h = let u = lawful_keeps ek ev l Undrawn undrawn_more [] log (tt, λ k le. refl) h in u.1

  -- so an event that may follow is the next one as far as the boards need it
  pub is_next : (log : List (Event K V)) (e : Event K V) → IsLawful ek ev l log → MayFollow ek ev l log e → IsNext e log
  is_next log (Enter p) h may = let r = may.pass in (r.0, unborn log h (passes_of log) (omega arith))
  is_next log (Named n b es) h may = let r = may.number in (r.0, undrawn log h (names_of log) (omega arith))
  is_next log (Done p o w) h may = tt
  is_next log (Moved b w) h may = tt
