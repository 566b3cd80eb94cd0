-- What a log of entries adds up to is what its events add up to.
use Rattle.std.proofs.Common.{◌≡◌, ℕ, ◌+◌, List, [], ◌∷◌, refl, ap, ◌∙◌, arith}
use Rattle.table_core.specs.declared.event.Event.{Event}
use Rattle.table_core.specs.declared.event.Event.TheVariants.{Enter, Named, Done, Moved}
use Rattle.table_core.specs.Logs.{passes_of, names_of}
use Rattle.version_words.specs.declared.entry.Entry.{Entry}
use Rattle.version_words.specs.declared.entry.Entry.TheVariants.{Opened, Happened}
use Rattle.version_words.specs.Boards.{total, opened, Slot, Told}
use Rattle.version_words.specs.Tallies.{passes_in, names_in, at_key, of_entry, events}

module _ {K V : Type 0} where
  pub total_events : (adds : Event K V → ℕ → ℕ) (log : List (Entry K V)) (k : ℕ) → total (at_key adds) log k ≡ total adds (events log) k
  total_events adds [] k = refl
  total_events adds (Opened l ∷ log) k = omega (arith, total_events adds log k)
  total_events adds (Happened e ∷ log) k = ap (λ (n : ℕ). adds e k + n) (total_events adds log k)

  pub opened_events : (opens : Event K V → ℕ) (log : List (Entry K V)) → opened (of_entry opens) log ≡ opened opens (events log)
  opened_events opens [] = refl
  opened_events opens (Opened l ∷ log) = omega (arith, opened_events opens log)
  opened_events opens (Happened e ∷ log) = ap (λ (n : ℕ). opens e + n) (opened_events opens log)

  pub told_events : (adds : Event K V → ℕ → ℕ) (opens : Event K V → ℕ) (log : List (Entry K V)) (s : Slot) → Told (at_key adds) (of_entry opens) log s → Told adds opens (events log) s
  told_events adds opens log s told held = let t = told held in (omega (arith, t.0, opened_events opens log), t.1 ∙ total_events adds log s.key)

  pub opened_passes : (log : List (Event K V)) → opened passes_in log ≡ passes_of log
  opened_passes [] = refl
  opened_passes (Enter p ∷ log) = omega (arith, opened_passes log)
  opened_passes (Named n b es ∷ log) = omega (arith, opened_passes log)
  opened_passes (Done p o w ∷ log) = omega (arith, opened_passes log)
  opened_passes (Moved b w ∷ log) = omega (arith, opened_passes log)

  pub opened_names : (log : List (Event K V)) → opened names_in log ≡ names_of log
  opened_names [] = refl
  opened_names (Enter p ∷ log) = omega (arith, opened_names log)
  opened_names (Named n b es ∷ log) = omega (arith, opened_names log)
  opened_names (Done p o w ∷ log) = omega (arith, opened_names log)
  opened_names (Moved b w ∷ log) = omega (arith, opened_names log)
