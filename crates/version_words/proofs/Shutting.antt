-- A right that is shut for good. Assumes `Logic`.
use Rattle.std.proofs.Common.{ℕ, ◌+◌, ◌<◌, ◌≤◌, [], ◌∷◌, arith}
use seplogic.Ra.Ura.{Ura}
use base.Logic.{SProp, ent, sep}
use base.Fml.{Fml, ftrue, fnamed}
use base.Shift.{Keyless}
use types.Logic.{Logic, sem}
use types.Owned.{named_past}
use types.Keyed.{entry_keyless}
use types.Kit.{‵, ◌⊛◌, some, given, later, ◌$◌, ◌∵◌, !, qed, move, drop, split, fsplit, fjoin, fpack, fpick, pick, learn, updating, await, now, done, use1}
use denote.Steps.{nothing}
use Rattle.logbook.specs.Pages.{Book}
use Rattle.logbook.specs.Kept.{halved}
use Rattle.version_words.specs.Boards.{tally}
use Rattle.version_words.specs.Shuts.{shut_at, shut_owns}

pub shut_keyless : (b : Book) (ρ n : ℕ) → Keyless (shut_owns b ρ n)
shut_keyless b ρ n = λ j. ((λ _. tt), entry_keyless halved ρ n _)

module _ {M : Type 1} {𝓤 : Ura M} (𝓛 : Logic 𝓤) where
  open 𝓛 use {H}

  abbrev Pr : Type 2
  Pr = SProp 𝓤

  abbrev ◌⊢◌ : Pr → Pr → Type 1
  P ⊢ Q = ent 𝓤 P Q

  abbrev ◌∗◌ : Pr → Pr → Pr
  P ∗ Q = sep 𝓤 P Q

  abbrev ⟦◌⟧ : Fml → Pr
  ⟦ P ⟧ = sem 𝓛 P

  infix 26 ◌⊢◌
  infixr 35 ◌∗◌
  pub shuts : (b : Book) (ρ n : ℕ) → ⟦ tally ρ n 0 ⟧ ⊢ H.⇛ ⟦ shut_owns b ρ n ⟧
  shuts b ρ n = qed 𝓛 (‵ (tally ρ n 0) ∷ []) ∵ updating ! $ use1 𝓛 (later (some (λ (j : ℕ). given (b.number + 1 ≤ j) (‵ (fnamed j (tally ρ n 0)))))) (named_past 𝓛 (b.number + 1) (tally ρ n 0)) $ await ! tt $ pick ! (λ j. learn ! (λ past.
      nothing ! $ fpack ! (b.number < j) (λ _. ftrue) (omega (arith, past)) $ fjoin ! $ fpack ! ℕ (shut_at b ρ n) j $ now ! $ done !))

  pub shut_twice : (b : Book) (ρ n : ℕ) → ⟦ shut_owns b ρ n ⟧ ⊢ ⟦ shut_owns b ρ n ⟧ ∗ ⟦ shut_owns b ρ n ⟧
  shut_twice b ρ n = let T : Fml = tally ρ n 0 in qed 𝓛 (‵ (shut_owns b ρ n) ∷ []) ∵ fpick ! (λ j. fsplit ! $ fpick ! (λ past. drop ! $ use1 𝓛 (‵ (fnamed j T) ⊛ ‵ (fnamed j T)) (𝓛.invs.named_dup j T) $ split ! $
      nothing ! $ fpack ! (b.number < j) (λ _. ftrue) past $ fjoin ! $ fpack ! ℕ (shut_at b ρ n) j $ move ! (1 ∷ []) $ nothing ! $ fpack ! (b.number < j) (λ _. ftrue) past $ fjoin ! $ fpack ! ℕ (shut_at b ρ n) j $ done !))
