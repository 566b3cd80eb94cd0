-- No two passes hold the tally of one key. Assumes `Logic`.
use Rattle.std.proofs.Common.{◌≡◌, ◌≢◌, ◌==◌, Bool, true, false, refl, subst, ℕ, ◌<◌, List, [], ◌∷◌, map, arith}
use mathlib.Core.List.{not-mem-nil}
use seplogic.Ra.Ura.{Ura}
use base.Fraction.{full_share}
use base.Stored.{Coded}
use base.Several.{Apart, bodies}
use base.Growing.{latest}
use base.Logic.{SProp, ent, sep, guard, upd, id⊢}
use base.Fml.{Fml, fnamed}
use types.Logic.{Logic, sem}
use types.Kit.{‵, ◌⊛◌, given, later, ◌$◌, ◌∵◌, !, qed, by, keep, move, drop, split, fsplit, fsplit3, fjoin, fpick, learn, check, frame, assume, suffices, updating, await, now, done, use1, use3}
use denote.Steps.{nothing}
use Rattle.logbook.specs.Pages.{Book, Calm}
use Rattle.logbook.specs.Kept.{fact, halved, roster, logs, Rules, rules, reached, standing, contents, seen_owns}
use Rattle.version_words.specs.declared.entry.Entry.{Entry}
use Rattle.version_words.specs.Boards.{tally, board_at, Slot, slot_owns}
use Rattle.version_words.specs.Tallies.{calls_in, passes_in, at_key, of_entry, kept}
use Rattle.version_words.specs.Rows.{IsKept}
use Rattle.version_words.proofs.Boards.{board_twice, slot_is, is_slot}
use Rattle.std.proofs.lemmas.Bool.Decides.{nat_tests}

module _ (K V : Type 0) (ek : K → List ℕ) (ev : V → List ℕ) where
  abbrev pub the_rules : Rules (Entry K V)
  the_rules = rules (λ cells log. IsKept ek ev cells log) (λ log. log) (λ names log. kept names log)

  module _ {M : Type 1} {𝓤 : Ura M} (𝓛 : Logic 𝓤) where
    open 𝓛 use {H}

    abbrev Pr : Type 2
    Pr = SProp 𝓤

    abbrev ◌⊢◌ : Pr → Pr → Type 1
    P ⊢ Q = ent 𝓤 P Q

    abbrev ◌∗◌ : Pr → Pr → Pr
    P ∗ Q = sep 𝓤 P Q

    abbrev ⟦◌⟧ : Fml → Pr
    ⟦ P ⟧ = sem 𝓛 P

    infix 26 ◌⊢◌
    infixr 35 ◌∗◌
    module _ (cv : Coded (Entry K V)) (bk : Book) (names : List ℕ) where
      abbrev J : Fml
      J = contents cv.code the_rules bk.log_name bk.cells_name names

      abbrev had : List (Entry K V) → Fml
      had = reached cv.code bk.log_name

      abbrev top : List (Entry K V) → Fml
      top log = latest logs full_share bk.log_name (map cv.code log)

      abbrev Q : Type 0
      Q = Calm (the_rules.keeps names)

      opened : (log : List (Entry K V)) → ⟦ seen_owns cv.code the_rules bk names log ⟧ ⊢ guard 𝓤 Q (⟦ fnamed bk.number J ⟧ ∗ ⟦ had log ⟧)
      unfolding Rattle.logbook.specs.Kept.seal
      opened log = id⊢ 𝓤 _

      alone : Apart ((bk.number, J) ∷ [])
      alone = ((λ m. not-mem-nil m), tt)

      clash : (log : List (Entry K V)) (k n m : ℕ) (Z : Pr) → ⟦ seen_owns cv.code the_rules bk names log ⟧ ∗ ⟦ tally (board_at names 0) k n ⟧ ∗ ⟦ tally (board_at names 0) k m ⟧ ⊢ H.⇛ Z
      clash log k n m Z = let γ : ℕ = board_at names 0 in let Ps : List (ℕ × Fml) = (bk.number, J) ∷ [] in
          qed 𝓛 (‵ (seen_owns cv.code the_rules bk names log) ∷ ‵ (tally γ k n) ∷ ‵ (tally γ k m) ∷ []) ∵ use1 𝓛 (given Q (‵ (fnamed bk.number J) ⊛ ‵ (had log))) (opened log) $ learn ! (λ calm. split ! $
          suffices ! _ (𝓛.invs.invs_acc Ps Z alone) $ nothing ! $ move ! (1 ∷ 0 ∷ []) $ fjoin ! $ frame ! $ assume ! (‵ (bodies Ps)) $ fsplit ! $
          fpick ! (λ s. fsplit3 ! $ move ! (2 ∷ []) $ fsplit ! $ fsplit ! $ keep ! (0 ∷ 7 ∷ 8 ∷ []) $ by ! (board_twice 𝓛 γ (at_key calls_in) (of_entry passes_in) s.1 k n m (upd 𝓤 (⟦ bodies Ps ⟧ ∗ Z)))))

      aparts : (log : List (Entry K V)) (k n j m : ℕ) (b : Bool) → (k == j) ≡ b → ⟦ seen_owns cv.code the_rules bk names log ⟧ ∗ ⟦ tally (board_at names 0) k n ⟧ ∗ ⟦ tally (board_at names 0) j m ⟧
          ⊢ H.⇛ (guard 𝓤 (k ≢ j) (⟦ tally (board_at names 0) k n ⟧ ∗ ⟦ tally (board_at names 0) j m ⟧))
      aparts log k n j m true is = let γ : ℕ = board_at names 0 in let same : k ≡ j = grind (arith, nat_tests) in
          subst (λ (i : ℕ). ⟦ seen_owns cv.code the_rules bk names log ⟧ ∗ ⟦ tally γ k n ⟧ ∗ ⟦ tally γ i m ⟧ ⊢ H.⇛ (guard 𝓤 (k ≢ j) (⟦ tally γ k n ⟧ ∗ ⟦ tally γ j m ⟧))) same (clash log k n m (guard 𝓤 (k ≢ j) (⟦ tally γ k n ⟧ ∗ ⟦ tally γ j m ⟧)))
      aparts log k n j m false is = let γ : ℕ = board_at names 0 in let other : k ≢ j = grind (arith, nat_tests) in
          qed 𝓛 (‵ (seen_owns cv.code the_rules bk names log) ∷ ‵ (tally γ k n) ∷ ‵ (tally γ j m) ∷ []) ∵ drop ! $ updating ! $ now ! $ check ! other $ done !

      -- two slots that are held are of different keys
      pub differs : (log : List (Entry K V)) (p n : Slot) → 0 < p.held → 0 < n.held → ⟦ seen_owns cv.code the_rules bk names log ⟧ ∗ ⟦ slot_owns (board_at names 0) p ⟧ ∗ ⟦ slot_owns (board_at names 0) n ⟧
          ⊢ H.⇛ (guard 𝓤 (p.key ≢ n.key) (⟦ slot_owns (board_at names 0) p ⟧ ∗ ⟦ slot_owns (board_at names 0) n ⟧))
      differs log p n held_p held_n = let γ : ℕ = board_at names 0 in let A : Fml = tally γ p.key p.count in let B : Fml = tally γ n.key n.count in
          qed 𝓛 (‵ (seen_owns cv.code the_rules bk names log) ∷ ‵ (slot_owns γ p) ∷ ‵ (slot_owns γ n) ∷ []) ∵
          move ! (1 ∷ []) $ use1 𝓛 (‵ A) (slot_is 𝓛 γ p held_p) $ move ! (2 ∷ []) $ use1 𝓛 (‵ B) (slot_is 𝓛 γ n held_n) $ move ! (2 ∷ 1 ∷ 0 ∷ []) $
          updating ! $ use3 𝓛 (later (given (p.key ≢ n.key) (‵ A ⊛ ‵ B))) (aparts log p.key p.count n.key n.count (p.key == n.key) refl) $ await ! tt $ learn ! (λ other. split ! $
          use1 𝓛 (‵ (slot_owns γ p)) (is_slot 𝓛 γ p held_p) $ move ! (1 ∷ []) $ use1 𝓛 (‵ (slot_owns γ n)) (is_slot 𝓛 γ n held_n) $ move ! (1 ∷ 0 ∷ []) $ now ! $ check ! other $ done !)
