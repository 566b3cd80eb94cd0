-- Whoever sees a log of the book sees no install of a name whose right is shut. Assumes `Logic`.
use Rattle.std.proofs.Common.{◌≡◌, ℕ, List, [], ◌∷◌, map, ap, sym, ◌∙◌, arith}
use mathlib.Core.Logic.Or
use mathlib.Core.HLevel.{⊥_prop}
use mathlib.Core.List.{IsPrefix, mem-cons, not-mem-nil}
use seplogic.Ra.Ura.{Ura}
use base.Fraction.{full_share}
use base.Stored.{Coded}
use base.Several.{Apart, bodies}
use base.Growing.{latest}
use base.Logic.{SProp, ent, sep, guard, upd, emp, id⊢, upd_i}
use base.Fml.{Fml, fnamed}
use types.Logic.{Logic, sem}
use types.Growing.{latest_bounds}
use types.Kit.{‵, raw, ◌⊛◌, given, ◌$◌, ◌∵◌, !, qed, move, drop, split, fsplit, fsplit3, fjoin, fjoin3, fpack, fpick, learn, check, frame, assume, suffices, settle, done, use1, use2}
use denote.Steps.{nothing}
use Rattle.logbook.specs.Pages.{Cell, Book, Calm}
use Rattle.logbook.specs.Kept.{fact, halved, roster, logs, Rules, rules, reached, standing, contents, seen_owns}
use Rattle.logbook.proofs.Roster.{prefix_out}
use Rattle.version_words.specs.declared.entry.Entry.{Entry}
use Rattle.version_words.specs.Boards.{total, board, tally, board_at}
use Rattle.version_words.specs.Tallies.{calls_in, passes_in, installs_in, names_in, at_key, of_entry, events, kept}
use Rattle.version_words.specs.Rows.{IsKept}
use Rattle.version_words.specs.Shuts.{shut_owns}
use Rattle.version_words.proofs.Totals.{total_append}
use Rattle.version_words.proofs.Counting.{total_events}
use Rattle.version_words.proofs.Boards.{looks, Counted}

apart : (i j : ℕ) (P Q : Fml) → ¬ (i ≡ j) → Apart ((i, P) ∷ (j, Q) ∷ [])
apart i j P Q ne = ((λ m. Or.elim ⊥_prop ((mem-cons {a = i} {b = j} {l = []}).0 m) ne (λ x. not-mem-nil x)), ((λ m. not-mem-nil m), tt))

module _ (K V : Type 0) (ek : K → List ℕ) (ev : V → List ℕ) where
  abbrev pub the_rules : Rules (Entry K V)
  the_rules = rules (λ cells log. IsKept ek ev cells log) (λ log. log) (λ names log. kept names log)

  module _ {M : Type 1} {𝓤 : Ura M} (𝓛 : Logic 𝓤) where
    open 𝓛 use {H}

    abbrev Pr : Type 2
    Pr = SProp 𝓤

    abbrev ◌⊢◌ : Pr → Pr → Type 1
    P ⊢ Q = ent 𝓤 P Q

    abbrev ◌∗◌ : Pr → Pr → Pr
    P ∗ Q = sep 𝓤 P Q

    abbrev ⟦◌⟧ : Fml → Pr
    ⟦ P ⟧ = sem 𝓛 P

    infix 26 ◌⊢◌
    infixr 35 ◌∗◌
    module _ (cv : Coded (Entry K V)) (bk : Book) (names : List ℕ) where
      abbrev J : Fml
      J = contents cv.code the_rules bk.log_name bk.cells_name names

      abbrev had : List (Entry K V) → Fml
      had = reached cv.code bk.log_name

      abbrev top : List (Entry K V) → Fml
      top log = latest logs full_share bk.log_name (map cv.code log)

      abbrev Q : Type 0
      Q = Calm (the_rules.keeps names)

      opened : (log : List (Entry K V)) → ⟦ seen_owns cv.code the_rules bk names log ⟧ ⊢ guard 𝓤 Q (⟦ fnamed bk.number J ⟧ ∗ ⟦ had log ⟧)
      unfolding Rattle.logbook.specs.Kept.seal
      opened log = id⊢ 𝓤 _

      -- whoever sees a log of the book sees no install of a name whose right is shut
      pub nevers : (log : List (Entry K V)) (n : ℕ) → ⟦ seen_owns cv.code the_rules bk names log ⟧ ∗ ⟦ shut_owns bk (board_at names 1) n ⟧ ⊢ H.⇛ (guard 𝓤 (total installs_in (events log) n ≡ 0) (emp 𝓤))
      nevers log n = let ρ : ℕ = board_at names 1 in let T : Fml = tally ρ n 0 in let Z : Pr = guard 𝓤 (total installs_in (events log) n ≡ 0) (emp 𝓤) in let B₀ : List (Entry K V) → Fml = board (at_key calls_in) (of_entry passes_in) (board_at names 0) in let B₁ : List (Entry K V) → Fml = board (at_key installs_in) (of_entry names_in) ρ in
          qed 𝓛 (‵ (seen_owns cv.code the_rules bk names log) ∷ ‵ (shut_owns bk ρ n) ∷ []) ∵ use1 𝓛 (given Q (‵ (fnamed bk.number J) ⊛ ‵ (had log))) (opened log) $ learn ! (λ calm. split ! $
          move ! (2 ∷ []) $ fpick ! (λ j. fsplit ! $ fpick ! (λ past. drop ! $ let Ps : List (ℕ × Fml) = (bk.number, J) ∷ (j, T) ∷ [] in
          suffices ! _ (𝓛.invs.invs_acc Ps Z (apart bk.number j J T (λ (e : bk.number ≡ j). omega (arith, e, past)))) $ nothing ! $ move ! (2 ∷ 1 ∷ 0 ∷ []) $ fjoin3 ! $ frame ! $ assume ! (‵ (bodies Ps)) $ fsplit3 ! $
          fpick ! (λ s. fsplit3 ! $ move ! (2 ∷ []) $ fsplit ! $ move ! (3 ∷ 6 ∷ []) $
          use2 𝓛 (given (IsPrefix (map cv.code log) (map cv.code s.1)) (‵ (top s.1) ⊛ ‵ (had log))) (latest_bounds logs 𝓛 full_share bk.log_name (map cv.code s.1) (map cv.code log)) $ learn ! (λ below. split ! $
          let pre : IsPrefix log s.1 = prefix_out cv log s.1 below in
          move ! (2 ∷ []) $ fsplit ! $ move ! (1 ∷ 6 ∷ []) $ use2 𝓛 (given (Counted 𝓛 ρ (at_key installs_in) (of_entry names_in) s.1 n 0) (raw (upd 𝓤 (⟦ B₁ s.1 ⟧ ∗ ⟦ T ⟧)))) (looks 𝓛 ρ (at_key installs_in) (of_entry names_in) s.1 n 0) $ learn ! (λ so.
          settle 𝓛 (⟦ bodies Ps ⟧ ∗ Z) (‵ (B₁ s.1) ⊛ ‵ T) $ split ! $ move ! (2 ∷ 0 ∷ []) $ fjoin ! $ move ! (0 ∷ 4 ∷ []) $ fjoin ! $ move ! (4 ∷ 2 ∷ 0 ∷ []) $ fjoin3 ! $
          fpack ! (List Cell × List (Entry K V)) (standing cv.code the_rules bk.log_name bk.cells_name names) s $ move ! (0 ∷ 1 ∷ 3 ∷ []) $ fjoin3 ! $ suffices ! _ (upd_i 𝓤 (⟦ bodies Ps ⟧ ∗ Z)) $ frame ! $
          let zero_at : total (at_key installs_in) s.1 n ≡ 0 = sym so.1 in check ! (omega (arith, zero_at, total_events installs_in log n, sym (ap (λ l. total (at_key installs_in) l n) pre.1) ∙ total_append (at_key installs_in) (of_entry names_in) log pre.0 n)) $ drop ! $ done !))))))
