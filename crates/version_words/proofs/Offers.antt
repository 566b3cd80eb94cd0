-- What each step does to the boards beside the log. Assumes `Logic`.
use Rattle.std.proofs.Common.{◌≡◌, ℕ, zero, suc, ◌+◌, ◌<◌, ◌==◌, Bool, true, false, List, [], ◌∷◌, ◌++◌, Some, None, refl, ap, sym, ◌∙◌, subst, arith, MatchBool}
use Rattle.std.proofs.lemmas.Bool.Decides.{nat_tests}
use seplogic.Ra.Ura.{Ura}
use base.Fraction.{full_share}
use base.Logic.{SProp, ent, sep, wand, ex, all, upd, emp, id⊢, via, all_i, upd_i}
use base.Fml.{Fml, ftrue, fsep}
use types.Logic.{Logic, sem}
use types.Owned.{basic}
use types.Keyed.{entries_new}
use types.Kit.{‵, raw, ◌⊛◌, some, later, ◌$◌, ◌∵◌, !, qed, by, move, drop, split, join, fsplit, fpack, fpick, pick, show, assume, suffices, settle, updating, await, now, done, use0, use2}
use denote.Steps.{nothing}
use Rattle.logbook.specs.Pages.{Calm}
use Rattle.logbook.specs.Kept.{fact, halved, roster, offer}
use Rattle.table_core.specs.declared.event.Event.{Event}
use Rattle.table_core.specs.declared.event.Event.TheVariants.{Enter, Named, Done, Moved}
use Rattle.table_core.specs.declared.limits.Limits.{Limits}
use Rattle.table_core.specs.BucketWords.{name_of}
use Rattle.version_words.specs.declared.entry.Entry.{Entry}
use Rattle.version_words.specs.declared.entry.Entry.TheVariants.{Opened, Happened}
use Rattle.version_words.specs.declared.entry.Answer.{Answer}
use Rattle.version_words.specs.Boards.{total, opened, board, Slot, slot_owns, held_owns, after, Has, Told, hit, board_at, LiesAt}
use Rattle.version_words.specs.Tallies.{calls_in, passes_in, installs_in, names_in, at_key, of_entry, events, kept, IsNext, Answered, on_pass, on_name, Fair, about_of, Counts, traded}
use Rattle.version_words.proofs.Counting.{total_events, opened_events, told_events, opened_passes, opened_names}
use Rattle.version_words.proofs.Boards.{roster_keyless, slot_step}

pub hit_here : (p q : ℕ) → p ≡ q → hit (q == p) ≡ 1
hit_here p q e = let b : (q == p) ≡ true = grind (arith, nat_tests, e) in ap hit b

pub hit_else : (k q j : ℕ) → k + 1 ≡ q → ¬ (j ≡ k) → hit (q == j + 1) ≡ 0
hit_else k q j e other = let no_hit : ¬ (q ≡ j + 1) = λ s. other (omega (arith, s, e)) in let b : (q == j + 1) ≡ false = grind (arith, nat_tests, no_hit) in ap hit b

module _ (K V : Type 0) where
  abbrev calls_at : Entry K V → ℕ → ℕ
  calls_at = at_key calls_in

  abbrev passes_at : Entry K V → ℕ
  passes_at = of_entry passes_in

  abbrev installs_at : Entry K V → ℕ → ℕ
  installs_at = at_key installs_in

  abbrev names_at : Entry K V → ℕ
  names_at = of_entry names_in

  pub kept_calm : (names : List ℕ) → Calm (λ (log : List (Entry K V)). kept names log)
  kept_calm names log = (roster_keyless (board_at names 0) 0 _, roster_keyless (board_at names 1) 0 _)

  has_pass : (e : Event K V) (p n : Slot) (xs : List (Entry K V)) → Fair e p n → IsNext e (events xs) → Has calls_at passes_at (on_pass e) (Happened e) p xs
  has_pass (Enter q) p n xs fair next = (
    refl,
    (λ j. refl),
    total_events calls_in xs (opened passes_at xs) ∙ (ap (λ k. total calls_in (events xs) k) (opened_events passes_in xs ∙ opened_passes (events xs)) ∙ next.1),
    omega (arith, next.0, opened_events passes_in xs, opened_passes (events xs)),
  )
  has_pass (Named m b es) p n xs fair next = (refl, λ j. refl)
  has_pass (Done q o w) p n xs fair next = (refl, (λ j other. hit_else p.key q j fair.0.1 other), hit_here (p.key + 1) q fair.0.1, fair.0.0)
  has_pass (Moved b w) p n xs fair next = (refl, λ j. refl)

  has_name : (e : Event K V) (p n : Slot) (xs : List (Entry K V)) → Fair e p n → IsNext e (events xs) → Has installs_at names_at (on_name e) (Happened e) n xs
  has_name (Enter q) p n xs fair next = (refl, λ j. refl)
  has_name (Named m b es) p n xs fair next = (
    refl,
    (λ j. refl),
    total_events installs_in xs (opened names_at xs) ∙ (ap (λ k. total installs_in (events xs) k) (opened_events names_in xs ∙ opened_names (events xs)) ∙ next.1),
    omega (arith, next.0, opened_events names_in xs, opened_names (events xs)),
  )
  has_name (Done q o None) p n xs fair next = (refl, λ j. refl)
  has_name (Done q o (Some w)) p n xs fair next = (refl, (λ j other. hit_else n.key (name_of w) j fair.1.1 other), hit_here (n.key + 1) (name_of w) fair.1.1, fair.1.0)
  has_name (Moved b w) p n xs fair next = (refl, (λ j other. hit_else n.key (name_of w) j fair.1.1 other), hit_here (n.key + 1) (name_of w) fair.1.1, fair.1.0)

  both_match : (b : Bool) (A F G C : Type 0) → (F → G) → MatchBool b (A × F) C → MatchBool b (A × G) C
  both_match true A F G C f so = (so.0, f so.1)
  both_match false A F G C f so = so

  module _ {M : Type 1} {𝓤 : Ura M} (𝓛 : Logic 𝓤) where
    open 𝓛 use {H}

    abbrev Pr : Type 2
    Pr = SProp 𝓤

    abbrev ◌⊢◌ : Pr → Pr → Type 1
    P ⊢ Q = ent 𝓤 P Q

    abbrev ◌∗◌ : Pr → Pr → Pr
    P ∗ Q = sep 𝓤 P Q

    abbrev ◌-∗◌ : Pr → Pr → Pr
    P -∗ Q = wand 𝓤 P Q

    abbrev ⟦◌⟧ : Fml → Pr
    ⟦ P ⟧ = sem 𝓛 P

    infix 26 ◌⊢◌
    infixr 35 ◌∗◌
    infixr 30 ◌-∗◌
    -- the two boards of a log that says how the row was opened
    pub begins : (l : Limits) → emp 𝓤 ⊢ H.⇛ (ex 𝓤 (λ (names : List ℕ). ⟦ kept {K = K} {V = V} names (Opened l ∷ []) ⟧))
    begins l = qed 𝓛 [] ∵ updating ! $
        use0 𝓛 (later (some (λ (γ : ℕ). ‵ (roster γ 0 [])))) (via 𝓤 _ (entries_new halved 𝓛 0 (λ _. (full_share, 0))) (basic 𝓛 _)) $ await ! tt $ pick ! (λ γ.
        use0 𝓛 (later (some (λ (ρ : ℕ). ‵ (roster ρ 0 [])))) (via 𝓤 _ (entries_new halved 𝓛 0 (λ _. (full_share, 0))) (basic 𝓛 _)) $ await ! tt $ pick ! (λ ρ.
        move ! (1 ∷ 0 ∷ []) $ now ! $ show ! (λ (names : List ℕ). ⟦ kept {K = K} {V = V} names (Opened l ∷ []) ⟧) (γ ∷ ρ ∷ []) $ done !))

    moves_held : (γ b h k n : ℕ) → (0 < h → b ≡ γ) → ⟦ held_owns b h k n ⟧ ⊢ ⟦ held_owns γ h k n ⟧
    moves_held γ b zero k n at = id⊢ 𝓤 _
    moves_held γ b (suc h) k n at = subst (λ (δ : ℕ). ⟦ held_owns b (suc h) k n ⟧ ⊢ ⟦ held_owns δ (suc h) k n ⟧) (at (omega arith)) (id⊢ 𝓤 _)

    pub lies : (γ b : ℕ) (s : Slot) → LiesAt γ b s → ⟦ slot_owns b s ⟧ ⊢ ⟦ slot_owns γ s ⟧
    lies γ b s at = moves_held γ b s.held s.key s.count at

    stepped : (γ ρ : ℕ) (e : Event K V) (p n : Slot) (b : Bool) (xs ys : List (Entry K V)) → Fair e p n → MatchBool b ((ys ≡ xs ++ Happened e ∷ []) × IsNext e (events xs)) (ys ≡ xs)
        → ⟦ board calls_at passes_at γ xs ⟧ ∗ ⟦ board installs_at names_at ρ xs ⟧ ∗ ⟦ slot_owns γ p ⟧ ∗ ⟦ slot_owns ρ n ⟧
        ⊢ upd 𝓤 ((⟦ board calls_at passes_at γ ys ⟧ ∗ ⟦ board installs_at names_at ρ ys ⟧) ∗ ⟦ slot_owns γ (after (on_pass e) b p) ⟧ ∗ ⟦ slot_owns ρ (after (on_name e) b n) ⟧ ∗ ⟦ fact (Counts (events ys) (after (on_pass e) b p) (after (on_name e) b n)) ⟧)
    stepped γ ρ e p n b xs ys fair so = let p' : Slot = after (on_pass e) b p in let n' : Slot = after (on_name e) b n in let F₁ : Type 0 = Told calls_at passes_at ys p' in let F₂ : Type 0 = Told installs_at names_at ys n' in
        let Bp : List (Entry K V) → Fml = board calls_at passes_at γ in let Bn : List (Entry K V) → Fml = board installs_at names_at ρ in
        let Z : Pr = (⟦ Bp ys ⟧ ∗ ⟦ Bn ys ⟧) ∗ ⟦ slot_owns γ p' ⟧ ∗ ⟦ slot_owns ρ n' ⟧ ∗ ⟦ fact (Counts (events ys) p' n') ⟧ in
        qed 𝓛 (‵ (Bp xs) ∷ ‵ (Bn xs) ∷ ‵ (slot_owns γ p) ∷ ‵ (slot_owns ρ n) ∷ []) ∵ move ! (0 ∷ 2 ∷ []) $
        use2 𝓛 (raw (upd 𝓤 (⟦ Bp ys ⟧ ∗ (⟦ slot_owns γ p' ⟧ ∗ ⟦ fact F₁ ⟧)))) (slot_step 𝓛 γ calls_at passes_at (on_pass e) b xs ys (Happened e) p (both_match b (ys ≡ xs ++ Happened e ∷ []) (IsNext e (events xs)) (Has calls_at passes_at (on_pass e) (Happened e) p xs) (ys ≡ xs) (has_pass e p n xs fair) so)) $
        settle 𝓛 Z (‵ (Bp ys) ⊛ ‵ (slot_owns γ p') ⊛ ‵ (fact F₁)) $ split ! $ move ! (1 ∷ []) $ split ! $ move ! (1 ∷ []) $ fpick ! (λ f₁. drop ! $ move ! (2 ∷ 3 ∷ []) $
        use2 𝓛 (raw (upd 𝓤 (⟦ Bn ys ⟧ ∗ (⟦ slot_owns ρ n' ⟧ ∗ ⟦ fact F₂ ⟧)))) (slot_step 𝓛 ρ installs_at names_at (on_name e) b xs ys (Happened e) n (both_match b (ys ≡ xs ++ Happened e ∷ []) (IsNext e (events xs)) (Has installs_at names_at (on_name e) (Happened e) n xs) (ys ≡ xs) (has_name e p n xs fair) so)) $
        settle 𝓛 Z (‵ (Bn ys) ⊛ ‵ (slot_owns ρ n') ⊛ ‵ (fact F₂)) $ split ! $ move ! (1 ∷ []) $ split ! $ move ! (1 ∷ []) $ fpick ! (λ f₂. drop ! $
        nothing ! $ fpack ! (Counts (events ys) p' n') (λ _. ftrue) (told_events calls_in passes_in ys p' f₁, told_events installs_in names_in ys n' f₂) $ suffices ! _ (upd_i 𝓤 Z) $ move ! (4 ∷ 2 ∷ []) $ join ! $ move ! (0 ∷ 3 ∷ 2 ∷ 1 ∷ []) $ done !))

    -- the tallies make the offer
    pub makes_offer : (names : List ℕ) (e : Event K V) (p n : Slot) → Fair e p n
        → ⟦ slot_owns (board_at names 0) p ⟧ ∗ ⟦ slot_owns (board_at names 1) n ⟧ ⊢ ⟦ offer (λ log. kept names log) (λ xs ys r. Answered (Happened e) xs ys r) (λ r. traded names (about_of e p n) r) ⟧
    makes_offer names e p n fair = let γ : ℕ = board_at names 0 in let ρ : ℕ = board_at names 1 in
        let N : List (Entry K V) × List (Entry K V) × Answer (Entry K V) → Pr = λ z. ⟦ kept names z.0 ⟧ -∗ upd 𝓤 (⟦ kept names z.1 ⟧ ∗ ⟦ traded names (about_of e p n) z.2 ⟧) in
        all_i 𝓤 (λ (z : List (Entry K V) × List (Entry K V) × Answer (Entry K V)). all 𝓤 (λ (_ : Answered (Happened e) z.0 z.1 z.2). N z)) (λ z. all_i 𝓤 (λ (_ : Answered (Happened e) z.0 z.1 z.2). N z) (λ so.
        let b : Bool = z.2.done in let p' : Slot = after (on_pass e) b p in let n' : Slot = after (on_name e) b n in
        let Out : List (Entry K V) → Fml = λ log. fsep (slot_owns γ p') (fsep (slot_owns ρ n') (fact (Counts (events log) p' n'))) in
        qed 𝓛 (‵ (slot_owns γ p) ∷ ‵ (slot_owns ρ n) ∷ []) ∵ assume ! (‵ (kept names z.0)) $ fsplit ! $
        suffices ! (upd 𝓤 (⟦ kept names z.1 ⟧ ∗ ⟦ Out z.1 ⟧)) (subst (λ (l : List (Entry K V)). upd 𝓤 (⟦ kept names z.1 ⟧ ∗ ⟦ Out z.1 ⟧) ⊢ upd 𝓤 (⟦ kept names z.1 ⟧ ∗ ⟦ Out l ⟧)) (sym so.0) (id⊢ 𝓤 _)) $
        by ! (stepped γ ρ e p n b z.0 z.1 fair so.1)))
