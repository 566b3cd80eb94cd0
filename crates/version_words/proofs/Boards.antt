-- What a step does to a board beside the log. Assumes `Logic`.
use Rattle.std.proofs.Common.{◌≡◌, ℕ, zero, suc, ◌+◌, ◌<◌, Bool, true, false, List, [], ◌∷◌, ◌++◌, length, set, refl, ap, sym, ◌∙◌, subst, arith, MatchBool}
use seplogic.Ra.Pcs.{OpDef, OpDef-comm}
use seplogic.Ra.Ura.{Ura}
use base.Fraction.{full_share}
use base.Share.{quarter, three_quarters}
use base.FractionLaws.{not-OpDef-full_share}
use base.Algebras.{pcs, shares}
use base.Logic.{SProp, ent, sep, ex, all, guard, upd, id⊢, via, apply∗, all_e, ex_e, guard_e, upd_i, guard_i}
use base.Fml.{Fml, Share, ftrue}
use mathlib.Mathlib.Data.Part.{◌∈◌}
use base.Shift.{Keyless}
use types.Logic.{Logic, sem}
use types.Keyed.{entry, entries_beside, entry_glue, entry_keyless, entries_keyless}
use types.Kit.{‵, raw, ◌⊛◌, given, ◌$◌, ◌∵◌, !, qed, by, move, keep, split, join, fpack, learn, check, suffices, settle, done, use1, use2, rewrite}
use denote.Steps.{nothing}
use Rattle.logbook.specs.Pages.{Cell, cell}
use Rattle.logbook.specs.Kept.{fact, halved, part, home, roster}
use Rattle.version_words.specs.Boards.{total, opened, cells_of, board, Slot, slot, slot_owns, held_owns, Effect, ignores, raises, opens_at, after, Has, Told}
use Rattle.version_words.proofs.Totals.{total_snoc, opened_snoc, cells_length, cells_cell, cells_raised, cells_same, cells_opened, cells_kept}
use Rattle.logbook.proofs.Roster.{resets, joined, Reset, at_home, comes_home, grows}

home_keyless : (δ k n : ℕ) (y : Bool) → Keyless (home δ k n y)
home_keyless δ k n true = entry_keyless halved δ k _
home_keyless δ k n false = tt

pub roster_keyless : (δ k : ℕ) (cs : List Cell) → Keyless (roster δ k cs)
roster_keyless δ k [] = entries_keyless halved δ k (λ _. (full_share, 0))
roster_keyless δ k (c ∷ cs) = (home_keyless δ k c.0 c.1, roster_keyless δ (suc k) cs)

held_keyless : (γ h k n : ℕ) → Keyless (held_owns γ h k n)
held_keyless γ zero k n = tt
held_keyless γ (suc h) k n = entry_keyless halved γ k _

-- what lets a tally go to another thread
pub slot_keyless : (γ : ℕ) (s : Slot) → Keyless (slot_owns γ s)
slot_keyless γ s = held_keyless γ s.held s.key s.count

module _ {M : Type 1} {𝓤 : Ura M} (𝓛 : Logic 𝓤) (δ : ℕ) where
  abbrev Pr : Type 2
  Pr = SProp 𝓤

  abbrev ◌⊢◌ : Pr → Pr → Type 1
  P ⊢ Q = ent 𝓤 P Q

  abbrev ◌∗◌ : Pr → Pr → Pr
  P ∗ Q = sep 𝓤 P Q

  abbrev ⟦◌⟧ : Fml → Pr
  ⟦ P ⟧ = sem 𝓛 P

  infix 26 ◌⊢◌
  infixr 35 ◌∗◌
  abbrev L : ℕ → ℕ → Fml
  L k n = part δ k quarter n

  abbrev R : ℕ → ℕ → Fml
  R k n = part δ k three_quarters n

  -- a tally that someone has is of a cell that was handed out
  pub inside : (cs : List Cell) (k i j v : ℕ) → j ≡ k + i → ⟦ roster δ k cs ⟧ ∗ ⟦ L j v ⟧ ⊢ guard 𝓤 (i < length cs) (⟦ roster δ k cs ⟧ ∗ ⟦ L j v ⟧)
  inside [] k i j v e = qed 𝓛 (‵ (roster δ k []) ∷ ‵ (L j v) ∷ []) ∵ move ! (1 ∷ 0 ∷ []) $
      use2 𝓛 (given (OpDef halved.op (quarter, v) (full_share, 0)) (‵ (L j v) ⊛ ‵ (roster δ k []))) (entries_beside halved 𝓛 δ k j (λ _. (full_share, 0)) (quarter, v) (omega arith)) $
      learn ! (λ x. absurd (not-OpDef-full_share quarter ((OpDef-comm (pcs shares) {a = quarter} {b = full_share}).0 x.0)))
  inside (c ∷ cs) k zero j v e = guard_i 𝓤 (zero < suc (length cs)) (⟦ roster δ k (c ∷ cs) ⟧ ∗ ⟦ L j v ⟧) (omega arith)
  inside (c ∷ cs) k (suc i) j v e = qed 𝓛 ((‵ (home δ k c.0 c.1) ⊛ ‵ (roster δ (suc k) cs)) ∷ ‵ (L j v) ∷ []) ∵ split ! $ move ! (1 ∷ 2 ∷ []) $
      use2 𝓛 (given (i < length cs) (‵ (roster δ (suc k) cs) ⊛ ‵ (L j v))) (inside cs (suc k) i j v (omega arith)) $ learn ! (λ l. check ! (let r : suc i < suc (length cs) = omega arith in r) $
      split ! $ move ! (2 ∷ 0 ∷ []) $ join ! $ done !)

  -- whoever has the tally knows the count, and sets it
  pub trades : (cs : List Cell) (i v m : ℕ) → (i < length cs → (cell cs i).1 ≡ true)
      → ⟦ roster δ 0 cs ⟧ ∗ ⟦ L i v ⟧ ⊢ guard 𝓤 ((i < length cs) × (v ≡ (cell cs i).0)) (upd 𝓤 (⟦ roster δ 0 (set cs i (m, true)) ⟧ ∗ ⟦ L i m ⟧))
  trades cs i v m homes = let x : ℕ = (cell cs i).0 in let Z : Pr = ⟦ roster δ 0 (set cs i (m, true)) ⟧ ∗ ⟦ L i m ⟧ in qed 𝓛 (‵ (roster δ 0 cs) ∷ ‵ (L i v) ∷ []) ∵
      use2 𝓛 (given (i < length cs) (‵ (roster δ 0 cs) ⊛ ‵ (L i v))) (inside cs 0 i i v (omega arith)) $ learn ! (λ l. split ! $
      use1 𝓛 (‵ (R i x) ⊛ raw (all 𝓤 (Reset 𝓛 δ 0 cs i i))) (at_home 𝓛 δ cs 0 i i (omega arith) l (homes l)) $ split ! $ move ! (2 ∷ 0 ∷ []) $
      use2 𝓛 (given (v ≡ x) (‵ (part δ i full_share v))) (joined 𝓛 δ i v x) $ learn ! (λ same. check ! (l, same) $
      use1 𝓛 (raw (upd 𝓤 (⟦ L i m ⟧ ∗ ⟦ R i m ⟧))) (resets 𝓛 δ i v m) $ settle 𝓛 Z (‵ (L i m) ⊛ ‵ (R i m)) $ split ! $ move ! (2 ∷ []) $
      use1 𝓛 (raw (Reset 𝓛 δ 0 cs i i m)) (all_e 𝓤 (Reset 𝓛 δ 0 cs i i) m) $ move ! (2 ∷ 0 ∷ []) $ use2 𝓛 (‵ (roster δ 0 (set cs i (m, true)))) (apply∗ 𝓤 ⟦ R i m ⟧ ⟦ roster δ 0 (set cs i (m, true)) ⟧) $
      by ! (upd_i 𝓤 Z)))

  -- nobody has a tally beside the whole of its cell
  beside_whole : (k v w : ℕ) (Z : Pr) → ⟦ L k w ⟧ ∗ ⟦ part δ k full_share v ⟧ ⊢ Z
  beside_whole k v w Z = let F : Share × ℕ → Pr = λ x. guard 𝓤 (x ∈ halved.op (quarter, w) (full_share, v)) ⟦ entry halved δ k x ⟧ in
      via 𝓤 (ex 𝓤 F) (entry_glue halved 𝓛 δ k (quarter, w) (full_share, v)) (ex_e 𝓤 F (λ x. guard_e 𝓤 (x ∈ halved.op (quarter, w) (full_share, v)) ⟦ entry halved δ k x ⟧ (λ m.
      absurd (not-OpDef-full_share quarter ((OpDef-comm (pcs shares) {a = quarter} {b = full_share}).0 m.0.0)))))

  -- and no key has two tallies
  twice : (cs : List Cell) (i v w : ℕ) (Z : Pr) → (i < length cs → (cell cs i).1 ≡ true) → ⟦ roster δ 0 cs ⟧ ∗ ⟦ L i v ⟧ ∗ ⟦ L i w ⟧ ⊢ Z
  twice cs i v w Z homes = let x : ℕ = (cell cs i).0 in qed 𝓛 (‵ (roster δ 0 cs) ∷ ‵ (L i v) ∷ ‵ (L i w) ∷ []) ∵
      use2 𝓛 (given (i < length cs) (‵ (roster δ 0 cs) ⊛ ‵ (L i v))) (inside cs 0 i i v (omega arith)) $ learn ! (λ l. split ! $
      use1 𝓛 (‵ (R i x) ⊛ raw (all 𝓤 (Reset 𝓛 δ 0 cs i i))) (at_home 𝓛 δ cs 0 i i (omega arith) l (homes l)) $ split ! $ move ! (2 ∷ 0 ∷ []) $
      use2 𝓛 (given (v ≡ x) (‵ (part δ i full_share v))) (joined 𝓛 δ i v x) $ learn ! (λ same. keep ! (2 ∷ 0 ∷ []) $ by ! (beside_whole i v w Z)))

  set_last : (cs : List Cell) (c d : Cell) → set (cs ++ c ∷ []) (length cs) d ≡ cs ++ d ∷ []
  set_last [] c d = refl
  set_last (b ∷ cs) c d = ap (λ (l : List Cell). b ∷ l) (set_last cs c d)

  -- a new tally, at 0
  pub issues : (cs : List Cell) → ⟦ roster δ 0 cs ⟧ ⊢ upd 𝓤 (⟦ roster δ 0 (cs ++ (0, true) ∷ []) ⟧ ∗ ⟦ L (length cs) 0 ⟧)
  issues cs = let j : ℕ = length cs in let more : List Cell = cs ++ (0, false) ∷ [] in let Z : Pr = ⟦ roster δ 0 (cs ++ (0, true) ∷ []) ⟧ ∗ ⟦ L j 0 ⟧ in qed 𝓛 (‵ (roster δ 0 cs) ∷ []) ∵
      use1 𝓛 (‵ (roster δ 0 more) ⊛ ‵ (part δ j full_share 0)) (grows 𝓛 δ cs 0 j (omega arith)) $ split ! $ move ! (1 ∷ []) $
      use1 𝓛 (raw (upd 𝓤 (⟦ L j 0 ⟧ ∗ ⟦ R j 0 ⟧))) (resets 𝓛 δ j 0 0) $ settle 𝓛 Z (‵ (L j 0) ⊛ ‵ (R j 0)) $ split ! $ move ! (2 ∷ 1 ∷ []) $
      use2 𝓛 (‵ (roster δ 0 (set more j (0, true)))) (comes_home 𝓛 δ more 0 j j 0 (omega arith)) $ rewrite ! 0 (λ (l : List Cell). ‵ (roster δ 0 l)) (set_last cs (0, false) (0, true)) refl $ by ! (upd_i 𝓤 Z)

  module _ {E : Type 0} (adds : E → ℕ → ℕ) (opens : E → ℕ) where
    abbrev B : List E → Fml
    B = board adds opens δ

    abbrev pub Counted : List E → ℕ → ℕ → Type 0
    Counted xs k n = (k < opened opens xs) × (n ≡ total adds xs k)

    sets : (xs : List E) (k n m : ℕ) → ⟦ B xs ⟧ ∗ ⟦ L k n ⟧ ⊢ guard 𝓤 (Counted xs k n) (upd 𝓤 (⟦ roster δ 0 (set (cells_of adds opens xs) k (m, true)) ⟧ ∗ ⟦ L k m ⟧))
    sets xs k n m = let cs : List Cell = cells_of adds opens xs in qed 𝓛 (‵ (B xs) ∷ ‵ (L k n) ∷ []) ∵
        use2 𝓛 (given ((k < length cs) × (n ≡ (cell cs k).0)) (raw (upd 𝓤 (⟦ roster δ 0 (set cs k (m, true)) ⟧ ∗ ⟦ L k m ⟧))))
        (trades cs k n m (λ l. ap (λ (c : Cell). c.1) (cells_cell adds opens xs k (omega (arith, cells_length adds opens xs))))) $ learn ! (λ so.
        let l : k < opened opens xs = omega (arith, so.0, cells_length adds opens xs) in check ! (l, so.1 ∙ ap (λ (c : Cell). c.0) (cells_cell adds opens xs k l)) $ done !)

    -- no key of a board has two tallies
    pub board_twice : (xs : List E) (k n m : ℕ) (Z : Pr) → ⟦ B xs ⟧ ∗ ⟦ L k n ⟧ ∗ ⟦ L k m ⟧ ⊢ Z
    board_twice xs k n m Z = twice (cells_of adds opens xs) k n m Z (λ l. ap (λ (c : Cell). c.1) (cells_cell adds opens xs k (omega (arith, l, cells_length adds opens xs))))

    -- whoever has the tally of a key knows its count at each step
    pub looks : (xs : List E) (k n : ℕ) → ⟦ B xs ⟧ ∗ ⟦ L k n ⟧ ⊢ guard 𝓤 (Counted xs k n) (upd 𝓤 (⟦ B xs ⟧ ∗ ⟦ L k n ⟧))
    looks xs k n = qed 𝓛 (‵ (B xs) ∷ ‵ (L k n) ∷ []) ∵
        use2 𝓛 (given (Counted xs k n) (raw (upd 𝓤 (⟦ roster δ 0 (set (cells_of adds opens xs) k (n, true)) ⟧ ∗ ⟦ L k n ⟧)))) (sets xs k n n) $ learn ! (λ so. check ! so $
        settle 𝓛 (⟦ B xs ⟧ ∗ ⟦ L k n ⟧) (‵ (roster δ 0 (set (cells_of adds opens xs) k (n, true))) ⊛ ‵ (L k n)) $ split ! $ rewrite ! 0 (λ (cs : List Cell). ‵ (roster δ 0 cs)) (cells_kept adds opens xs k n so.0 so.1) refl $
        by ! (upd_i 𝓤 (⟦ B xs ⟧ ∗ ⟦ L k n ⟧)))

    -- it alone lets an entry of that key be added
    pub raises_key : (xs : List E) (e : E) (k n : ℕ) → opens e ≡ 0 → ((j : ℕ) → ¬ (j ≡ k) → adds e j ≡ 0)
        → ⟦ B xs ⟧ ∗ ⟦ L k n ⟧ ⊢ guard 𝓤 (Counted xs k n) (upd 𝓤 (⟦ B (xs ++ e ∷ []) ⟧ ∗ ⟦ L k (n + adds e k) ⟧))
    raises_key xs e k n shut else = let m : ℕ = n + adds e k in let Z : Pr = ⟦ B (xs ++ e ∷ []) ⟧ ∗ ⟦ L k m ⟧ in qed 𝓛 (‵ (B xs) ∷ ‵ (L k n) ∷ []) ∵
        use2 𝓛 (given (Counted xs k n) (raw (upd 𝓤 (⟦ roster δ 0 (set (cells_of adds opens xs) k (m, true)) ⟧ ∗ ⟦ L k m ⟧)))) (sets xs k n m) $ learn ! (λ so. check ! so $
        settle 𝓛 Z (‵ (roster δ 0 (set (cells_of adds opens xs) k (m, true))) ⊛ ‵ (L k m)) $ split ! $
        rewrite ! 0 (λ (cs : List Cell). ‵ (roster δ 0 cs)) (cells_raised adds opens xs e k m shut else so.0 (ap (λ (v : ℕ). v + adds e k) so.1)) refl $ by ! (upd_i 𝓤 Z))

    -- an entry that opens the next key gives its tally
    pub opens_key : (xs : List E) (e : E) → opens e ≡ 1 → ((j : ℕ) → adds e j ≡ 0) → total adds xs (opened opens xs) ≡ 0 → ⟦ B xs ⟧ ⊢ upd 𝓤 (⟦ B (xs ++ e ∷ []) ⟧ ∗ ⟦ L (opened opens xs) 0 ⟧)
    opens_key xs e opening none fresh = let cs : List Cell = cells_of adds opens xs in let Z : Pr = ⟦ B (xs ++ e ∷ []) ⟧ ∗ ⟦ L (opened opens xs) 0 ⟧ in qed 𝓛 (‵ (B xs) ∷ []) ∵
        use1 𝓛 (raw (upd 𝓤 (⟦ roster δ 0 (cs ++ (0, true) ∷ []) ⟧ ∗ ⟦ L (length cs) 0 ⟧))) (issues cs) $ settle 𝓛 Z (‵ (roster δ 0 (cs ++ (0, true) ∷ [])) ⊛ ‵ (L (length cs) 0)) $ split ! $
        rewrite ! 0 (λ (l : List Cell). ‵ (roster δ 0 l)) (cells_opened adds opens xs e opening none fresh) refl $ rewrite ! 1 (λ (k : ℕ). ‵ (L k 0)) (cells_length adds opens xs) refl $ by ! (upd_i 𝓤 Z)

    -- an entry of no key leaves the board
    pub ignores_entry : (xs : List E) (e : E) → opens e ≡ 0 → ((j : ℕ) → adds e j ≡ 0) → ⟦ B xs ⟧ ⊢ ⟦ B (xs ++ e ∷ []) ⟧
    ignores_entry xs e shut none = subst (λ (cs : List Cell). ⟦ B xs ⟧ ⊢ ⟦ roster δ 0 cs ⟧) (cells_same adds opens xs e shut none) (id⊢ 𝓤 _)

    abbrev Out : Effect → Bool → List E → Slot → Pr
    Out f b ys s = ⟦ B ys ⟧ ∗ (⟦ slot_owns δ (after f b s) ⟧ ∗ ⟦ fact (Told adds opens ys (after f b s)) ⟧)

    -- a slot that holds nothing
    empty : (xs ys : List E) (k n : ℕ) → ⟦ B xs ⟧ ⊢ ⟦ B ys ⟧ → ⟦ B xs ⟧ ∗ ⟦ slot_owns δ (slot 0 k n) ⟧ ⊢ upd 𝓤 (⟦ B ys ⟧ ∗ (⟦ slot_owns δ (slot 0 k n) ⟧ ∗ ⟦ fact (Told adds opens ys (slot 0 k n)) ⟧))
    empty xs ys k n go = qed 𝓛 (‵ (B xs) ∷ ‵ (slot_owns δ (slot 0 k n)) ∷ []) ∵ use1 𝓛 (‵ (B ys)) go $ nothing ! $ fpack ! (Told adds opens ys (slot 0 k n)) (λ _. ftrue) (λ (no_way : 0 < 0). absurd (omega (arith, no_way))) $
        suffices ! _ (upd_i 𝓤 _) $ move ! (1 ∷ 2 ∷ 0 ∷ []) $ done !

    -- a slot that holds a tally, which goes from n to m
    full : (xs ys : List E) (h k n m : ℕ) (C : Type 0) → (C → Counted ys k m) → ⟦ B xs ⟧ ∗ ⟦ L k n ⟧ ⊢ guard 𝓤 C (upd 𝓤 (⟦ B ys ⟧ ∗ ⟦ L k m ⟧))
        → ⟦ B xs ⟧ ∗ ⟦ slot_owns δ (slot (suc h) k n) ⟧ ⊢ upd 𝓤 (⟦ B ys ⟧ ∗ (⟦ slot_owns δ (slot (suc h) k m) ⟧ ∗ ⟦ fact (Told adds opens ys (slot (suc h) k m)) ⟧))
    full xs ys h k n m C tells go = let Z : Pr = ⟦ B ys ⟧ ∗ (⟦ slot_owns δ (slot (suc h) k m) ⟧ ∗ ⟦ fact (Told adds opens ys (slot (suc h) k m)) ⟧) in qed 𝓛 (‵ (B xs) ∷ ‵ (L k n) ∷ []) ∵
        use2 𝓛 (given C (raw (upd 𝓤 (⟦ B ys ⟧ ∗ ⟦ L k m ⟧)))) go $ learn ! (λ so. settle 𝓛 Z (‵ (B ys) ⊛ ‵ (L k m)) $ split ! $ nothing ! $
        fpack ! (Told adds opens ys (slot (suc h) k m)) (λ _. ftrue) (λ _. tells so) $ suffices ! _ (upd_i 𝓤 Z) $ move ! (1 ∷ 2 ∷ 0 ∷ []) $ done !)

    quiet : (xs : List E) (h k n : ℕ) → ⟦ B xs ⟧ ∗ ⟦ slot_owns δ (slot h k n) ⟧ ⊢ upd 𝓤 (⟦ B xs ⟧ ∗ (⟦ slot_owns δ (slot h k n) ⟧ ∗ ⟦ fact (Told adds opens xs (slot h k n)) ⟧))
    quiet xs zero k n = empty xs xs k n (id⊢ 𝓤 _)
    quiet xs (suc h) k n = full xs xs h k n n (Counted xs k n) (λ c. c) (looks xs k n)

    counted_on : (xs : List E) (e : E) (k n : ℕ) → opens e ≡ 0 → Counted xs k n → Counted (xs ++ e ∷ []) k (n + adds e k)
    counted_on xs e k n shut c = let l : k < opened opens xs = c.0 in let is : n ≡ total adds xs k = c.1 in (omega (arith, l, opened_snoc adds opens xs e, shut), omega (arith, is, total_snoc adds opens xs e k))

    passed : (xs : List E) (e : E) (h k n : ℕ) → opens e ≡ 0 → ((j : ℕ) → adds e j ≡ 0) → ⟦ B xs ⟧ ∗ ⟦ slot_owns δ (slot h k n) ⟧ ⊢ upd 𝓤 (Out ignores true (xs ++ e ∷ []) (slot h k n))
    passed xs e zero k n shut none = empty xs (xs ++ e ∷ []) k n (ignores_entry xs e shut none)
    passed xs e (suc h) k n shut none = let ys : List E = xs ++ e ∷ [] in let same : n + adds e k ≡ n = omega (arith, none k) in
        full xs ys h k n n (Counted xs k n) (λ c. subst (λ (m : ℕ). Counted ys k m) same (counted_on xs e k n shut c))
        (subst (λ (m : ℕ). ⟦ B xs ⟧ ∗ ⟦ L k n ⟧ ⊢ guard 𝓤 (Counted xs k n) (upd 𝓤 (⟦ B ys ⟧ ∗ ⟦ L k m ⟧))) same (raises_key xs e k n shut (λ j _. none j)))

    raised : (xs : List E) (e : E) (h k n : ℕ) → Has adds opens raises e (slot h k n) xs → ⟦ B xs ⟧ ∗ ⟦ slot_owns δ (slot h k n) ⟧ ⊢ upd 𝓤 (Out raises true (xs ++ e ∷ []) (slot h k n))
    raised xs e zero k n has = absurd (omega (arith, has.3))
    raised xs e (suc h) k n has = let ys : List E = xs ++ e ∷ [] in let same : n + adds e k ≡ n + 1 = ap (λ (m : ℕ). n + m) has.2 in
        full xs ys h k n (n + 1) (Counted xs k n) (λ c. subst (λ (m : ℕ). Counted ys k m) same (counted_on xs e k n has.0 c))
        (subst (λ (m : ℕ). ⟦ B xs ⟧ ∗ ⟦ L k n ⟧ ⊢ guard 𝓤 (Counted xs k n) (upd 𝓤 (⟦ B ys ⟧ ∗ ⟦ L k m ⟧))) same (raises_key xs e k n has.0 has.1))

    newly : (xs : List E) (e : E) (q : ℕ) (s : Slot) → Has adds opens (opens_at q) e s xs → ⟦ B xs ⟧ ∗ ⟦ slot_owns δ s ⟧ ⊢ upd 𝓤 (Out (opens_at q) true (xs ++ e ∷ []) s)
    newly xs e q s has = let ys : List E = xs ++ e ∷ [] in let n : ℕ = opened opens xs in let Z : Pr = Out (opens_at q) true ys s in
        let more : n < opened opens ys = omega (arith, opened_snoc adds opens xs e, has.0) in let zero_is : 0 ≡ total adds ys n = omega (arith, total_snoc adds opens xs e n, has.1 n, has.2) in
        let told : Told adds opens ys (slot 1 q 0) = subst (λ (k : ℕ). Told adds opens ys (slot 1 k 0)) (sym has.3) (λ _. (more, zero_is)) in
        qed 𝓛 (‵ (B xs) ∷ ‵ (slot_owns δ s) ∷ []) ∵ use1 𝓛 (raw (upd 𝓤 (⟦ B ys ⟧ ∗ ⟦ L n 0 ⟧))) (opens_key xs e has.0 has.1 has.2) $ settle 𝓛 Z (‵ (B ys) ⊛ ‵ (L n 0)) $ split ! $
        rewrite ! 1 (λ (k : ℕ). ‵ (L k 0)) (sym has.3) refl $ nothing ! $ fpack ! (Told adds opens ys (slot 1 q 0)) (λ _. ftrue) told $ suffices ! _ (upd_i 𝓤 Z) $ keep ! (1 ∷ 2 ∷ 0 ∷ []) $ done !

    added : (f : Effect) (xs : List E) (e : E) (s : Slot) → Has adds opens f e s xs → ⟦ B xs ⟧ ∗ ⟦ slot_owns δ s ⟧ ⊢ upd 𝓤 (Out f true (xs ++ e ∷ []) s)
    added ignores xs e s has = passed xs e s.held s.key s.count has.0 has.1
    added raises xs e s has = raised xs e s.held s.key s.count has
    added (opens_at q) xs e s has = newly xs e q s has

    -- Whatever a step adds, the slot goes as the effect says, and tells the count
    pub slot_step : (f : Effect) (b : Bool) (xs ys : List E) (e : E) (s : Slot) → MatchBool b ((ys ≡ xs ++ e ∷ []) × Has adds opens f e s xs) (ys ≡ xs) → ⟦ B xs ⟧ ∗ ⟦ slot_owns δ s ⟧ ⊢ upd 𝓤 (Out f b ys s)
    slot_step f true xs ys e s so = subst (λ (l : List E). ⟦ B xs ⟧ ∗ ⟦ slot_owns δ s ⟧ ⊢ upd 𝓤 (Out f true l s)) (sym so.0) (added f xs e s so.1)
    slot_step f false xs ys e s so = subst (λ (l : List E). ⟦ B xs ⟧ ∗ ⟦ slot_owns δ s ⟧ ⊢ upd 𝓤 (Out f false l s)) (sym so) (quiet xs s.held s.key s.count)

  -- a slot that is held at 0 is a tally at 0
  held_tally : (h k n : ℕ) → zero < h → n ≡ zero → ⟦ held_owns δ h k n ⟧ ⊢ ⟦ L k 0 ⟧
  held_tally zero k n held e = absurd (omega (arith, held))
  held_tally (suc h) k n held e = subst (λ (m : ℕ). ⟦ L k n ⟧ ⊢ ⟦ L k m ⟧) e (id⊢ 𝓤 _)

  pub is_tally : (s : Slot) → zero < s.held → s.count ≡ zero → ⟦ slot_owns δ s ⟧ ⊢ ⟦ L s.key 0 ⟧
  is_tally s held e = held_tally s.held s.key s.count held e

  -- a slot that is held is a tally
  held_is : (h k n : ℕ) → zero < h → ⟦ held_owns δ h k n ⟧ ⊢ ⟦ L k n ⟧
  held_is zero k n held = absurd (omega (arith, held))
  held_is (suc h) k n held = id⊢ 𝓤 _

  pub slot_is : (s : Slot) → zero < s.held → ⟦ slot_owns δ s ⟧ ⊢ ⟦ L s.key s.count ⟧
  slot_is s held = held_is s.held s.key s.count held

  is_held : (h k n : ℕ) → zero < h → ⟦ L k n ⟧ ⊢ ⟦ held_owns δ h k n ⟧
  is_held zero k n held = absurd (omega (arith, held))
  is_held (suc h) k n held = id⊢ 𝓤 _

  pub is_slot : (s : Slot) → zero < s.held → ⟦ L s.key s.count ⟧ ⊢ ⟦ slot_owns δ s ⟧
  is_slot s held = is_held s.held s.key s.count held
