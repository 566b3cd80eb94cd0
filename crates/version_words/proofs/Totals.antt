-- The counts of a log, as a row of cells.
use Rattle.std.proofs.Common.{◌≡◌, ℕ, zero, suc, ◌+◌, ◌<◌, ◌≤◌, true, List, [], ◌∷◌, ◌++◌, length, set, refl, ap, sym, ◌∙◌, arith}
use Rattle.logbook.specs.Pages.{Cell, cell}
use Rattle.version_words.specs.Boards.{made, total, opened, cells_of}

pub made_length : (f : ℕ → ℕ) (k n : ℕ) → length (made f k n) ≡ n
made_length f k zero = refl
made_length f k (suc n) = ap suc (made_length f (suc k) n)

pub made_cell : (f : ℕ → ℕ) (k n i : ℕ) → i < n → cell (made f k n) i ≡ (f (k + i), true)
made_cell f k zero i l = absurd (omega arith)
made_cell f k (suc n) zero l = let e : k ≡ k + 0 = omega arith in ap (λ (j : ℕ). (f j, true)) e
made_cell f k (suc n) (suc i) l = let e : suc k + i ≡ k + suc i = omega arith in made_cell f (suc k) n i (omega arith) ∙ ap (λ (j : ℕ). (f j, true)) e

made_past : (f g : ℕ → ℕ) (k n : ℕ) → ((j : ℕ) → k ≤ j → f j ≡ g j) → made f k n ≡ made g k n
made_past f g k zero same = refl
made_past f g k (suc n) same = let first : f k ≡ g k = same k (omega arith) in let rest = made_past f g (suc k) n (λ j le. same j (omega arith)) in λ i. (first i, true) ∷ rest i

made_set : (f g : ℕ → ℕ) (k n i m : ℕ) → i < n → g (k + i) ≡ m → ((j : ℕ) → ¬ (j ≡ k + i) → f j ≡ g j) → set (made f k n) i (m, true) ≡ made g k n
made_set f g k zero i m l here else = absurd (omega arith)
made_set f g k (suc n) zero m l here else =
    let e : k + 0 ≡ k = omega arith in let first : m ≡ g k = sym here ∙ ap g e in
    let rest : made f (suc k) n ≡ made g (suc k) n = made_past f g (suc k) n (λ j le. else j (λ is. omega arith)) in
    λ i. (first i, true) ∷ rest i
made_set f g k (suc n) (suc i) m l here else =
    let e : k + suc i ≡ suc k + i = omega arith in let first : f k ≡ g k = else k (λ is. omega arith) in
    let rest = made_set f g (suc k) n i m (omega arith) (ap g (sym e) ∙ here) (λ j other. else j (λ is. other (is ∙ e))) in
    λ i. (first i, true) ∷ rest i

made_more : (f : ℕ → ℕ) (k n : ℕ) → made f k (suc n) ≡ made f k n ++ (f (k + n), true) ∷ []
made_more f k zero = let e : k ≡ k + 0 = omega arith in ap (λ (j : ℕ). (f j, true) ∷ []) e
made_more f k (suc n) = let e : suc k + n ≡ k + suc n = omega arith in
    ap (λ (cs : List Cell). (f k, true) ∷ cs) (made_more f (suc k) n ∙ ap (λ (j : ℕ). made f (suc k) n ++ (f j, true) ∷ []) e)

set_again : (cs : List Cell) (i : ℕ) (c : Cell) → cell cs i ≡ c → set cs i c ≡ cs
set_again [] i c e = refl
set_again (d ∷ cs) zero c e = ap (λ (b : Cell). b ∷ cs) (sym e)
set_again (d ∷ cs) (suc i) c e = ap (λ (l : List Cell). d ∷ l) (set_again cs i c e)

module _ {E : Type 0} (adds : E → ℕ → ℕ) (opens : E → ℕ) where
  pub total_append : (xs ys : List E) (k : ℕ) → total adds (xs ++ ys) k ≡ total adds xs k + total adds ys k
  total_append [] ys k = omega arith
  total_append (e ∷ xs) ys k = let r = total_append xs ys k in omega (arith, r)

  pub opened_append : (xs ys : List E) → opened opens (xs ++ ys) ≡ opened opens xs + opened opens ys
  opened_append [] ys = omega arith
  opened_append (e ∷ xs) ys = let r = opened_append xs ys in omega (arith, r)

  pub total_snoc : (xs : List E) (e : E) (k : ℕ) → total adds (xs ++ e ∷ []) k ≡ total adds xs k + adds e k
  total_snoc xs e k = let r = total_append xs (e ∷ []) k in omega (arith, r)

  pub opened_snoc : (xs : List E) (e : E) → opened opens (xs ++ e ∷ []) ≡ opened opens xs + opens e
  opened_snoc xs e = let r = opened_append xs (e ∷ []) in omega (arith, r)

  abbrev cs : List E → List Cell
  cs = cells_of adds opens

  pub cells_length : (xs : List E) → length (cs xs) ≡ opened opens xs
  cells_length xs = made_length (total adds xs) 0 (opened opens xs)

  pub cells_cell : (xs : List E) (k : ℕ) → k < opened opens xs → cell (cs xs) k ≡ (total adds xs k, true)
  cells_cell xs k l = made_cell (total adds xs) 0 (opened opens xs) k l ∙ ap (λ (j : ℕ). (total adds xs j, true)) (omega arith)

  -- an entry of the key k alone
  pub cells_raised : (xs : List E) (e : E) (k m : ℕ) → opens e ≡ 0 → ((j : ℕ) → ¬ (j ≡ k) → adds e j ≡ 0) → k < opened opens xs → m ≡ total adds xs k + adds e k
      → set (cs xs) k (m, true) ≡ cs (xs ++ e ∷ [])
  cells_raised xs e k m shut else l is = let ys : List E = xs ++ e ∷ [] in let more : opened opens xs ≡ opened opens ys = omega (arith, opened_snoc xs e, shut) in
      let here : total adds ys (0 + k) ≡ m = ap (total adds ys) (let z : 0 + k ≡ k = omega arith in z) ∙ (total_snoc xs e k ∙ sym is) in
      made_set (total adds xs) (total adds ys) 0 (opened opens xs) k m l here (λ j other. let z : adds e j ≡ 0 = else j (λ s. other (s ∙ omega arith)) in omega (arith, total_snoc xs e j, z)) ∙ ap (λ n. made (total adds ys) 0 n) more

  -- an entry of no key
  pub cells_same : (xs : List E) (e : E) → opens e ≡ 0 → ((j : ℕ) → adds e j ≡ 0) → cs xs ≡ cs (xs ++ e ∷ [])
  cells_same xs e shut none = let ys : List E = xs ++ e ∷ [] in let more : opened opens xs ≡ opened opens ys = omega (arith, opened_snoc xs e, shut) in
      made_past (total adds xs) (total adds ys) 0 (opened opens xs) (λ j le. omega (arith, total_snoc xs e j, none j)) ∙ ap (λ n. made (total adds ys) 0 n) more

  -- an entry that opens the next key
  pub cells_opened : (xs : List E) (e : E) → opens e ≡ 1 → ((j : ℕ) → adds e j ≡ 0) → total adds xs (opened opens xs) ≡ 0 → cs xs ++ (0, true) ∷ [] ≡ cs (xs ++ e ∷ [])
  cells_opened xs e opening none fresh = let ys : List E = xs ++ e ∷ [] in let n : ℕ = opened opens xs in let more : suc n ≡ opened opens ys = omega (arith, opened_snoc xs e, opening) in
      let same : cs xs ≡ made (total adds ys) 0 n = made_past (total adds xs) (total adds ys) 0 n (λ j le. omega (arith, total_snoc xs e j, none j)) in
      let last : 0 ≡ total adds ys (0 + n) = sym (ap (total adds ys) (let z : 0 + n ≡ n = omega arith in z) ∙ (let w : total adds ys n ≡ 0 = omega (arith, total_snoc xs e n, none n, fresh) in w)) in
      ap (λ (l : List Cell). l ++ (0, true) ∷ []) same ∙ (ap (λ (v : ℕ). made (total adds ys) 0 n ++ (v, true) ∷ []) last ∙ (sym (made_more (total adds ys) 0 n) ∙ ap (λ m. made (total adds ys) 0 m) more))

  -- a count that is set to what it is
  pub cells_kept : (xs : List E) (k m : ℕ) → k < opened opens xs → m ≡ total adds xs k → set (cs xs) k (m, true) ≡ cs xs
  cells_kept xs k m l is = set_again (cs xs) k (m, true) (cells_cell xs k l ∙ ap (λ (v : ℕ). (v, true)) (sym is))
