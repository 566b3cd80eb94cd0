-- What is collected by calls of a closure, one after another, where each adds an item or says that it could not.
use Rattle.std.proofs.Common.{◌≡◌, Bool, false, List, [], ◌∷◌, ◌++◌, sym, ap, append-nil, append_assoc, ◌∙◌}
use Rattle.std.specs.List.{FoldsTo}

module _ {F A N : Type 0} (step : F → A → F → Type 0) (items : F → List A) (short : F → Bool) (name : F → N)
    (each : (f : F) (x : A) (g : F) → step f x g → (name g ≡ name f) × (short g ≡ false → (short f ≡ false) × (items g ≡ items f ++ x ∷ []))) where
  pub collected : (f : F) (xs : List A) (g : F) → FoldsTo step f xs g → (name g ≡ name f) × (short g ≡ false → (short f ≡ false) × (items g ≡ items f ++ xs))
  collected f [] g is = (ap name (sym is), λ no. (ap short is ∙ no, ap items (sym is) ∙ sym (append-nil (items f))))
  collected f (x ∷ xs) g steps =
      let first = each f x steps.0 steps.1 in
      let rest = collected steps.0 xs g steps.2 in (
        rest.0 ∙ first.0,
        λ no.
            let after = rest.1 no in
            let before = first.1 after.0 in
            (before.0, after.1 ∙ (ap (λ (l : List _). l ++ xs) before.1 ∙ append_assoc (items f) (x ∷ []) xs)),
      )

pub collected_by : {F A N : Type 0} {step : F → A → F → Type 0} (f : F) (xs : List A) (g : F) → FoldsTo step f xs g → (items : F → List A) (short : F → Bool) (name : F → N)
    → ((p : F) (x : A) (q : F) → step p x q → (name q ≡ name p) × (short q ≡ false → (short p ≡ false) × (items q ≡ items p ++ x ∷ [])))
    → (name g ≡ name f) × (short g ≡ false → (short f ≡ false) × (items g ≡ items f ++ xs))
collected_by {step = step} f xs g steps items short name each = collected step items short name each f xs g steps
