-- A line that is added to others.
use Rattle.std.proofs.Common.{◌≡◌, ℕ, List, [], ◌∷◌, ◌++◌, Result, Ok, Err, OnOk, ap, sym, ◌∙◌, append_assoc}

-- the line is one of which this is so
pub line_so : {T E : Type 0} (r : Result T E) (old new line : List ℕ) (P : List ℕ → Type 0) → P line → OnOk r (new ≡ old ++ (line ++ 10 ∷ [])) → OnOk r ((x : List ℕ) × (new ≡ old ++ (x ++ 10 ∷ [])) × P x)
line_so (Ok done) old new line P so h = (line, h, so)
line_so (Err e) old new line P so h = tt

-- a line that is added in two parts
pub two_parts : {T E : Type 0} (r : Result T E) (old mid new place digits : List ℕ) → mid ≡ old ++ place → OnOk r (new ≡ mid ++ (digits ++ 10 ∷ [])) → OnOk r (new ≡ old ++ ((place ++ digits) ++ 10 ∷ []))
two_parts (Ok done) old mid new place digits is h =
    h ∙ (ap (λ (z : List ℕ). z ++ (digits ++ 10 ∷ [])) is ∙ (append_assoc old place (digits ++ 10 ∷ []) ∙ ap (λ (z : List ℕ). old ++ z) (sym (append_assoc place digits (10 ∷ [])))))
two_parts (Err e) old mid new place digits is h = tt

-- a line of which more is so
pub line_and : {T E : Type 0} (r : Result T E) (old new : List ℕ) (P Q : List ℕ → Type 0) → ((line : List ℕ) → P line → Q line) → OnOk r ((x : List ℕ) × (new ≡ old ++ (x ++ 10 ∷ [])) × P x) → OnOk r ((x : List ℕ) × (new ≡ old ++ (x ++ 10 ∷ [])) × Q x)
line_and (Ok done) old new P Q more h = (h.0, h.1, more h.0 h.2)
line_and (Err e) old new P Q more h = tt

-- and the command of which it is the line
pub of_command : {C T E : Type 0} (r : Result T E) (old new : List ℕ) (Is : C → Type 0) (P : C → List ℕ → Type 0) (c : C) → Is c
    → OnOk r ((line : List ℕ) × (new ≡ old ++ (line ++ 10 ∷ [])) × P c line) → OnOk r ((d : C) × (line : List ℕ) × Is d × (new ≡ old ++ (line ++ 10 ∷ [])) × P d line)
of_command (Ok done) old new Is P c is h = (c, h.0, is, h.1, h.2)
of_command (Err e) old new Is P c is h = tt
