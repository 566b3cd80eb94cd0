-- Bytes that are written over others.
use Rattle.std.proofs.Common.{◌≡◌, ◌≤◌, ◌+◌, ℕ, pos, false, eqb, leb, max, List, length, Option, sym, ap, ◌∙◌, arith, length-append, length-take, length-drop}
use Rattle.std.proofs.lemmas.Bool.{cond-true, cond-false, le-leb, lt-leb}
use Rattle.std.proofs.lemmas.List.{length-replicate}
use Rattle.resp.specs.Replies.{Number}
use Rattle.key_commands.specs.Values.{Value, bytes_of, deadline_of}
use Rattle.key_commands.specs.Outcomes.{Outcome, replies, fails, sets, fitting, too_long}
use Rattle.key_commands.specs.Reading.{size_of}
use Rattle.key_commands.specs.Editing.{over, overwritten}

pub length-over : (offset : ℕ) (new old : List ℕ) → length (over offset new old) ≡ max (length old) (offset + length new)
length-over offset new old = simp (length-append, length-take, length-drop, length-replicate) (omega arith)

-- where they fit
pub written_over : (offset : ℕ) (new : List ℕ) (most : ℕ) (v : Option Value) → eqb (length new) 0 ≡ false → offset + length new ≤ most
    → overwritten offset new most v ≡ sets (Number (pos (max (length (bytes_of v)) (offset + length new)))) (deadline_of v) (over offset new (bytes_of v))
written_over offset new most v some fits =
    let all : Outcome = sets (size_of (over offset new (bytes_of v))) (deadline_of v) (over offset new (bytes_of v)) in
    cond-false (eqb (length new) 0) (replies (size_of (bytes_of v))) (fitting most (offset + length new) all) some
    ∙ (cond-true (leb (offset + length new) most) all (fails too_long) (le-leb (offset + length new) most fits)
    ∙ ap (λ (n : ℕ). sets (Number (pos n)) (deadline_of v) (over offset new (bytes_of v))) (length-over offset new (bytes_of v)))

-- where they do not
pub not_over : (offset : ℕ) (new : List ℕ) (most : ℕ) (v : Option Value) → eqb (length new) 0 ≡ false → ¬ (offset + length new ≤ most) → overwritten offset new most v ≡ fails too_long
not_over offset new most v some long =
    let all : Outcome = sets (size_of (over offset new (bytes_of v))) (deadline_of v) (over offset new (bytes_of v)) in
    cond-false (eqb (length new) 0) (replies (size_of (bytes_of v))) (fitting most (offset + length new) all) some
    ∙ cond-false (leb (offset + length new) most) all (fails too_long) (lt-leb (offset + length new) most (omega (arith, long)))

-- the outcome that the code has, by the parts that it has them in
pub is_overwritten : (offset : ℕ) (new : List ℕ) (most : ℕ) (v : Option Value) (old : List ℕ) (place len deadline : ℕ) (o : Outcome) → eqb (length new) 0 ≡ false → offset + length new ≤ most
    → old ≡ bytes_of v → place ≡ offset → len ≡ max (length old) (place + length new) → deadline ≡ deadline_of v → o ≡ sets (Number (pos len)) deadline (over place new old) → o ≡ overwritten offset new most v
is_overwritten offset new most v old place len deadline o some fits is_old is_place is_len is_deadline is =
    is ∙ (ap (λ (n : ℕ). sets (Number (pos n)) deadline (over place new old)) is_len
    ∙ (ap (λ (at : ℕ). sets (Number (pos (max (length old) (at + length new)))) deadline (over at new old)) is_place
    ∙ (ap (λ (bytes : List ℕ). sets (Number (pos (max (length bytes) (offset + length new)))) deadline (over offset new bytes)) is_old
    ∙ (ap (λ (d : ℕ). sets (Number (pos (max (length (bytes_of v)) (offset + length new)))) d (over offset new (bytes_of v))) is_deadline
    ∙ sym (written_over offset new most v some fits)))))
