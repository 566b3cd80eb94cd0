-- Bytes that print, one after another.
use Rattle.std.proofs.Common.{◌≡◌, ◌==◌, ◌↔◌, ℕ, ◌+◌, ◌<◌, ◌≤◌, Bool, true, false, ◌&&◌, List, length, get_or, All, IsTrue, refl, subst, sym, ◌∙◌, true≢false, arith}
use Rattle.std.specs.Char.{is_ascii_graphic}
use Rattle.std.proofs.lemmas.Bool.{eqb-true}
use Rattle.std.proofs.lemmas.Bool.Decides.{nat_tests}
use Rattle.std.proofs.lemmas.List.Elements.{All-get_or, All-from_get_or}
use Rattle.command_file.specs.Grammar.{IsWordByte}

-- the first n bytes print
abbrev pub PrintsBefore : List ℕ → ℕ → Type 0
PrintsBefore bytes n = (i : ℕ) → i < n → IsWordByte (get_or bytes i 0)

prints : (byte : ℕ) → IsTrue (is_ascii_graphic byte) ↔ IsWordByte byte
prints byte = (λ is. grind (arith, nat_tests), λ is. grind (arith, nat_tests))

pub none_yet : (bytes : List ℕ) → IsTrue true ↔ PrintsBefore bytes 0
none_yet bytes = (λ is i lt. absurd (omega (arith, lt)), λ all. refl)

last : (bytes : List ℕ) (n i : ℕ) (is : Bool) → (i == n) ≡ is → i < n + 1 → IsWordByte (get_or bytes n 0) → PrintsBefore bytes n → IsWordByte (get_or bytes i 0)
last bytes n i true is lt prints before = subst (λ k. IsWordByte (get_or bytes k 0)) (sym (eqb-true i n is)) prints
last bytes n i false isnt lt prints before =
    let lower : i < n = grind (arith, nat_tests) in
    before i lower

pub one_more : (bytes : List ℕ) (n : ℕ) (all is : Bool) → is ≡ is_ascii_graphic (get_or bytes n 0) → (IsTrue all ↔ PrintsBefore bytes n)
    → IsTrue (all && is) ↔ PrintsBefore bytes (n + 1)
one_more bytes n true true same before = (λ is i lt. last bytes n i (i == n) refl lt ((prints (get_or bytes n 0)).0 (sym same)) (before.0 refl), λ all. refl)
one_more bytes n true false same before = (λ is. absurd (true≢false (sym is)), λ all. same ∙ (prints (get_or bytes n 0)).1 (all n (omega arith)))
one_more bytes n false is same before = (λ is. absurd (true≢false (sym is)), λ all. before.1 (λ i lt. all i (omega (arith, lt))))

pub all_print : (bytes : List ℕ) (n : ℕ) (all : Bool) → length bytes ≤ n → n ≤ length bytes → (IsTrue all ↔ PrintsBefore bytes n) → IsTrue all ↔ All IsWordByte bytes
all_print bytes n all le ge before = (
  λ is. All-from_get_or IsWordByte bytes 0 (λ i lt. before.0 is i (omega (arith, lt))),
  λ is. before.1 (λ i lt. All-get_or IsWordByte bytes i 0 (omega (arith, lt)) is),
)
