-- Arguments that are copied behind others.
use Rattle.std.proofs.Common.{◌≡◌, ◌≤◌, ◌+◌, ℕ, List, [], ◌∷◌, ◌++◌, length, take, drop, refl, ap, ◌∙◌, arith}
use Rattle.std.proofs.lemmas.List.{drop-append-le, take-append-le, length-append, length-drop, map-append}
use Rattle.std.proofs.Math.Seq.{drop-append_seam, take-length}
use Rattle.resp.specs.declared.place.Span.{Span}
use Rattle.resp.specs.Parsing.{argument_in, arguments_in, AreWithin}

-- an argument stays where bytes are added
argument_kept : (bytes more : List ℕ) (s : Span) → s.from + s.len ≤ length bytes → argument_in (bytes ++ more) s ≡ argument_in bytes s
argument_kept bytes more s within =
    let len = length-drop s.from bytes in
    ap (λ (l : List ℕ). take s.len l) (drop-append-le s.from bytes more (omega (arith, within))) ∙ take-append-le s.len (drop s.from bytes) more (omega (arith, within, len))

pub arguments_kept : (bytes more : List ℕ) (spans : List Span) → AreWithin (length bytes) spans → arguments_in (bytes ++ more) spans ≡ arguments_in bytes spans
arguments_kept bytes more [] within = refl
arguments_kept bytes more (s ∷ spans) within = ap (λ (a : List ℕ). a ∷ arguments_in (bytes ++ more) spans) (argument_kept bytes more s within.0) ∙ ap (λ (l : List (List ℕ)). argument_in bytes s ∷ l) (arguments_kept bytes more spans within.1)

last : (bytes argument : List ℕ) → argument_in (bytes ++ argument) (record { from = length bytes; len = length argument }) ≡ argument
last bytes argument = ap (λ (l : List ℕ). take (length argument) l) (drop-append_seam bytes argument) ∙ take-length argument

-- one argument more
pub one_held : (bytes argument : List ℕ) (spans : List Span) → AreWithin (length bytes) spans
    → arguments_in (bytes ++ argument) (spans ++ record { from = length bytes; len = length argument } ∷ []) ≡ arguments_in bytes spans ++ argument ∷ []
one_held bytes argument spans within =
    map-append (argument_in (bytes ++ argument)) spans (record { from = length bytes; len = length argument } ∷ [])
    ∙ (ap (λ (l : List (List ℕ)). l ++ argument_in (bytes ++ argument) (record { from = length bytes; len = length argument }) ∷ []) (arguments_kept bytes argument spans within)
    ∙ ap (λ (a : List ℕ). arguments_in bytes spans ++ a ∷ []) (last bytes argument))

wider : (m n : ℕ) (spans : List Span) → m ≤ n → AreWithin m spans → AreWithin n spans
wider m n [] le within = tt
wider m n (s ∷ spans) le within = (omega (arith, le, within.0), wider m n spans le within.1)

behind : (n : ℕ) (spans : List Span) (s : Span) → AreWithin n spans → s.from + s.len ≤ n → AreWithin n (spans ++ s ∷ [])
behind n [] s within fits = (fits, tt)
behind n (t ∷ spans) s within fits = (within.0, behind n spans s within.1 fits)

pub one_within : (bytes argument : List ℕ) (spans : List Span) → AreWithin (length bytes) spans
    → AreWithin (length (bytes ++ argument)) (spans ++ record { from = length bytes; len = length argument } ∷ [])
one_within bytes argument spans within =
    let n = length-append bytes argument in
    behind (length (bytes ++ argument)) spans (record { from = length bytes; len = length argument }) (wider (length bytes) (length (bytes ++ argument)) spans (omega (arith, n)) within) (omega (arith, n))
