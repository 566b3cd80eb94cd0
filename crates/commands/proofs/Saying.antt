-- Options, one word after another.
use Rattle.std.proofs.Common.{◌≡◌, ℕ, List, [], ◌∷◌, length, map, sym, ap, subst, inl, inr, arith}
use Rattle.std.specs.Char.{to_ascii_lowercase}
use Rattle.commands.specs.declared.options.Optioned.{Optioned}
use Rattle.commands.specs.declared.options.Options.{Options}
use Rattle.commands.specs.Options.{IsWord, IsTimed, AreOptions}

pub some_left : (words : List (List ℕ)) (word : List ℕ) (behind : List (List ℕ)) → words ≡ word ∷ behind → length words ≡ 0 → ⊥
some_left words word behind is none =
    let more : length words ≡ length (word ∷ behind) = ap (λ (ws : List (List ℕ)). length ws) is in
    absurd (omega (arith, more, none))

-- a word before others
pub word_before : (of : Optioned) (word : List ℕ) (behind : List (List ℕ)) (s u t : Options) → IsWord of (map to_ascii_lowercase word) s u → AreOptions of behind u t → AreOptions of (word ∷ behind) s t
word_before of word [] s u t says more = subst (λ (o : Options). IsWord of (map to_ascii_lowercase word) s o) more says
word_before of word (number ∷ behind) s u t says more = inl (u, says, more)

-- the words that are left are these
pub said_by : (of : Optioned) (left words : List (List ℕ)) (s t : Options) → left ≡ words → AreOptions of words s t → AreOptions of left s t
said_by of left words s t is says = subst (λ (ws : List (List ℕ)). AreOptions of ws s t) (sym is) says

pub timed_before : (of : Optioned) (word number : List ℕ) (behind : List (List ℕ)) (s u t : Options) → IsTimed word number s u → AreOptions of behind u t → AreOptions of (word ∷ number ∷ behind) s t
timed_before of word number behind s u t says more = inr (u, says, more)
