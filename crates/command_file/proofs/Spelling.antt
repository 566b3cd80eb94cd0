-- How the words of a line are found again in its spelling.
use Rattle.std.proofs.Common.{◌≡◌, ℕ, ◌+◌, ◌<◌, false, eqb, List, [], ◌∷◌, ◌++◌, length, All, refl, sym, ap, subst, ◌∙◌, arith, ne_eqb, ◌≢◌, suc, take, drop, get_or, take-append-drop, drop-cons, add-one}
use Rattle.std.specs.List.{AllByRecursion, join_with_byte}
use Rattle.std.proofs.lemmas.List.Elements.{All-weaker}
use Rattle.std.proofs.lemmas.List.Splits.{slice_split_none, slice_split_at, join_with_byte-slice_split}
use Rattle.command_file.specs.Grammar.{IsWordByte, IsWord}
use Rattle.command_file.specs.Words.{words_in, AreWords}

-- none of the bytes is a space
abbrev pub IsOneWord : List ℕ → Type 0
IsOneWord bytes = All (λ byte. eqb byte 32 ≡ false) bytes

pub one_from_word : (word : List ℕ) → IsWord word → IsOneWord word
one_from_word word is = All-weaker IsWordByte (λ byte. eqb byte 32 ≡ false) (λ byte in-range. ne_eqb byte 32 (λ e. absurd (omega arith))) word is.bytes

pub words_in-one : (word : List ℕ) → IsOneWord word → words_in word ≡ word ∷ []
words_in-one word one = slice_split_none (λ byte. eqb byte 32) word one

pub words_in-word : (word : List ℕ) → IsWord word → words_in word ≡ word ∷ []
words_in-word word is = words_in-one word (one_from_word word is)

-- words, with a space between each two, are cut where they were joined
pub words_in-joined : (word : List ℕ) (words : List (List ℕ)) → IsOneWord word → AllByRecursion IsOneWord words → words_in (join_with_byte 32 (word ∷ words)) ≡ word ∷ words
words_in-joined word [] one all = words_in-one word one
words_in-joined word (next ∷ words) one all =
    slice_split_at (λ byte. eqb byte 32) word 32 (join_with_byte 32 (next ∷ words)) one refl
    ∙ ap (λ l. word ∷ l) (words_in-joined next words all.0 all.1)

-- and the parts of a line, joined again, are the line
pub joined-words_in : (bytes : List ℕ) → join_with_byte 32 (words_in bytes) ≡ bytes
joined-words_in bytes = join_with_byte-slice_split 32 bytes

-- bytes whose only part is a word are that word
pub only_word : (bytes : List ℕ) → AreWords 1 (words_in bytes) → IsWord bytes
only_word bytes are = at (words_in bytes) are (joined-words_in bytes)
  where
    at : (words : List (List ℕ)) → AreWords 1 words → join_with_byte 32 words ≡ bytes → IsWord bytes
    at [] h e = absurd (omega (arith, h.count))
    at (word ∷ []) h e = subst IsWord e h.each.0
    at (word ∷ next ∷ words) h e = absurd (omega (arith, h.count))

pub words-tail : (n : ℕ) (word : List ℕ) (words : List (List ℕ)) → AreWords (n + 1) (word ∷ words) → AreWords n words
words-tail n word words h = record { count = omega (arith, h.count); each = h.each.1 }

pub words-not_one : (n : ℕ) (word : List ℕ) → AreWords (n + 2) (word ∷ []) → ⊥
words-not_one n word h = omega (arith, h.count)

-- the first space of the bytes
pub split-at : (bytes : List ℕ) (at : ℕ) → at < length bytes → All (λ byte. byte ≢ 32) (take at bytes) → get_or bytes at 0 ≡ 32
    → words_in bytes ≡ take at bytes ∷ words_in (drop (at + 1) bytes)
split-at bytes at inside none space =
    let front = All-weaker (λ byte. byte ≢ 32) (λ byte. eqb byte 32 ≡ false) (λ byte ne. ne_eqb byte 32 ne) (take at bytes) none in
    let split : bytes ≡ take at bytes ++ 32 ∷ drop (at + 1) bytes =
    sym (take-append-drop at bytes) ∙ ap (λ l. take at bytes ++ l) (rw (add-one, drop-cons bytes at 0) (ap (λ b. b ∷ drop (suc at) bytes) space)) in
    ap words_in split ∙ slice_split_at (λ byte. eqb byte 32) (take at bytes) 32 (drop (at + 1) bytes) front refl
