-- How a file's bytes begin with a line.
use Rattle.std.proofs.Common.{◌≡◌, ◌≢◌, ℕ, ◌<◌, Bool, true, false, cond, eqb, List, [], ◌∷◌, ◌++◌, length, refl, sym, ap, subst, ◌∙◌, arith, ne_eqb}
use Rattle.std.specs.List.{onto_first}
use Rattle.std.proofs.lemmas.List.Elements.{All-head, All-tail}
use Rattle.command_file.specs.Lines.{lines_of}
use Rattle.command_file.specs.Reading.{HasNoFeed}

feed_free-head : (byte : ℕ) (bytes : List ℕ) → HasNoFeed (byte ∷ bytes) → eqb byte 10 ≡ false
feed_free-head byte bytes free = ne_eqb byte 10 (All-head (λ b. b ≢ 10) byte bytes free)

feed_free-tail : (byte : ℕ) (bytes : List ℕ) → HasNoFeed (byte ∷ bytes) → HasNoFeed bytes
feed_free-tail byte bytes free = All-tail (λ b. b ≢ 10) byte bytes free

-- a byte that is no LF belongs to the first line
lines_of-cons : (byte : ℕ) (bytes : List ℕ) → eqb byte 10 ≡ false → lines_of (byte ∷ bytes) ≡ onto_first byte (lines_of bytes)
lines_of-cons byte bytes other = ap (λ b. cond b ([] ∷ lines_of bytes) (onto_first byte (lines_of bytes))) other

-- a line ends at its LF
pub lines_of-feed : (line rest : List ℕ) → HasNoFeed line → lines_of (line ++ 10 ∷ rest) ≡ line ∷ lines_of rest
lines_of-feed [] rest free = refl
lines_of-feed (byte ∷ line) rest free =
    lines_of-cons byte (line ++ 10 ∷ rest) (feed_free-head byte line free)
    ∙ ap (onto_first byte) (lines_of-feed line rest (feed_free-tail byte line free))

-- or at the end of the file
pub lines_of-last : (byte : ℕ) (line : List ℕ) → HasNoFeed (byte ∷ line) → lines_of (byte ∷ line) ≡ (byte ∷ line) ∷ []
lines_of-last byte [] free = lines_of-cons byte [] (feed_free-head byte [] free)
lines_of-last byte (next ∷ line) free =
    lines_of-cons byte (next ∷ line) (feed_free-head byte (next ∷ line) free)
    ∙ ap (onto_first byte) (lines_of-last next line (feed_free-tail byte (next ∷ line) free))

-- the lines are one that begins with these bytes, and others
pub record BeginsWith (front : List ℕ) (lines : List (List ℕ)) : Type 0 where
  pub more : List ℕ
  pub others : List (List ℕ)
  pub is : lines ≡ (front ++ more) ∷ others

begins-onto_first : (byte : ℕ) (lines : List (List ℕ)) → BeginsWith (byte ∷ []) (onto_first byte lines)
begins-onto_first byte [] = record { more = []; others = []; is = refl }
begins-onto_first byte (line ∷ lines) = record { more = line; others = lines; is = refl }

begins-further : (byte : ℕ) (front : List ℕ) (lines : List (List ℕ)) → BeginsWith front lines → BeginsWith (byte ∷ front) (onto_first byte lines)
begins-further byte front lines h = record { more = h.more; others = h.others; is = ap (onto_first byte) h.is }

-- bytes without an LF begin the first line
pub begins : (byte : ℕ) (front rest : List ℕ) → HasNoFeed (byte ∷ front) → BeginsWith (byte ∷ front) (lines_of ((byte ∷ front) ++ rest))
begins byte [] rest free =
    subst (BeginsWith (byte ∷ [])) (sym (lines_of-cons byte rest (feed_free-head byte [] free))) (begins-onto_first byte (lines_of rest))
begins byte (next ∷ front) rest free =
    subst (BeginsWith (byte ∷ next ∷ front)) (sym (lines_of-cons byte ((next ∷ front) ++ rest) (feed_free-head byte (next ∷ front) free)))
    (begins-further byte (next ∷ front) (lines_of ((next ∷ front) ++ rest)) (begins next front rest (feed_free-tail byte (next ∷ front) free)))

-- a file with a byte has a line
pub lines_of-some : (byte : ℕ) (bytes : List ℕ) → 0 < length (lines_of (byte ∷ bytes))
lines_of-some byte bytes = either (eqb byte 10)
  where
    onto : (lines : List (List ℕ)) → 0 < length (onto_first byte lines)
    onto [] = omega arith
    onto (line ∷ lines) = omega arith

    either : (b : Bool) → 0 < length (cond b ([] ∷ lines_of bytes) (onto_first byte (lines_of bytes)))
    either true = omega arith
    either false = onto (lines_of bytes)
