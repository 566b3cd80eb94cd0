-- The lines of a part that were gone through, and where their commands lie in the text.
use Rattle.std.proofs.Common.{◌≡◌, ℕ, ◌+◌, ◌-◌, ◌<◌, ◌≤◌, List, [], ◌∷◌, ◌++◌, length, map, refl, sym, ap, subst, arith, append-nil, length-append}
use Rattle.std.proofs.lemmas.List.{map-append, length-map}
use Rattle.command_file.specs.declared.command.Command.{Command}
use Rattle.command_file.specs.declared.place.Place.{Place}
use Rattle.command_file.specs.Lines.{lines_of}
use Rattle.command_file.specs.Grammar.{Says, IsGood}
use Rattle.command_file.specs.Files.{SayAll, IsFile, IsBadLine, IsTooMany}
use Rattle.command_file.specs.Places.{command_in, end_of, AreWithin, StandsAt, PlacesLine}
use Rattle.command_file.specs.Parts.{PlacesLines}
use Rattle.command_file.specs.Scripts.{BeginsSo}
use Rattle.command_file.proofs.Cutting.{stands, stands_somewhere, somewhere, follows, line_within}
use Rattle.command_file.proofs.Lines.{lines_of-some}
use Rattle.command_file.proofs.Progress.{IsRead, read_none, read_line, read_lines, read_all, bad_line, too_many, few_from_say}
use Rattle.command_file.proofs.Written.{say-cons, spelling_some}

-- the rest begins with the line of this number, and the commands of those before it lie so in each text in which the bytes
-- stand from this place on
pub record Scanned (bytes : List ℕ) (from : ℕ) (rest : List ℕ) (number : ℕ) (places : List Place) : Type 0 where
  pub front : (before : List ℕ) × (bytes ≡ before ++ rest)
  pub read : (text : List ℕ) → StandsAt text from bytes → IsRead (lines_of bytes) (lines_of rest) number (map (command_in text) places)
  pub within : AreWithin (from + length bytes) places

pub scanned_none : (bytes : List ℕ) (from : ℕ) (places : List Place) → places ≡ [] → Scanned bytes from bytes 1 places
scanned_none bytes from places none =
    subst (λ (ps : List Place). Scanned bytes from bytes 1 ps) (sym none) (record { front = ([], refl); read = λ text at. read_none (lines_of bytes); within = tt })

-- the rest is no longer than the part
pub rest_within : (bytes : List ℕ) (from : ℕ) (rest : List ℕ) (number : ℕ) (places : List Place) → Scanned bytes from rest number places → length rest ≤ length bytes
rest_within bytes from rest number places s = omega (arith, ap length s.front.1, length-append s.front.0 rest)

say_none : (line : List ℕ) → line ≡ [] → SayAll (line ∷ []) []
say_none line empty = subst (λ (l : List ℕ). SayAll (l ∷ []) []) (sym empty) tt

pub scanned_empty : (bytes : List ℕ) (from : ℕ) (rest line behind : List ℕ) (number : ℕ) (places : List Place)
    → Scanned bytes from rest number places → BeginsSo rest line behind → line ≡ [] → Scanned bytes from behind (number + 1) places
scanned_empty bytes from rest line behind number places s begins empty = record {
  front = follows bytes s.front.0 rest line behind s.front.1 begins;
  read = λ text at.
      let commands : List Command = map (command_in text) places in
      subst (λ (cs : List Command). IsRead (lines_of bytes) (lines_of behind) (number + 1) cs) (append-nil commands)
      (read_line (lines_of bytes) (lines_of rest) (lines_of behind) line number commands [] (s.read text at) begins.lines (say_none line empty));
  within = s.within;
}

say_one : (line : List ℕ) (c : Command) → Says line c → SayAll (line ∷ []) (c ∷ [])
say_one line c says = say-cons line [] c [] (omega (arith, ap length says.spelt, spelling_some c says.admitted)) says tt

push_within : (count : ℕ) (places : List Place) (p : Place) → AreWithin count places → end_of p ≤ count → AreWithin count (places ++ p ∷ [])
push_within count [] p all one = (one, tt)
push_within count (q ∷ places) p all one = (all.0, push_within count places p all.1 one)

pub scanned_command : (bytes : List ℕ) (from : ℕ) (rest line behind : List ℕ) (number at : ℕ) (places more : List Place) (p : Place)
    → Scanned bytes from rest number places → BeginsSo rest line behind → at ≡ from + length bytes - length rest → PlacesLine line at p → more ≡ places ++ p ∷ [] → Scanned bytes from behind (number + 1) more
scanned_command bytes from rest line behind number at places more p s begins place placed pushed =
    subst (λ (ps : List Place). Scanned bytes from behind (number + 1) ps) (sym pushed)
    (record {
      front = follows bytes s.front.0 rest line behind s.front.1 begins;
      read = λ text there.
          let commands : List Command = map (command_in text) places in
          let says = placed.says text (stands text bytes from s.front.0 rest line behind at there s.front.1 begins place) in
          subst (λ (cs : List Command). IsRead (lines_of bytes) (lines_of behind) (number + 1) cs) (sym (map-append (command_in text) places (p ∷ [])))
          (read_line (lines_of bytes) (lines_of rest) (lines_of behind) line number commands (command_in text p ∷ []) (s.read text there) begins.lines (say_one line (command_in text p) says));
      within = push_within (from + length bytes) places p s.within (omega (arith, placed.ends, line_within bytes from s.front.0 rest line behind at s.front.1 begins place));
    })

-- ---- where the scan ends

pub scanned_all : (bytes : List ℕ) (from : ℕ) (rest : List ℕ) (number count : ℕ) (places : List Place)
    → Scanned bytes from rest number places → number ≡ count + 1 → count ≤ 65536 → rest ≡ [] → PlacesLines bytes from places count
scanned_all bytes from rest number count places s counted few none =
    let far = s.read (somewhere from bytes) (stands_somewhere from bytes) in
    let all : lines_of bytes ≡ far.before = read_lines (lines_of bytes) (lines_of rest) number _ far (ap lines_of none) in
    record {
      ends = s.within;
      counted = omega (arith, far.counted, ap length all, counted);
      few = few;
      say = λ text there. (read_all (lines_of bytes) (lines_of rest) number (map (command_in text) places) (s.read text there) (omega (arith, counted, few)) (ap lines_of none)).say;
    }

pub scanned_bad : (bytes : List ℕ) (from : ℕ) (rest line behind : List ℕ) (number : ℕ) (places : List Place)
    → Scanned bytes from rest number places → BeginsSo rest line behind → number ≤ 65536 → ¬ (IsGood line) → IsBadLine (lines_of bytes) number
scanned_bad bytes from rest line behind number places s begins within bad =
    bad_line (lines_of bytes) (lines_of rest) (lines_of behind) line number _ (s.read (somewhere from bytes) (stands_somewhere from bytes)) begins.lines within bad

some_lines : (rest : List ℕ) → 0 < length rest → 0 < length (lines_of rest)
some_lines [] some = absurd (omega arith)
some_lines (byte ∷ rest) some = lines_of-some byte rest

pub scanned_more : (bytes : List ℕ) (from : ℕ) (rest : List ℕ) (number : ℕ) (places : List Place) → Scanned bytes from rest number places → number ≡ 65537 → 0 < length rest → IsTooMany (lines_of bytes)
scanned_more bytes from rest number places s last some =
    let far = s.read (somewhere from bytes) (stands_somewhere from bytes) in
    let commands : List Command = map (command_in (somewhere from bytes)) places in
    too_many (lines_of bytes) (lines_of rest) commands (subst (λ n. IsRead (lines_of bytes) (lines_of rest) n commands) last far) (some_lines rest some)

pub empty_rest : (rest : List ℕ) → length rest ≡ 0 → rest ≡ []
empty_rest [] none = refl
empty_rest (byte ∷ rest) none = absurd (omega (arith, none))

-- ---- a part that is the whole text

stands_whole : (text : List ℕ) → StandsAt text 0 text
stands_whole text = record { before = []; behind = []; is = sym (append-nil text); from_is = refl }

pub whole_file : (text : List ℕ) (places : List Place) (count : ℕ) → PlacesLines text 0 places count → IsFile (lines_of text) (map (command_in text) places)
whole_file text places count p = record { few = omega (arith, p.counted, p.few); say = p.say text (stands_whole text) }

pub whole_within : (text : List ℕ) (places : List Place) (count : ℕ) → PlacesLines text 0 places count → AreWithin (length text) places
whole_within text places count p =
    let all : 0 + length text ≡ length text = omega arith in
    subst (λ n. AreWithin n places) all p.ends

pub whole_few : (text : List ℕ) (places : List Place) (count : ℕ) → PlacesLines text 0 places count → length places ≤ 65536
whole_few text places count p = omega (arith, few_from_say (lines_of text) _ (p.say text (stands_whole text)), length-map places (command_in text), p.counted, p.few)
