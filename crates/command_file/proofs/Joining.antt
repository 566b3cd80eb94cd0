-- A text in two parts, whose second begins behind an LF.
use Rattle.std.proofs.Common.{◌≡◌, ℕ, ◌+◌, ◌<◌, ◌≤◌, Bool, true, false, cond, eqb, List, [], ◌∷◌, ◌++◌, length, map, take, drop, zero, suc, get_or, refl, sym, ap, subst, ◌∙◌, arith, append_assoc, append-nil, length-append, length-take, length-drop, take-append-drop}
use Rattle.std.proofs.lemmas.List.{map-append, take-append-le, take_more, get_or-drop}
use Rattle.std.specs.Prelude.{Err}
use Rattle.std.specs.List.{AllByRecursion, onto_first}
use Rattle.command_file.specs.declared.command.Command.{Command}
use Rattle.command_file.specs.declared.fault.FileFault.{FileFault}
use Rattle.command_file.specs.declared.fault.FileFault.TheVariants.{BadLine, TooManyLines, Read, Memory}
use Rattle.command_file.specs.declared.place.Place.{Place}
use Rattle.command_file.specs.Grammar.{IsGood}
use Rattle.command_file.specs.Lines.{lines_of}
use Rattle.command_file.specs.Files.{most_lines, SayAll, IsBadLine, IsTooMany, IsFileFault}
use Rattle.command_file.specs.Places.{command_in, AreWithin}
use Rattle.command_file.specs.Parts.{PlacesLines, AreCut}
use Rattle.command_file.proofs.Cutting.{stands_within, somewhere, stands_somewhere}
use Rattle.command_file.proofs.Lines.{lines_of-some}
use Rattle.command_file.proofs.Progress.{say-append, good_from_say}
use Rattle.command_file.proofs.Texts.{all_append, fault_of_more}

-- ---- the cut

onto_first-append : (byte : ℕ) (lines more : List (List ℕ)) → 0 < length lines → onto_first byte (lines ++ more) ≡ onto_first byte lines ++ more
onto_first-append byte [] more some = absurd (omega arith)
onto_first-append byte (line ∷ lines) more some = refl

some_with_feed : (front : List ℕ) → 0 < length (lines_of (front ++ 10 ∷ []))
some_with_feed [] = omega arith
some_with_feed (byte ∷ front) = lines_of-some byte (front ++ 10 ∷ [])

first_lines-append : (byte : ℕ) (lines more : List (List ℕ)) → 0 < length lines → (b : Bool)
    → cond b ([] ∷ (lines ++ more)) (onto_first byte (lines ++ more)) ≡ cond b ([] ∷ lines) (onto_first byte lines) ++ more
first_lines-append byte lines more some true = refl
first_lines-append byte lines more some false = onto_first-append byte lines more some

-- the lines up to an LF, and those behind it
lines_of-cut : (front rest : List ℕ) → lines_of (front ++ 10 ∷ rest) ≡ lines_of (front ++ 10 ∷ []) ++ lines_of rest
lines_of-cut [] rest = refl
lines_of-cut (byte ∷ front) rest =
    ap (λ (l : List (List ℕ)). cond (eqb byte 10) ([] ∷ l) (onto_first byte l)) (lines_of-cut front rest)
    ∙ first_lines-append byte (lines_of (front ++ 10 ∷ [])) (lines_of rest) (some_with_feed front) (eqb byte 10)

pub cut_behind_feed : (bytes front first second : List ℕ) → bytes ≡ first ++ second → first ≡ front ++ 10 ∷ [] → AreCut bytes first second
cut_behind_feed bytes front first second is feed = record {
  is = is;
  lines =
      ap lines_of (is ∙ ap (λ (l : List ℕ). l ++ second) feed ∙ append_assoc front (10 ∷ []) second)
      ∙ lines_of-cut front second
      ∙ ap (λ (l : List ℕ). lines_of l ++ lines_of second) (sym feed);
}

-- at the first LF at or behind a place
pub cut_at_feed : (bytes rest first second : List ℕ) (place at : ℕ) → rest ≡ drop place bytes → at < length rest → get_or rest at 0 ≡ 10
    → first ≡ take (place + at + 1) bytes → second ≡ drop (place + at + 1) bytes → AreCut bytes first second
cut_at_feed bytes rest first second place at rest_is inside feed front back =
    let within : place + at < length bytes = omega (arith, inside, ap length rest_is, length-drop place bytes) in
    let ten : get_or bytes (place + at) 0 ≡ 10 = sym (get_or-drop place bytes at 0) ∙ ap (λ (l : List ℕ). get_or l at 0) (sym rest_is) ∙ feed in
    cut_behind_feed bytes (take (place + at) bytes) first second
    (sym (take-append-drop (place + at + 1) bytes) ∙ ap (λ (l : List ℕ). l ++ drop (place + at + 1) bytes) (sym front) ∙ ap (λ (l : List ℕ). first ++ l) (sym back))
    (front ∙ take_more bytes (place + at) 0 within ∙ ap (λ (b : ℕ). take (place + at) bytes ++ b ∷ []) ten)

pub cut_nowhere : (bytes second : List ℕ) → second ≡ [] → AreCut bytes bytes second
cut_nowhere bytes second none = record {
  is = sym (append-nil bytes) ∙ ap (λ (l : List ℕ). bytes ++ l) (sym none);
  lines = sym (append-nil (lines_of bytes)) ∙ ap (λ (l : List ℕ). lines_of bytes ++ lines_of l) (sym none);
}

-- ---- a fault behind good lines

pub bad_behind : (before behind : List (List ℕ)) (lines number : ℕ) → length before ≡ lines → AllByRecursion IsGood before → lines + number ≤ most_lines
    → IsBadLine behind number → IsBadLine (before ++ behind) (lines + number)
bad_behind before behind lines number counted good within bad = record {
  before = before ++ bad.before;
  line = bad.line;
  behind = bad.behind;
  is = ap (λ (l : List (List ℕ)). before ++ l) bad.is ∙ sym (append_assoc before bad.before (bad.line ∷ bad.behind));
  good = all_append IsGood before bad.before good bad.good;
  bad = bad.bad;
  counted = omega (arith, counted, bad.counted, length-append before bad.before);
  within = within;
}

good_take : (count : ℕ) (lines : List (List ℕ)) → AllByRecursion IsGood lines → AllByRecursion IsGood (take count lines)
good_take zero lines good = tt
good_take (suc count) [] good = tt
good_take (suc count) (line ∷ lines) good = (good.0, good_take count lines good.1)

-- good lines, as many as a file may have, and one more
many_good : (lines front rest : List (List ℕ)) → lines ≡ front ++ rest → AllByRecursion IsGood front → most_lines ≤ length front → 0 < length rest → IsTooMany lines
many_good lines front rest is good many some = record {
  more = omega (arith, ap length is, many, some, length-append front rest);
  good = subst (λ (l : List (List ℕ)). AllByRecursion IsGood l) (sym (ap (take most_lines) is ∙ take-append-le most_lines front rest many)) (good_take most_lines front good);
}

-- a bad line whose number a file's lines don't reach
pub bad_too_late : (before behind : List (List ℕ)) (lines number : ℕ) → length before ≡ lines → AllByRecursion IsGood before → most_lines < lines + number
    → IsBadLine behind number → IsTooMany (before ++ behind)
bad_too_late before behind lines number counted good late bad =
    many_good (before ++ behind) (before ++ bad.before) (bad.line ∷ bad.behind)
    (ap (λ (l : List (List ℕ)). before ++ l) bad.is ∙ sym (append_assoc before bad.before (bad.line ∷ bad.behind)))
    (all_append IsGood before bad.before good bad.good)
    (omega (arith, counted, bad.counted, late, length-append before bad.before))
    (omega arith)

many_behind : (before behind : List (List ℕ)) → AllByRecursion IsGood before → IsTooMany behind → IsTooMany (before ++ behind)
many_behind before behind good many =
    let front = take most_lines behind in
    let rest = drop most_lines behind in
    many_good (before ++ behind) (before ++ front) rest
    (ap (λ (l : List (List ℕ)). before ++ l) (sym (take-append-drop most_lines behind)) ∙ sym (append_assoc before front rest))
    (all_append IsGood before front good many.good)
    (omega (arith, many.more, length-append before front, length-take most_lines behind))
    (omega (arith, many.more, length-drop most_lines behind))

many_of_two : (lines : List (List ℕ)) → AllByRecursion IsGood lines → most_lines < length lines → IsTooMany lines
many_of_two lines good many = record { more = many; good = good_take most_lines lines good }

-- any other fault is what it was
pub fault_behind : (before behind : List (List ℕ)) (fault : FileFault) → ((number : ℕ) → fault ≡ BadLine number → ⊥) → AllByRecursion IsGood before
    → IsFileFault behind fault → IsFileFault (before ++ behind) fault
fault_behind before behind (BadLine number) other good bad = absurd (other number refl)
fault_behind before behind TooManyLines other good bad = many_behind before behind good bad
fault_behind before behind Read other good bad = tt
fault_behind before behind Memory other good bad = tt

-- ---- two parts, one behind the other

pub all_good : (bytes : List ℕ) (from : ℕ) (places : List Place) (count : ℕ) → PlacesLines bytes from places count → AllByRecursion IsGood (lines_of bytes)
all_good bytes from places count p = good_from_say (lines_of bytes) _ (p.say (somewhere from bytes) (stands_somewhere from bytes))

within_more : (count more : ℕ) (places : List Place) → count ≤ more → AreWithin count places → AreWithin more places
within_more count more [] least all = tt
within_more count more (p ∷ places) least all = (omega (arith, all.0, least), within_more count more places least all.1)

within_append : (count : ℕ) (places more : List Place) → AreWithin count places → AreWithin count more → AreWithin count (places ++ more)
within_append count [] more all new = new
within_append count (p ∷ places) more all new = (all.0, within_append count places more all.1 new)

pub placed_together : (bytes a b : List ℕ) (from : ℕ) (places others all : List Place) (count more sum : ℕ)
    → AreCut bytes a b → PlacesLines a from places count → PlacesLines b (from + length a) others more
    → all ≡ places ++ others → sum ≡ count + more → sum ≤ most_lines → PlacesLines bytes from all sum
placed_together bytes a b from places others all count more sum cut p q joined added few =
    let long : length bytes ≡ length a + length b = ap length cut.is ∙ length-append a b in
    subst (λ (ps : List Place). PlacesLines bytes from ps sum) (sym joined)
    (record {
      ends = within_append (from + length bytes) places others
          (within_more (from + length a) (from + length bytes) places (omega (arith, long)) p.ends)
          (within_more (from + length a + length b) (from + length bytes) others (omega (arith, long)) q.ends);
      counted = omega (arith, ap length cut.lines, length-append (lines_of a) (lines_of b), p.counted, q.counted, added);
      few = few;
      say = λ text there.
          let first = p.say text (stands_within text from bytes [] a b from there cut.is (omega arith)) in
          let second = q.say text (stands_within text from bytes a b [] (from + length a) there (cut.is ∙ ap (λ (l : List ℕ). a ++ l) (sym (append-nil b))) refl) in
          subst (λ (cs : List Command). SayAll (lines_of bytes) cs) (sym (map-append (command_in text) places others))
          (subst (λ (l : List (List ℕ)). SayAll l (map (command_in text) places ++ map (command_in text) others)) (sym cut.lines)
          (say-append (lines_of a) (lines_of b) (map (command_in text) places) (map (command_in text) others) first second));
    })

pub many_together : (bytes a b : List ℕ) (from : ℕ) (places others : List Place) (count more : ℕ)
    → AreCut bytes a b → PlacesLines a from places count → PlacesLines b (from + length a) others more → most_lines < count + more → IsTooMany (lines_of bytes)
many_together bytes a b from places others count more cut p q many =
    subst IsTooMany (sym cut.lines)
    (many_of_two (lines_of a ++ lines_of b)
    (all_append IsGood (lines_of a) (lines_of b) (all_good a from places count p) (all_good b (from + length a) others more q))
    (omega (arith, many, p.counted, q.counted, length-append (lines_of a) (lines_of b))))

-- the fault of the first is that of both
pub fault_of_first : (bytes a b : List ℕ) (fault : FileFault) → AreCut bytes a b → IsFileFault (lines_of a) fault → IsFileFault (lines_of bytes) fault
fault_of_first bytes a b fault cut bad = fault_of_more (lines_of bytes) (lines_of a) (Err Read) fault (lines_of b, sym cut.lines) bad
