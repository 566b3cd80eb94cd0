-- The lines that were taken from a reader, and what they spell.
use Rattle.std.proofs.Common.{◌≡◌, ◌≢◌, ℕ, ◌+◌, ◌≤◌, Bool, true, false, cond, eqb, List, [], ◌∷◌, ◌++◌, length, take, refl, sym, ap, subst, ◌∙◌, arith, append_assoc, append-nil, length-append}
use Rattle.std.proofs.lemmas.Bool.{eqb-false}
use mathlib.Core.List.{IsPrefix}
use Rattle.std.specs.Prelude.{Result, Option, Some, None, IfSome, ⊤, Ok, Err, IsTrue, ◌↔◌}
use Rattle.std.specs.List.{AllByRecursion, onto_first}
use Rattle.std.specs.Io.KnownBytes.{IsAtEnd}
use Rattle.std.proofs.lemmas.List.{take_at, take-append-le}
use Rattle.std.proofs.lemmas.List.Elements.{All-cons, All-nil}
use Rattle.command_file.specs.declared.fault.FileFault.{FileFault}
use Rattle.command_file.specs.declared.fault.FileFault.TheVariants.{BadLine, TooManyLines, Read, Memory}
use Rattle.command_file.specs.Lines.{lines_of}
use Rattle.command_file.specs.Reading.{HasNoFeed, TakesLine, BeginsTooLong, IsOfReading, spelled, TakesWhole}
use Rattle.command_file.specs.declared.command.Command.{Command}
use Rattle.command_file.specs.Grammar.{IsGood}
use Rattle.command_file.specs.Files.{most_lines, IsFile, IsBadLine, IsTooMany, IsFileFault}
use Rattle.command_file.proofs.Progress.{good_from_say, good_short}
use Rattle.command_file.specs.Texts.{EndsSo}
use Rattle.command_file.proofs.Lines.{lines_of-feed, lines_of-some}

-- ---- no line has an LF

free_onto : (byte : ℕ) (lines : List (List ℕ)) → byte ≢ 10 → AllByRecursion HasNoFeed lines → AllByRecursion HasNoFeed (onto_first byte lines)
free_onto byte [] other free = (All-cons (λ b. b ≢ 10) byte [] other (All-nil (λ b. b ≢ 10)), tt)
free_onto byte (line ∷ lines) other free = (All-cons (λ b. b ≢ 10) byte line other free.0, free.1)

free_first : (byte : ℕ) (lines : List (List ℕ)) → AllByRecursion HasNoFeed lines → (b : Bool) → eqb byte 10 ≡ b → AllByRecursion HasNoFeed (cond b ([] ∷ lines) (onto_first byte lines))
free_first byte lines free true is = (All-nil (λ b. b ≢ 10), free)
free_first byte lines free false is = free_onto byte lines (eqb-false byte 10 is) free

pub free_lines : (bytes : List ℕ) → AllByRecursion HasNoFeed (lines_of bytes)
free_lines [] = tt
free_lines (byte ∷ bytes) = free_first byte (lines_of bytes) (free_lines bytes) (eqb byte 10) refl

-- ---- lines with an LF behind each

pub spelled_more : (lines : List (List ℕ)) (line : List ℕ) → spelled (lines ++ line ∷ []) ≡ spelled lines ++ (line ++ 10 ∷ [])
spelled_more [] line = refl
spelled_more (first ∷ lines) line =
    ap (λ (l : List ℕ). first ++ 10 ∷ l) (spelled_more lines line) ∙ sym (append_assoc first (10 ∷ spelled lines) (line ++ 10 ∷ []))

pub lines_spelled : (lines : List (List ℕ)) → AllByRecursion HasNoFeed lines → lines_of (spelled lines) ≡ lines
lines_spelled [] free = refl
lines_spelled (line ∷ lines) free = lines_of-feed line (spelled lines) free.0 ∙ ap (λ (l : List (List ℕ)). line ∷ l) (lines_spelled lines free.1)

-- ---- the lines taken so far

pub record IsTaken (lines rest : List (List ℕ)) (number : ℕ) (text : List ℕ) : Type 0 where
  pub before : List (List ℕ)
  pub is : lines ≡ before ++ rest
  pub counted : length before + 1 ≡ number
  pub text_is : text ≡ spelled before
  pub free : AllByRecursion HasNoFeed before

abbrev pub Taken : Option (List ℕ) → Option (List ℕ) → ℕ → List ℕ → Type 0
Taken None rest number text = ⊤
Taken (Some bytes) None number text = ⊥
Taken (Some bytes) (Some rest) number text = IsTaken (lines_of bytes) (lines_of rest) number text

pub taken_none : (a : Option (List ℕ)) (text : List ℕ) → text ≡ [] → Taken a a 1 text
taken_none None text none = tt
taken_none (Some bytes) text none = record { before = []; is = refl; counted = refl; text_is = none; free = tt }

free_push : (lines : List (List ℕ)) (line : List ℕ) → AllByRecursion HasNoFeed lines → HasNoFeed line → AllByRecursion HasNoFeed (lines ++ line ∷ [])
free_push [] line free new = (new, tt)
free_push (first ∷ lines) line free new = (free.0, free_push lines line free.1 new)

pub taken_line : (a b c : Option (List ℕ)) (number : ℕ) (text line more : List ℕ) → Taken a b number text → TakesLine b c line → more ≡ text ++ (line ++ 10 ∷ []) → Taken a c (number + 1) more
taken_line None b c number text line more far takes is = tt
taken_line (Some bytes) None c number text line more far takes is = absurd far
taken_line (Some bytes) (Some now) None number text line more far takes is = absurd takes
taken_line (Some bytes) (Some now) (Some rest) number text line more far takes is =
    let free : HasNoFeed line = (subst (AllByRecursion HasNoFeed) takes (free_lines now)).0 in
    record {
      before = far.before ++ line ∷ [];
      is = far.is ∙ ap (λ l. far.before ++ l) takes ∙ sym (append_assoc far.before (line ∷ []) (lines_of rest));
      counted = omega (arith, far.counted, length-append far.before (line ∷ []));
      text_is = is ∙ ap (λ (t : List ℕ). t ++ (line ++ 10 ∷ [])) far.text_is ∙ sym (spelled_more far.before line);
      free = free_push far.before line far.free free;
    }

-- ---- many lines at once

pub spelled_append : (lines more : List (List ℕ)) → spelled (lines ++ more) ≡ spelled lines ++ spelled more
spelled_append [] more = refl
spelled_append (line ∷ lines) more =
    ap (λ (l : List ℕ). line ++ 10 ∷ l) (spelled_append lines more) ∙ sym (append_assoc line (10 ∷ spelled lines) (spelled more))

pub all_append : (P : List ℕ → Type 0) (lines more : List (List ℕ)) → AllByRecursion P lines → AllByRecursion P more → AllByRecursion P (lines ++ more)
all_append P [] more all new = new
all_append P (line ∷ lines) more all new = (all.0, all_append P lines more all.1 new)

-- whole lines at the front of bytes are the first of their lines
lines_of-whole : (lines : List (List ℕ)) (rest : List ℕ) → AllByRecursion HasNoFeed lines → lines_of (spelled lines ++ rest) ≡ lines ++ lines_of rest
lines_of-whole [] rest free = refl
lines_of-whole (line ∷ lines) rest free =
    ap lines_of (append_assoc line (10 ∷ spelled lines) rest)
    ∙ lines_of-feed line (spelled lines ++ rest) free.0
    ∙ ap (λ (l : List (List ℕ)). line ∷ l) (lines_of-whole lines rest free.1)

pub taken_whole : (a b c : Option (List ℕ)) (number next count : ℕ) (text more : List ℕ) → Taken a b number text → TakesWhole b c text more count → next ≡ number + count → Taken a c next more
taken_whole None b c number next count text more far takes sum = tt
taken_whole (Some bytes) None c number next count text more far takes sum = absurd far
taken_whole (Some bytes) (Some now) None number next count text more far takes sum = absurd takes.took
taken_whole (Some bytes) (Some now) (Some rest) number next count text more far takes sum =
    let w = takes.whole in
    let first : lines_of now ≡ w.lines ++ lines_of rest = ap lines_of (takes.took ∙ ap (λ (l : List ℕ). l ++ rest) w.is) ∙ lines_of-whole w.lines rest w.free in
    record {
      before = far.before ++ w.lines;
      is = far.is ∙ ap (λ l. far.before ++ l) first ∙ sym (append_assoc far.before w.lines (lines_of rest));
      counted = omega (arith, far.counted, w.counted, length-append far.before w.lines, sum);
      text_is = takes.put ∙ ap (λ (l : List ℕ). text ++ l) w.is ∙ ap (λ (t : List ℕ). t ++ spelled w.lines) far.text_is ∙ sym (spelled_append far.before w.lines);
      free = all_append HasNoFeed far.before w.lines far.free w.free;
    }

-- ---- where the taking ends

text_lines : (before : List (List ℕ)) (text : List ℕ) → text ≡ spelled before → AllByRecursion HasNoFeed before → lines_of text ≡ before
text_lines before text is free = ap lines_of is ∙ lines_spelled before free

pub taken_all : (a b : Option (List ℕ)) (number : ℕ) (text : List ℕ) → Taken a b number text → number ≤ 65537 → IsAtEnd b → IfSome a (λ bytes. EndsSo (lines_of bytes) (lines_of text) (Ok tt))
taken_all None b number text far few end = tt
taken_all (Some bytes) None number text far few end = absurd far
taken_all (Some bytes) (Some rest) number text far few end =
    let all : lines_of bytes ≡ far.before = far.is ∙ ap (λ l. far.before ++ lines_of l) end ∙ append-nil far.before in
    let lines = text_lines far.before text far.text_is far.free in
    (all ∙ sym lines, omega (arith, far.counted, ap length lines))

pub taken_to_long : (a b : Option (List ℕ)) (number : ℕ) (text : List ℕ) → Taken a b number text → IfSome b BeginsTooLong → number ≤ 65536 → IfSome a (λ bytes. EndsSo (lines_of bytes) (lines_of text) (Err (BadLine number)))
taken_to_long None b number text far long within = tt
taken_to_long (Some bytes) None number text far long within = absurd far
taken_to_long (Some bytes) (Some now) number text far long within =
    let lines = text_lines far.before text far.text_is far.free in
    record {
      line = long.line;
      rest = long.rest;
      is = far.is ∙ ap (λ l. far.before ++ l) long.is ∙ ap (λ (l : List (List ℕ)). l ++ long.line ∷ long.rest) (sym lines);
      long = long.long;
      counted = omega (arith, far.counted, ap length lines);
      within = within;
    }

pub taken_most : (a b : Option (List ℕ)) (text : List ℕ) → Taken a b 65537 text → IfSome b (λ rest. ¬ (rest ≡ [])) → IfSome a (λ bytes. EndsSo (lines_of bytes) (lines_of text) (Err TooManyLines))
taken_most None b text far left = tt
taken_most (Some bytes) None text far left = absurd far
taken_most (Some bytes) (Some []) text far left = absurd (left refl)
taken_most (Some bytes) (Some (byte ∷ rest)) text far left =
    let lines = text_lines far.before text far.text_is far.free in
    record {
      rest = lines_of (byte ∷ rest);
      is = far.is ∙ ap (λ (l : List (List ℕ)). l ++ lines_of (byte ∷ rest)) (sym lines);
      more = lines_of-some byte rest;
      most = omega (arith, far.counted, ap length lines);
    }

pub taken_and_failed : (a b : Option (List ℕ)) (number : ℕ) (text : List ℕ) → Taken a b number text → IfSome a (λ bytes. EndsSo (lines_of bytes) (lines_of text) (Err Read))
taken_and_failed None b number text far = tt
taken_and_failed (Some bytes) None number text far = absurd far
taken_and_failed (Some bytes) (Some rest) number text far =
    let lines = text_lines far.before text far.text_is far.free in
    (lines_of rest, ap (λ (l : List (List ℕ)). l ++ lines_of rest) lines ∙ sym far.is)

-- the reader's fault, or want of memory
pub taken_stops : (a b : Option (List ℕ)) (number : ℕ) (text : List ℕ) (fault : FileFault) → Taken a b number text → IsOfReading fault → IfSome a (λ bytes. EndsSo (lines_of bytes) (lines_of text) (Err fault))
taken_stops None b number text fault far of = tt
taken_stops (Some bytes) b number text Read far of = taken_and_failed (Some bytes) b number text far
taken_stops (Some bytes) b number text Memory far of = taken_and_failed (Some bytes) b number text far
taken_stops (Some bytes) b number text (BadLine line) far of = absurd of
taken_stops (Some bytes) b number text TooManyLines far of = absurd of

pub none_left : (b : Option (List ℕ)) (end : Bool) → IfSome b (λ bytes. IsTrue end ↔ (bytes ≡ [])) → end ≡ true → IsAtEnd b
none_left None end value is = tt
none_left (Some bytes) end value is = value.0 is

-- ---- what the lines that were read say of all

ends_so_far : (all lines : List (List ℕ)) (end : Result (Unit {0}) FileFault) → EndsSo all lines end → IsPrefix lines all
ends_so_far all lines (Ok done) h = ([], append-nil lines ∙ sym h.0)
ends_so_far all lines (Err (BadLine number)) h = (h.line ∷ h.rest, sym h.is)
ends_so_far all lines (Err TooManyLines) h = (h.rest, sym h.is)
ends_so_far all lines (Err Read) h = h
ends_so_far all lines (Err Memory) h = h

-- the first bad line is that of all, too
bad_of_more : (all lines : List (List ℕ)) (number : ℕ) → IsPrefix lines all → IsBadLine lines number → IsBadLine all number
bad_of_more all lines number pre bad = record {
  before = bad.before;
  line = bad.line;
  behind = bad.behind ++ pre.0;
  is = sym pre.1 ∙ (ap (λ (l : List (List ℕ)). l ++ pre.0) bad.is ∙ append_assoc bad.before (bad.line ∷ bad.behind) pre.0);
  good = bad.good;
  bad = bad.bad;
  counted = bad.counted;
  within = bad.within;
}

too_many_of_more : (all lines : List (List ℕ)) (end : Result (Unit {0}) FileFault) → EndsSo all lines end → IsTooMany lines → IsTooMany all
too_many_of_more all lines end h many =
    let pre = ends_so_far all lines end h in
    record {
      more = omega (arith, many.more, ap length pre.1, length-append lines pre.0);
      good = subst (λ (l : List (List ℕ)). AllByRecursion IsGood l) (sym (ap (take most_lines) (sym pre.1) ∙ take-append-le most_lines lines pre.0 (omega (arith, many.more)))) many.good;
    }

pub fault_of_more : (all lines : List (List ℕ)) (end : Result (Unit {0}) FileFault) (fault : FileFault) → EndsSo all lines end → IsFileFault lines fault → IsFileFault all fault
fault_of_more all lines end (BadLine number) h bad = bad_of_more all lines number (ends_so_far all lines end h) bad
fault_of_more all lines end TooManyLines h many = too_many_of_more all lines end h many
fault_of_more all lines end Read h of = tt
fault_of_more all lines end Memory h of = tt

pub file_of_all : (all lines : List (List ℕ)) (commands : List Command) → EndsSo all lines (Ok tt) → IsFile lines commands → IsFile all commands
file_of_all all lines commands h file = subst (λ (l : List (List ℕ)). IsFile l commands) (sym h.0) file

-- where all lines that were read are good, the end's fault is the file's
pub fault_at_end : (all lines : List (List ℕ)) (commands : List Command) (fault : FileFault) → EndsSo all lines (Err fault) → IsFile lines commands → IsFileFault all fault
fault_at_end all lines commands (BadLine number) h file = record {
  before = lines;
  line = h.line;
  behind = h.rest;
  is = h.is;
  good = good_from_say lines commands file.say;
  bad = λ good. omega (arith, good_short h.line good, h.long);
  counted = h.counted;
  within = h.within;
}
fault_at_end all lines commands TooManyLines h file = record {
  more = omega (arith, h.most, h.more, ap length h.is, length-append lines h.rest);
  good = subst (λ (l : List (List ℕ)). AllByRecursion IsGood l) (sym (ap (take most_lines) h.is ∙ take_at lines h.rest most_lines h.most)) (good_from_say lines commands file.say);
}
fault_at_end all lines commands Read h file = tt
fault_at_end all lines commands Memory h file = tt

-- what the lines that were read say of a reader's bytes, where these are known
pub known : (P : List (List ℕ) → Type 0) (k : Option (List ℕ)) (lines : List (List ℕ)) (end : Result (Unit {0}) FileFault) → IfSome k (λ bytes. EndsSo (lines_of bytes) lines end) → ((all : List (List ℕ)) → EndsSo all lines end → P all) → IfSome k (λ bytes. P (lines_of bytes))
known P None lines end ends says = tt
known P (Some bytes) lines end ends says = says (lines_of bytes) ends
