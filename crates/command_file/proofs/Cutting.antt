-- How a text is cut into lines.
use Rattle.std.proofs.Common.{◌≡◌, ℕ, ◌+◌, ◌-◌, ◌<◌, ◌≤◌, List, [], ◌∷◌, ◌++◌, length, take, drop, suc, get_or, sym, ap, ◌∙◌, arith, add-one, append_assoc, append-nil, drop-cons, take-append-drop, length-append, replicate}
use Rattle.std.proofs.lemmas.List.{length-replicate}
use Rattle.command_file.specs.Lines.{lines_of}
use Rattle.command_file.specs.Reading.{HasNoFeed}
use Rattle.command_file.specs.Places.{StandsAt}
use Rattle.command_file.specs.Scripts.{BeginsSo}
use Rattle.command_file.proofs.Lines.{lines_of-feed, lines_of-last}

-- the bytes before the first LF, and those behind it
pub cut_at : (bytes behind : List ℕ) (at : ℕ) → at < length bytes → HasNoFeed (take at bytes) → get_or bytes at 0 ≡ 10 → behind ≡ drop (at + 1) bytes → BeginsSo bytes (take at bytes) behind
cut_at bytes behind at inside free feed rest =
    let split : bytes ≡ take at bytes ++ 10 ∷ behind =
    sym (take-append-drop at bytes)
    ∙ ap (λ l. take at bytes ++ l) (rw (add-one, drop-cons bytes at 0) (ap (λ b. b ∷ drop (suc at) bytes) feed) ∙ ap (λ l. 10 ∷ l) (sym rest)) in
    record { feed = 10 ∷ []; is = split; lines = ap lines_of split ∙ lines_of-feed (take at bytes) behind free }

-- bytes without an LF are one line
pub cut_last : (bytes behind : List ℕ) → 0 < length bytes → HasNoFeed bytes → behind ≡ [] → BeginsSo bytes bytes behind
cut_last [] behind some free none = absurd (omega arith)
cut_last (byte ∷ bytes) behind some free none = record {
  feed = [];
  is = sym (append-nil (byte ∷ bytes)) ∙ ap (λ (l : List ℕ). (byte ∷ bytes) ++ l) (sym none);
  lines = lines_of-last byte bytes free ∙ ap (λ (l : List ℕ). (byte ∷ bytes) ∷ lines_of l) (sym none);
}

-- what stands within bytes that stand in a text
pub stands_within : (text : List ℕ) (from : ℕ) (bytes before line behind : List ℕ) (at : ℕ)
    → StandsAt text from bytes → bytes ≡ before ++ (line ++ behind) → at ≡ from + length before → StandsAt text at line
stands_within text from bytes before line behind at there is place = record {
  before = there.before ++ before;
  behind = behind ++ there.behind;
  is =
      there.is
      ∙ ap (λ (b : List ℕ). there.before ++ (b ++ there.behind)) is
      ∙ ap (λ (b : List ℕ). there.before ++ b) (append_assoc before (line ++ behind) there.behind ∙ ap (λ (b : List ℕ). before ++ b) (append_assoc line behind there.behind))
      ∙ sym (append_assoc there.before before (line ++ (behind ++ there.behind)));
  from_is = omega (arith, length-append there.before before, there.from_is, place);
}

-- the line stands where the bytes before it end
pub stands : (text bytes : List ℕ) (from : ℕ) (before rest line behind : List ℕ) (at : ℕ)
    → StandsAt text from bytes → bytes ≡ before ++ rest → BeginsSo rest line behind → at ≡ from + length bytes - length rest → StandsAt text at line
stands text bytes from before rest line behind at there is begins place =
    stands_within text from bytes before line (begins.feed ++ behind) at there
    (is ∙ ap (λ (b : List ℕ). before ++ b) begins.is)
    (omega (arith, ap length is, length-append before rest, place))

-- a text in which the bytes stand from this place on
abbrev pub somewhere : ℕ → List ℕ → List ℕ
somewhere from bytes = replicate from 0 ++ bytes

pub stands_somewhere : (from : ℕ) (bytes : List ℕ) → StandsAt (somewhere from bytes) from bytes
stands_somewhere from bytes = record {
  before = replicate from 0;
  behind = [];
  is = ap (λ (b : List ℕ). replicate from 0 ++ b) (sym (append-nil bytes));
  from_is = length-replicate from 0;
}

-- and the bytes behind it follow
pub follows : (text before rest line behind : List ℕ) → text ≡ before ++ rest → BeginsSo rest line behind → (front : List ℕ) × (text ≡ front ++ behind)
follows text before rest line behind is begins = (
  before ++ (line ++ begins.feed),
  is
      ∙ ap (λ (b : List ℕ). before ++ b) (begins.is ∙ sym (append_assoc line begins.feed behind))
      ∙ sym (append_assoc before (line ++ begins.feed) behind),
)

-- so it ends within them
pub line_within : (bytes : List ℕ) (from : ℕ) (before rest line behind : List ℕ) (at : ℕ)
    → bytes ≡ before ++ rest → BeginsSo rest line behind → at ≡ from + length bytes - length rest → at + length line ≤ from + length bytes
line_within bytes from before rest line behind at is begins place =
    omega (arith, ap length is, length-append before rest, ap length begins.is, length-append line (begins.feed ++ behind), place)
