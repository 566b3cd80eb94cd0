-- Whole lines at the front of bytes, and of a window of them.
use Rattle.std.proofs.Common.{◌≡◌, ℕ, ◌+◌, ◌<◌, ◌≤◌, Bool, true, false, cond, eqb, List, [], ◌∷◌, ◌++◌, length, take, drop, get_or, take-append-drop, length-drop, refl, sym, ap, subst, ◌∙◌, arith, length-append}
use Rattle.std.specs.Prelude.{count_by}
use Rattle.std.specs.List.{AllByRecursion, onto_first}
use Rattle.std.proofs.lemmas.Bool.{eqb-true}
use Rattle.std.proofs.lemmas.List.{take-append-le, length-take-le, take_more}
use Rattle.std.proofs.lemmas.List.Sums.{sum_by-cons}
use Rattle.std.proofs.Math.Seq.{take-append-add}
use Rattle.command_file.specs.Lines.{lines_of}
use Rattle.command_file.specs.Reading.{HasNoFeed, IsShort, spelled, AreWhole}
use Rattle.command_file.proofs.Lines.{lines_of-some}
use Rattle.command_file.proofs.Texts.{free_lines, spelled_append, all_append}

-- ---- whole lines behind whole lines

-- whole lines among bytes, up to this place
pub record Whole (bytes : List ℕ) (end count : ℕ) : Type 0 where
  pub whole : AreWhole (take end bytes) count
  pub within : end ≤ length bytes

no_lines : AreWhole [] 0
no_lines = record { lines = []; free = tt; short = tt; is = refl; counted = refl }

pub whole_none : (bytes : List ℕ) → Whole bytes 0 0
whole_none bytes = record { whole = no_lines; within = omega arith }

whole_append : (front behind : List ℕ) (count more : ℕ) → AreWhole front count → AreWhole behind more → AreWhole (front ++ behind) (count + more)
whole_append front behind count more w v = record {
  lines = w.lines ++ v.lines;
  free = all_append HasNoFeed w.lines v.lines w.free v.free;
  short = all_append IsShort w.lines v.lines w.short v.short;
  is = ap (λ (l : List ℕ). l ++ behind) w.is ∙ ap (λ (l : List ℕ). spelled w.lines ++ l) v.is ∙ sym (spelled_append w.lines v.lines);
  counted = omega (arith, w.counted, v.counted, length-append w.lines v.lines);
}

split : (bytes : List ℕ) (end more : ℕ) → end ≤ length bytes → take (end + more) bytes ≡ take end bytes ++ take more (drop end bytes)
split bytes end more within =
    ap (take (end + more)) (sym (take-append-drop end bytes))
    ∙ subst (λ n. take (n + more) (take end bytes ++ drop end bytes) ≡ take end bytes ++ take more (drop end bytes)) (length-take-le end bytes within) (take-append-add (take end bytes) (drop end bytes) more)

pub whole_more : (bytes : List ℕ) (end count more lines : ℕ) → Whole bytes end count → AreWhole (take more (drop end bytes)) lines → more ≤ length (drop end bytes) → Whole bytes (end + more) (count + lines)
whole_more bytes end count more lines w v inside = record {
  whole = subst (λ (l : List ℕ). AreWhole l (count + lines)) (sym (split bytes end more w.within)) (whole_append (take end bytes) (take more (drop end bytes)) count lines w.whole v);
  within = omega (arith, inside, w.within, length-drop end bytes);
}

-- one more, which ends at the first LF behind it
pub whole_next : (bytes : List ℕ) (end count at : ℕ) → Whole bytes end count → at < length (drop end bytes) → get_or (drop end bytes) at 0 ≡ 10 → HasNoFeed (take at (drop end bytes)) → at ≤ 1024 → Whole bytes (end + (at + 1)) (count + 1)
whole_next bytes end count at w inside feed free short =
    let rest = drop end bytes in
    let one : AreWhole (take (at + 1) rest) 1 = record {
      lines = take at rest ∷ [];
      free = (free, tt);
      short = (omega (arith, length-take-le at rest (omega (arith, inside)), short), tt);
      is = take_more rest at 0 inside ∙ ap (λ b. take at rest ++ b ∷ []) feed;
      counted = refl;
    } in
    whole_more bytes end count (at + 1) 1 w one (omega (arith, inside))

-- ---- bytes that end in an LF

-- how many LFs the bytes have
abbrev pub feeds : List ℕ → ℕ
feeds bytes = count_by (λ b. eqb b 10) bytes

some : (bytes : List ℕ) → 0 < length (lines_of (bytes ++ 10 ∷ []))
some [] = lines_of-some 10 []
some (byte ∷ bytes) = lines_of-some byte (bytes ++ 10 ∷ [])

counted : (byte : ℕ) (lines : List (List ℕ)) → 0 < length lines → (b : Bool) → length (cond b ([] ∷ lines) (onto_first byte lines)) ≡ cond b 1 0 + length lines
counted byte lines more true = omega arith
counted byte [] more false = absurd (omega arith)
counted byte (line ∷ lines) more false = omega arith

-- they are as many lines as they have LFs
feeds_counted : (bytes : List ℕ) → length (lines_of (bytes ++ 10 ∷ [])) ≡ feeds (bytes ++ 10 ∷ [])
feeds_counted [] = refl
feeds_counted (byte ∷ bytes) =
    let rest = bytes ++ 10 ∷ [] in
    counted byte (lines_of rest) (some bytes) (eqb byte 10)
    ∙ ap (λ n. cond (eqb byte 10) 1 0 + n) (feeds_counted bytes)
    ∙ sym (sum_by-cons (λ b. cond (eqb b 10) 1 0) byte rest)

spells : (byte : ℕ) (lines : List (List ℕ)) → 0 < length lines → (b : Bool) → eqb byte 10 ≡ b → spelled (cond b ([] ∷ lines) (onto_first byte lines)) ≡ byte ∷ spelled lines
spells byte lines more true is = ap (λ b. b ∷ spelled lines) (sym (eqb-true byte 10 is))
spells byte [] more false is = absurd (omega arith)
spells byte (line ∷ lines) more false is = refl

-- each with an LF behind it
feeds_spelled : (bytes : List ℕ) → spelled (lines_of (bytes ++ 10 ∷ [])) ≡ bytes ++ 10 ∷ []
feeds_spelled [] = refl
feeds_spelled (byte ∷ bytes) =
    spells byte (lines_of (bytes ++ 10 ∷ [])) (some bytes) (eqb byte 10) refl ∙ ap (λ (l : List ℕ). byte ∷ l) (feeds_spelled bytes)

-- and none is too long where all fit a window
short_within : (lines : List (List ℕ)) → length (spelled lines) ≤ 1025 → AllByRecursion IsShort lines
short_within [] few = tt
short_within (line ∷ lines) few =
    let sum = length-append line (10 ∷ spelled lines) in
    (omega (arith, few, sum), short_within lines (omega (arith, few, sum)))

ending : (bytes : List ℕ) → length (bytes ++ 10 ∷ []) ≤ 1025 → AreWhole (bytes ++ 10 ∷ []) (feeds (bytes ++ 10 ∷ []))
ending bytes few = record {
  lines = lines_of (bytes ++ 10 ∷ []);
  free = free_lines (bytes ++ 10 ∷ []);
  short = short_within (lines_of (bytes ++ 10 ∷ [])) (subst (λ (l : List ℕ). length l ≤ 1025) (sym (feeds_spelled bytes)) few);
  is = sym (feeds_spelled bytes);
  counted = feeds_counted bytes;
}

-- the bytes up to an LF of a window are whole lines
pub window : (bytes : List ℕ) (width at : ℕ) → width ≤ length bytes → width ≤ 1025 → at < length (take width bytes) → get_or (take width bytes) at 0 ≡ 10 → AreWhole (take (at + 1) bytes) (feeds (take (at + 1) (take width bytes)))
window bytes width at within narrow inside feed =
    let near = take width bytes in
    let size : length near ≡ width = length-take-le width bytes within in
    let same : take (at + 1) near ≡ take (at + 1) bytes =
    sym (ap (take (at + 1)) (sym (take-append-drop width bytes)) ∙ take-append-le (at + 1) near (drop width bytes) (omega (arith, inside))) in
    let ends : take (at + 1) near ≡ take at near ++ 10 ∷ [] = take_more near at 0 inside ∙ ap (λ b. take at near ++ b ∷ []) feed in
    let front : length (take at near) ≡ at = length-take-le at near (omega (arith, inside)) in
    let whole = ending (take at near) (omega (arith, size, narrow, inside, front, length-append (take at near) (10 ∷ []))) in
    subst (λ (l : List ℕ). AreWhole l (feeds (take (at + 1) near))) same (subst (λ (l : List ℕ). AreWhole l (feeds l)) (sym ends) whole)
