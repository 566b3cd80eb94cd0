-- How far a file was read, and what follows where the reading ends.
use Rattle.std.proofs.Common.{◌≡◌, ℕ, ◌+◌, ◌<◌, ◌≤◌, List, [], ◌∷◌, ◌++◌, length, take, All, None, Some, IfSome, refl, sym, ap, subst, ◌∙◌, arith, inl, inr, append_assoc, append-nil, length-append, true≢false}
use Rattle.std.specs.Prelude.{Option, Bool, IsTrue, false, ◌↔◌}
use Rattle.std.specs.List.{AllByRecursion}
use Rattle.std.proofs.lemmas.List.{take_at}
use Rattle.std.proofs.lemmas.List.Elements.{All-cons, All-nil}
use Rattle.command_file.specs.declared.command.Command.{Command}
use Rattle.command_file.specs.Grammar.{IsCommand, IsGood}
use Rattle.command_file.specs.Files.{most_lines, SayAll, IsFile, IsBadLine, IsTooMany}

-- ---- lines and what they say

pub say-append : (lines more : List (List ℕ)) (commands others : List Command) → SayAll lines commands → SayAll more others → SayAll (lines ++ more) (commands ++ others)
say-append [] more [] others say says = says
say-append [] more (command ∷ commands) others say says = absurd say
say-append ([] ∷ lines) more commands others say says = say-append lines more commands others say says
say-append ((byte ∷ bytes) ∷ lines) more [] others say says = absurd say
say-append ((byte ∷ bytes) ∷ lines) more (command ∷ commands) others say says = (say.0, say-append lines more commands others say.1 says)

pub good_from_say : (lines : List (List ℕ)) (commands : List Command) → SayAll lines commands → AllByRecursion IsGood lines
good_from_say [] commands say = tt
good_from_say ([] ∷ lines) commands say = (inl refl, good_from_say lines commands say)
good_from_say ((byte ∷ bytes) ∷ lines) [] say = absurd say
good_from_say ((byte ∷ bytes) ∷ lines) (command ∷ commands) say = (inr (command, say.0), good_from_say lines commands say.1)

-- commands that lines say are commands
pub commands_from_say : (lines : List (List ℕ)) (commands : List Command) → SayAll lines commands → All IsCommand commands
commands_from_say [] [] say = All-nil IsCommand
commands_from_say [] (command ∷ commands) say = absurd say
commands_from_say ([] ∷ lines) commands say = commands_from_say lines commands say
commands_from_say ((byte ∷ bytes) ∷ lines) [] say = absurd say
commands_from_say ((byte ∷ bytes) ∷ lines) (command ∷ commands) say = All-cons IsCommand command commands say.0.admitted (commands_from_say lines commands say.1)

-- a line says one command at most
pub few_from_say : (lines : List (List ℕ)) (commands : List Command) → SayAll lines commands → length commands ≤ length lines
few_from_say [] [] say = omega arith
few_from_say [] (command ∷ commands) say = absurd say
few_from_say ([] ∷ lines) commands say = omega (arith, few_from_say lines commands say)
few_from_say ((byte ∷ bytes) ∷ lines) [] say = absurd say
few_from_say ((byte ∷ bytes) ∷ lines) (command ∷ commands) say = omega (arith, few_from_say lines commands say.1)

pub file_commands : (lines : List (List ℕ)) (commands : List Command) → IsFile lines commands → All IsCommand commands
file_commands lines commands file = commands_from_say lines commands file.say

pub good_short : (line : List ℕ) → IsGood line → length line ≤ 1024
good_short line (inl none) = omega (arith, ap length none)
good_short line (inr said) = subst (λ l. length l ≤ 1024) (sym said.1.spelt) said.1.admitted.short

-- ---- the lines read so far

-- the line with this number, counted from 1, is the first of the rest, and those before it say the commands
pub record IsRead (lines rest : List (List ℕ)) (number : ℕ) (commands : List Command) : Type 0 where
  pub before : List (List ℕ)
  pub is : lines ≡ before ++ rest
  pub counted : length before + 1 ≡ number
  pub say : SayAll before commands

pub read_none : (lines : List (List ℕ)) → IsRead lines lines 1 []
read_none lines = record { before = []; is = refl; counted = refl; say = tt }

pub read_line : (lines rest others : List (List ℕ)) (line : List ℕ) (number : ℕ) (commands more : List Command)
    → IsRead lines rest number commands → rest ≡ line ∷ others → SayAll (line ∷ []) more → IsRead lines others (number + 1) (commands ++ more)
read_line lines rest others line number commands more far first says = record {
  before = far.before ++ line ∷ [];
  is = far.is ∙ ap (λ l. far.before ++ l) first ∙ sym (append_assoc far.before (line ∷ []) others);
  counted = omega (arith, far.counted, length-append far.before (line ∷ []));
  say = say-append far.before (line ∷ []) commands more far.say says;
}

-- ---- the ends

pub read_lines : (lines rest : List (List ℕ)) (number : ℕ) (commands : List Command) (far : IsRead lines rest number commands) → rest ≡ [] → lines ≡ far.before
read_lines lines rest number commands far none = far.is ∙ ap (λ l. far.before ++ l) none ∙ append-nil far.before

pub read_all : (lines rest : List (List ℕ)) (number : ℕ) (commands : List Command) → IsRead lines rest number commands → number ≤ 65537 → rest ≡ [] → IsFile lines commands
read_all lines rest number commands far within none =
    let all = read_lines lines rest number commands far none in
    record { few = omega (arith, far.counted, ap length all); say = subst (λ l. SayAll l commands) (sym all) far.say }

pub bad_line : (lines rest others : List (List ℕ)) (line : List ℕ) (number : ℕ) (commands : List Command)
    → IsRead lines rest number commands → rest ≡ line ∷ others → number ≤ 65536 → ¬ (IsGood line) → IsBadLine lines number
bad_line lines rest others line number commands far first within bad = record {
  before = far.before;
  line = line;
  behind = others;
  is = far.is ∙ ap (λ l. far.before ++ l) first;
  good = good_from_say far.before commands far.say;
  bad = bad;
  counted = sym far.counted;
  within = within;
}

pub too_many : (lines rest : List (List ℕ)) (commands : List Command) → IsRead lines rest 65537 commands → 0 < length rest → IsTooMany lines
too_many lines rest commands far some =
    let counted : length far.before ≡ most_lines = omega (arith, far.counted) in
    let front : take most_lines lines ≡ far.before = ap (take most_lines) far.is ∙ take_at far.before rest most_lines counted in
    record {
      more = omega (arith, ap length far.is, length-append far.before rest, some);
      good = subst (AllByRecursion IsGood) (sym front) (good_from_say far.before commands far.say);
    }

-- a reader that is not at its end has a byte
pub more_left : (b : Option (List ℕ)) (end : Bool) → IfSome b (λ rest. IsTrue end ↔ (rest ≡ [])) → end ≡ false → IfSome b (λ rest. ¬ (rest ≡ []))
more_left None end says isnt = tt
more_left (Some rest) end says isnt = λ none. true≢false (sym (says.1 none) ∙ isnt)
