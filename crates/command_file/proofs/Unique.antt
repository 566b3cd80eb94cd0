-- One command of a line, one meaning and one outcome of a file.
use Rattle.std.proofs.Common.{◌≡◌, ℕ, zero, suc, ◌<◌, List, [], ◌∷◌, ◌++◌, length, take, refl, sym, ap, subst, ◌∙◌, arith}
use Rattle.std.specs.List.{AllByRecursion}
use Rattle.command_file.specs.Grammar.{IsGood}
use Rattle.command_file.specs.Files.{most_lines}
use Rattle.command_file.specs.Laws.{OneCommand, OneMeaning, OneOutcome}
use Rattle.command_file.proofs.Parsing.{reads_from_says}
use Rattle.command_file.proofs.Progress.{good_from_say}
use Rattle.command_file.proofs.Verbs.{command_of, command_of-words_of}

pub one_command_of : OneCommand
one_command_of line command other says tells =
    sym (command_of-words_of command)
    ∙ ap command_of (sym (reads_from_says line command says).same ∙ (reads_from_says line other tells).same)
    ∙ command_of-words_of other

pub one_meaning_of : OneMeaning
one_meaning_of [] [] [] say tell = refl
one_meaning_of [] [] (other ∷ others) say tell = absurd tell
one_meaning_of [] (command ∷ commands) others say tell = absurd say
one_meaning_of ([] ∷ lines) commands others say tell = one_meaning_of lines commands others say tell
one_meaning_of ((byte ∷ bytes) ∷ lines) [] others say tell = absurd say
one_meaning_of ((byte ∷ bytes) ∷ lines) (command ∷ commands) [] say tell = absurd tell
one_meaning_of ((byte ∷ bytes) ∷ lines) (command ∷ commands) (other ∷ others) say tell =
    let first = one_command_of (byte ∷ bytes) command other say.0 tell.0 in
    let rest = one_meaning_of lines commands others say.1 tell.1 in
    ap (λ c. c ∷ commands) first ∙ ap (λ l. other ∷ l) rest

-- ---- the first line that is not good

good_among : (before : List (List ℕ)) (line : List ℕ) (behind : List (List ℕ)) → AllByRecursion IsGood (before ++ line ∷ behind) → IsGood line
good_among [] line behind good = good.0
good_among (first ∷ before) line behind good = good_among before line behind good.1

good_in_front : (n : ℕ) (before : List (List ℕ)) (line : List ℕ) (behind : List (List ℕ)) → length before < n → AllByRecursion IsGood (take n (before ++ line ∷ behind)) → IsGood line
good_in_front zero before line behind within good = absurd (omega arith)
good_in_front (suc n) [] line behind within good = good.0
good_in_front (suc n) (first ∷ before) line behind within good = good_in_front n before line behind (omega arith) good.1

same_place : (before : List (List ℕ)) (line : List ℕ) (behind front : List (List ℕ)) (other : List ℕ) (back : List (List ℕ))
    → before ++ line ∷ behind ≡ front ++ other ∷ back → AllByRecursion IsGood before → ¬ (IsGood line) → AllByRecursion IsGood front → ¬ (IsGood other)
    → length before ≡ length front
same_place [] line behind [] other back e good bad fine worse = refl
same_place [] line behind (first ∷ front) other back e good bad fine worse =
    let same : first ≡ line = cc in absurd (bad (subst IsGood same fine.0))
same_place (first ∷ before) line behind [] other back e good bad fine worse =
    let same : first ≡ other = cc in absurd (worse (subst IsGood same good.0))
same_place (first ∷ before) line behind (head ∷ front) other back e good bad fine worse =
    let rest : before ++ line ∷ behind ≡ front ++ other ∷ back = cc in
    ap suc (same_place before line behind front other back rest good.1 bad fine.1 worse)

pub one_outcome_of : (lines : List (List ℕ)) → OneOutcome lines
one_outcome_of lines = record {
  none_bad = λ commands number file bad. bad.bad (good_among bad.before bad.line bad.behind (subst (AllByRecursion IsGood) bad.is (good_from_say lines commands file.say)));
  not_many = λ commands file many. omega (arith, file.few, many.more);
  one_or_many = λ number bad many. bad.bad (good_in_front most_lines bad.before bad.line bad.behind (omega (arith, bad.counted, bad.within)) (subst (λ l. AllByRecursion IsGood (take most_lines l)) bad.is many.good));
  one_bad = λ number other bad worse.
      let same = same_place bad.before bad.line bad.behind worse.before worse.line worse.behind (sym bad.is ∙ worse.is) bad.good bad.bad worse.good worse.bad in
      omega (arith, same, bad.counted, worse.counted);
}
