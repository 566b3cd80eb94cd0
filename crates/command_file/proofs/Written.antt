-- What is written is read again.
use Rattle.std.proofs.Common.{◌≡◌, ◌≢◌, ℕ, ◌<◌, List, [], ◌∷◌, length, All, refl, sym, ap, ◌∙◌, subst, arith}
use Rattle.std.specs.List.{AllByRecursion, join_with_byte}
use Rattle.std.proofs.lemmas.List.Elements.{All-weaker, All-append, All-cons, All-nil}
use Rattle.command_file.specs.declared.command.Command.{Command}
use Rattle.command_file.specs.Lines.{lines_of}
use Rattle.command_file.specs.Grammar.{IsWordByte, IsWord, words_of, spelling, IsCommand, Says}
use Rattle.command_file.specs.Files.{SayAll, written}
use Rattle.command_file.specs.Laws.{WrittenIsSaid}
use Rattle.command_file.specs.Reading.{HasNoFeed}
use Rattle.command_file.specs.Words.{words_in}
use Rattle.command_file.proofs.Lines.{lines_of-feed}
use Rattle.command_file.proofs.Parsing.{words_in-spelling}

printing_free : (bytes : List ℕ) → All IsWordByte bytes → HasNoFeed bytes
printing_free bytes all = All-weaker IsWordByte (λ byte. byte ≢ 10) (λ byte in-range feed. omega arith) bytes all

joined_free : (words : List (List ℕ)) → AllByRecursion IsWord words → HasNoFeed (join_with_byte 32 words)
joined_free [] all = All-nil (λ byte. byte ≢ 10)
joined_free (word ∷ []) all = printing_free word all.0.bytes
joined_free (word ∷ next ∷ words) all =
    All-append (λ byte. byte ≢ 10) word (32 ∷ join_with_byte 32 (next ∷ words)) (printing_free word all.0.bytes)
    (All-cons (λ byte. byte ≢ 10) 32 (join_with_byte 32 (next ∷ words)) (λ e. omega arith) (joined_free (next ∷ words) all.1))

pub say-cons : (line : List ℕ) (lines : List (List ℕ)) (command : Command) (commands : List Command) → 0 < length line → Says line command → SayAll lines commands
    → SayAll (line ∷ lines) (command ∷ commands)
say-cons [] lines command commands some says say = absurd (omega arith)
say-cons (byte ∷ bytes) lines command commands some says say = (says, say)

-- a line without a byte has no verb
pub spelling_some : (command : Command) → IsCommand command → 0 < length (spelling command)
spelling_some command is = by (spelling command) refl
  where
    by : (bytes : List ℕ) → bytes ≡ spelling command → 0 < length bytes
    by (byte ∷ bytes) e = omega arith
    by [] e =
        let none : ([] ∷ []) ≡ words_of command = ap words_in e ∙ words_in-spelling command is in
        let words = subst (AllByRecursion IsWord) (sym none) is.words in
        absurd (omega (arith, words.0.some))

pub written_is_said_of : WrittenIsSaid
written_is_said_of [] all = tt
written_is_said_of (command ∷ commands) all =
    let free = joined_free (words_of command) all.0.words in
    let first = lines_of-feed (spelling command) (written commands) free in
    subst (λ l. SayAll l (command ∷ commands)) (sym first)
    (say-cons (spelling command) (lines_of (written commands)) command commands (spelling_some command all.0) (record { spelt = refl; admitted = all.0 }) (written_is_said_of commands all.1))
