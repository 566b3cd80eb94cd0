-- Which command the words of a line are.
use Rattle.std.proofs.Common.{◌≡◌, ◌≢◌, ℕ, ◌≤◌, ◌<◌, eqb, List, [], ◌∷◌, length, sym, ap, subst, ◌∙◌, arith, inl, inr, ◌⊎◌}
use Rattle.std.specs.List.{AllByRecursion, join_with_byte}
use Rattle.std.proofs.lemmas.List.Splits.{length-slice_split}
use Rattle.command_file.specs.declared.command.Command.{Command}
use Rattle.command_file.specs.declared.verb.Verb.{Verb}
use Rattle.command_file.specs.Grammar.{IsWord, words_of, spelling, IsCommand, Says, IsGood}
use Rattle.command_file.specs.Words.{name_of, count_of, words_in, AreWords, Reads}
use Rattle.command_file.proofs.Spelling.{IsOneWord, one_from_word, words_in-joined, joined-words_in}
use Rattle.command_file.proofs.Verbs.{HasTexts, is_word, begins, counted}

-- the words of a verb and its texts are the command's that has them
pub reads_from_words : (first : List ℕ) (v : Verb) (words : List (List ℕ)) (c : Command) → first ≡ name_of v → words_of c ≡ name_of v ∷ words → AllByRecursion IsWord words → Reads (first ∷ words) c
reads_from_words first v words c is same each = record {
  same = ap (λ (l : List ℕ). l ∷ words) is ∙ sym same;
  each = subst (AllByRecursion IsWord) (sym same) (is_word v, each);
}

-- words whose first is no verb, and which are more, are no command's
pub no_verb : (first : List ℕ) (words : List (List ℕ)) → ((v : Verb) → first ≢ name_of v) → 0 < length words → (c : Command) → ¬ (Reads (first ∷ words) c)
no_verb first words none some = λ c reads.
    let b = begins c in
    let same : first ∷ words ≡ b.name ∷ b.texts = reads.same ∙ b.words in
    let named : first ≡ b.name = cc in
    let texts : words ≡ b.texts = cc in
    by named texts b.behind
  where
    by : {name : List ℕ} {texts : List (List ℕ)} → first ≡ name → words ≡ texts → (texts ≡ []) ⊎ HasTexts name texts → ⊥
    by named texts (inl e) = omega (arith, ap length (texts ∙ e))
    by named texts (inr h) = none h.verb (named ∙ h.named)

-- nor are those behind a verb that are not as many as it takes
pub wrong_texts : (first : List ℕ) (v : Verb) (words : List (List ℕ)) → first ≡ name_of v → 0 < length words → ¬ (AreWords (count_of v) words) → (c : Command) → ¬ (Reads (first ∷ words) c)
wrong_texts first v words is some none = λ c reads.
    let same : words_of c ≡ name_of v ∷ words = sym reads.same ∙ ap (λ (l : List ℕ). l ∷ words) is in
    let each : AllByRecursion IsWord (name_of v ∷ words) = subst (AllByRecursion IsWord) same reads.each in
    none (record { count = counted c v words same some; each = each.1 })

pub some_parts : (bytes : List ℕ) → 0 < length (words_in bytes)
some_parts bytes = omega (arith, length-slice_split (λ byte. eqb byte 32) bytes)

-- ---- the words of a line

each_one : (words : List (List ℕ)) → AllByRecursion IsWord words → AllByRecursion IsOneWord words
each_one [] all = tt
each_one (word ∷ words) all = (one_from_word word all.0, each_one words all.1)

-- the words of a spelling
pub words_in-spelling : (c : Command) → IsCommand c → words_in (spelling c) ≡ words_of c
words_in-spelling c is =
    let b = begins c in
    let each : AllByRecursion IsOneWord (b.name ∷ b.texts) = each_one (b.name ∷ b.texts) (subst (AllByRecursion IsWord) b.words is.words) in
    ap (λ (ws : List (List ℕ)). words_in (join_with_byte 32 ws)) b.words ∙ (words_in-joined b.name b.texts each.0 each.1 ∙ sym b.words)

pub reads_from_says : (line : List ℕ) (c : Command) → Says line c → Reads (words_in line) c
reads_from_says line c says = record { same = ap words_in says.spelt ∙ words_in-spelling c says.admitted; each = says.admitted.words }

pub says_from_reads : (line : List ℕ) (c : Command) → length line ≤ 1024 → Reads (words_in line) c → Says line c
says_from_reads line c short reads =
    let spelt : line ≡ spelling c = sym (joined-words_in line) ∙ ap (join_with_byte 32) reads.same in
    record { spelt = spelt; admitted = record { words = reads.each; short = subst (λ l. length l ≤ 1024) spelt short } }

-- a line whose words are no command's says none
pub says_none : (line : List ℕ) (words : List (List ℕ)) → words_in line ≡ words → ((c : Command) → ¬ (Reads words c)) → (c : Command) → ¬ (Says line c)
says_none line words is none = λ c says. none c (subst (λ l. Reads l c) is (reads_from_says line c says))

-- a line with a byte that says no command is bad
pub not_good : (line : List ℕ) → 0 < length line → ((c : Command) → ¬ (Says line c)) → ¬ (IsGood line)
not_good line some none (inl empty) = omega (arith, ap length empty)
not_good line some none (inr said) = none said.0 said.1

-- a line that is too long says none
pub long_says_none : (line : List ℕ) → 1024 < length line → (c : Command) → ¬ (Says line c)
long_says_none line long = λ c says. omega (arith, ap length says.spelt, says.admitted.short)
