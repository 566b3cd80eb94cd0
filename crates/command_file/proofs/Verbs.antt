-- Verbs, and the commands that begin with them.
use Rattle.std.proofs.Common.{◌≡◌, ℕ, ◌≤◌, ◌<◌, cond, ◌&&◌, ◌||◌, Bool, true, nat_le, List, [], ◌∷◌, length, refl, sym, ap, ◌∙◌, arith, inl, inr, ◌⊎◌}
use Rattle.std.specs.Prelude.{codes, bytes_eq}
use Rattle.std.specs.List.{list_all}
use Rattle.std.proofs.lemmas.Bool.Decides.{nat_tests}
use Rattle.std.proofs.lemmas.List.Sums.{AllPass-from_list_all}
use Rattle.command_file.specs.declared.command.Command.{Command}
use Rattle.command_file.specs.declared.command.Command.TheVariants.{Map, Table}
use Rattle.command_file.specs.declared.command.MapCommand.TheVariants.{Put, Get, Delete, PutIf, PutNew, Hold}
use Rattle.command_file.specs.declared.command.TableCommand.TheVariants.{Show, Release, Evict, Where}
use Rattle.command_file.specs.declared.verb.Alone.{Alone}
use Rattle.command_file.specs.declared.verb.Alone.TheVariants as alone
use Rattle.command_file.specs.declared.verb.OfKey.TheVariants as of_key
use Rattle.command_file.specs.declared.verb.OfPair.TheVariants as of_pair
use Rattle.command_file.specs.declared.verb.Verb.{Verb}
use Rattle.command_file.specs.declared.verb.Verb.TheVariants as verb
use Rattle.command_file.specs.Grammar.{IsWord, words_of}
use Rattle.command_file.specs.Words.{alone_name, name_of, count_of}

-- ---- a verb is a word

is_word_byte : ℕ → Bool
is_word_byte byte = nat_le 33 byte && nat_le byte 126

word_from_test : (word : List ℕ) → 0 < length word → length word ≤ 255 → list_all is_word_byte word ≡ true → IsWord word
unfolding is_word_byte
word_from_test word some short test = record {
  some = some;
  short = short;
  bytes = λ k d lt. let at = AllPass-from_list_all is_word_byte word test k d lt in grind (arith, nat_tests);
}

pub is_word : (v : Verb) → IsWord (name_of v)
unfolding is_word_byte
is_word (verb.OfKey of_key.Get) = word_from_test (codes "get") (omega arith) (omega arith) refl
is_word (verb.OfKey of_key.Delete) = word_from_test (codes "del") (omega arith) (omega arith) refl
is_word (verb.OfKey of_key.Hold) = word_from_test (codes "hold") (omega arith) (omega arith) refl
is_word (verb.OfKey of_key.Where) = word_from_test (codes "where") (omega arith) (omega arith) refl
is_word (verb.OfPair of_pair.Put) = word_from_test (codes "put") (omega arith) (omega arith) refl
is_word (verb.OfPair of_pair.PutNew) = word_from_test (codes "putnew") (omega arith) (omega arith) refl
is_word verb.PutIf = word_from_test (codes "putif") (omega arith) (omega arith) refl

pub alone_is_word : (v : Alone) → IsWord (alone_name v)
unfolding is_word_byte
alone_is_word alone.Show = word_from_test (codes "show") (omega arith) (omega arith) refl
alone_is_word alone.Release = word_from_test (codes "release") (omega arith) (omega arith) refl
alone_is_word alone.Evict = word_from_test (codes "evict") (omega arith) (omega arith) refl

-- ---- a command is one word, or has as many texts behind its verb as the verb takes

pub record HasTexts (name : List ℕ) (texts : List (List ℕ)) : Type 0 where
  pub verb : Verb
  pub named : name ≡ name_of verb
  pub count : length texts ≡ count_of verb

pub record Begins (c : Command) : Type 0 where
  pub name : List ℕ
  pub texts : List (List ℕ)
  pub words : words_of c ≡ name ∷ texts
  pub behind : (texts ≡ []) ⊎ HasTexts name texts

with_texts : (c : Command) (v : Verb) (texts : List (List ℕ)) → words_of c ≡ name_of v ∷ texts → length texts ≡ count_of v → Begins c
with_texts c v texts is count = record { name = name_of v; texts = texts; words = is; behind = inr (record { verb = v; named = refl; count = count }) }

pub begins : (c : Command) → Begins c
begins (Map (Put key value)) = with_texts (Map (Put key value)) (verb.OfPair of_pair.Put) (key ∷ value ∷ []) refl refl
begins (Map (Get key)) = with_texts (Map (Get key)) (verb.OfKey of_key.Get) (key ∷ []) refl refl
begins (Map (Delete key)) = with_texts (Map (Delete key)) (verb.OfKey of_key.Delete) (key ∷ []) refl refl
begins (Map (PutIf key expected value)) = with_texts (Map (PutIf key expected value)) verb.PutIf (key ∷ expected ∷ value ∷ []) refl refl
begins (Map (PutNew key value)) = with_texts (Map (PutNew key value)) (verb.OfPair of_pair.PutNew) (key ∷ value ∷ []) refl refl
begins (Map (Hold key)) = with_texts (Map (Hold key)) (verb.OfKey of_key.Hold) (key ∷ []) refl refl
begins (Table Show) = record { name = codes "show"; texts = []; words = refl; behind = inl refl }
begins (Table Release) = record { name = codes "release"; texts = []; words = refl; behind = inl refl }
begins (Table Evict) = record { name = codes "evict"; texts = []; words = refl; behind = inl refl }
begins (Table (Where key)) = with_texts (Table (Where key)) (verb.OfKey of_key.Where) (key ∷ []) refl refl

-- how many texts a verb of this name takes
count_named : List ℕ → ℕ
count_named name = cond (bytes_eq name (codes "put") || bytes_eq name (codes "putnew")) 2 (cond (bytes_eq name (codes "putif")) 3 1)

count_named-name_of : (v : Verb) → count_named (name_of v) ≡ count_of v
unfolding count_named
count_named-name_of (verb.OfKey of_key.Get) = refl
count_named-name_of (verb.OfKey of_key.Delete) = refl
count_named-name_of (verb.OfKey of_key.Hold) = refl
count_named-name_of (verb.OfKey of_key.Where) = refl
count_named-name_of (verb.OfPair of_pair.Put) = refl
count_named-name_of (verb.OfPair of_pair.PutNew) = refl
count_named-name_of verb.PutIf = refl

-- so the words behind a verb, if there are any, are as many as it takes
pub counted : (c : Command) (v : Verb) (words : List (List ℕ)) → words_of c ≡ name_of v ∷ words → 0 < length words → length words ≡ count_of v
counted c v words is some =
    let b = begins c in
    let same : name_of v ∷ words ≡ b.name ∷ b.texts = sym is ∙ b.words in
    let named : name_of v ≡ b.name = cc in
    let texts : words ≡ b.texts = cc in
    by named texts b.behind
  where
    by : {name : List ℕ} {texts : List (List ℕ)} → name_of v ≡ name → words ≡ texts → (texts ≡ []) ⊎ HasTexts name texts → length words ≡ count_of v
    by named texts (inl none) = absurd (omega (arith, ap length (texts ∙ none)))
    by named texts (inr h) =
        ap length texts ∙ (h.count ∙ (sym (count_named-name_of h.verb) ∙ (ap count_named (sym (named ∙ h.named)) ∙ count_named-name_of v)))

-- ---- a command is known by its words

named : List ℕ → List (List ℕ) → Command
named name [] = cond (bytes_eq name (codes "show")) (Table Show) (cond (bytes_eq name (codes "release")) (Table Release) (Table Evict))
named name (key ∷ []) =
    cond (bytes_eq name (codes "get")) (Map (Get key)) (cond (bytes_eq name (codes "del")) (Map (Delete key)) (cond (bytes_eq name (codes "hold")) (Map (Hold key)) (Table (Where key))))
named name (key ∷ value ∷ []) = cond (bytes_eq name (codes "put")) (Map (Put key value)) (Map (PutNew key value))
named name (key ∷ expected ∷ value ∷ []) = Map (PutIf key expected value)
named name (key ∷ expected ∷ value ∷ more ∷ words) = Table Show

pub command_of : List (List ℕ) → Command
command_of [] = Table Show
command_of (name ∷ words) = named name words

pub command_of-words_of : (c : Command) → command_of (words_of c) ≡ c
unfolding command_of named
command_of-words_of (Map (Put key value)) = refl
command_of-words_of (Map (Get key)) = refl
command_of-words_of (Map (Delete key)) = refl
command_of-words_of (Map (PutIf key expected value)) = refl
command_of-words_of (Map (PutNew key value)) = refl
command_of-words_of (Map (Hold key)) = refl
command_of-words_of (Table Show) = refl
command_of-words_of (Table Release) = refl
command_of-words_of (Table Evict) = refl
command_of-words_of (Table (Where key)) = refl
