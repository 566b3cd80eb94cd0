-- Where the words of a command lie in a text.
use Rattle.std.proofs.Common.{◌≡◌, ℕ, ◌+◌, ◌-◌, ◌≤◌, ◌<◌, List, [], ◌∷◌, ◌++◌, length, take, drop, refl, sym, ap, subst, ◌∙◌, arith, append_assoc, append-nil, length-append}
use Rattle.std.specs.List.{AllByRecursion, join_with_byte}
use Rattle.std.proofs.lemmas.List.{take_at, drop_at}
use Rattle.command_file.specs.declared.command.Command.TheVariants.{Map}
use Rattle.command_file.specs.declared.command.MapCommand.TheVariants.{PutIf}
use Rattle.command_file.specs.declared.verb.Alone.{Alone}
use Rattle.command_file.specs.declared.verb.Alone.TheVariants as alone
use Rattle.command_file.specs.declared.verb.OfKey.{OfKey}
use Rattle.command_file.specs.declared.verb.OfKey.TheVariants as of_key_verb
use Rattle.command_file.specs.declared.verb.OfPair.{OfPair}
use Rattle.command_file.specs.declared.verb.OfPair.TheVariants as of_pair_verb
use Rattle.command_file.specs.declared.verb.Verb.TheVariants as verb
use Rattle.command_file.specs.declared.place.Place.{Place}
use Rattle.command_file.specs.declared.place.Place.TheVariants as place
use Rattle.command_file.specs.Grammar.{IsWord, words_of}
use Rattle.command_file.specs.Words.{alone_name, of_key_name, of_pair_name, name_of, words_in, Reads}
use Rattle.command_file.specs.Places.{of_alone, of_key, of_pair, part, command_in, StandsAt, PlacesWords, PlacesLine}
use Rattle.command_file.proofs.Spelling.{joined-words_in}
use Rattle.command_file.proofs.Parsing.{reads_from_words, some_parts, says_from_reads}
use Rattle.command_file.proofs.Verbs.{alone_is_word}

-- ---- the parts of bytes that stand in a text

pub part_is : (text bytes before word behind : List ℕ) (from at : ℕ) → StandsAt text from bytes → bytes ≡ before ++ (word ++ behind) → at ≡ from + length before → part text at (length word) ≡ word
part_is text bytes before word behind from at s is place =
    let front = s.before ++ before in
    let all : text ≡ front ++ (word ++ (behind ++ s.behind)) =
    s.is
    ∙ ap (λ (b : List ℕ). s.before ++ (b ++ s.behind)) is
    ∙ ap (λ (b : List ℕ). s.before ++ b) (append_assoc before (word ++ behind) s.behind ∙ ap (λ (b : List ℕ). before ++ b) (append_assoc word behind s.behind))
    ∙ sym (append_assoc s.before before (word ++ (behind ++ s.behind))) in
    ap (take (length word)) (ap (drop at) all ∙ drop_at front (word ++ (behind ++ s.behind)) at (omega (arith, length-append s.before before, s.from_is, place)))
    ∙ take_at word (behind ++ s.behind) (length word) refl

-- what stands behind the first word and its space
pub stands_behind : (text bytes first rest : List ℕ) (from at : ℕ) → StandsAt text from bytes → bytes ≡ first ++ 32 ∷ rest → at ≡ from + length first + 1 → StandsAt text at rest
stands_behind text bytes first rest from at s is place = record {
  before = s.before ++ (first ++ 32 ∷ []);
  behind = s.behind;
  is =
      s.is
      ∙ ap (λ (b : List ℕ). s.before ++ (b ++ s.behind)) (is ∙ sym (append_assoc first (32 ∷ []) rest))
      ∙ ap (λ (b : List ℕ). s.before ++ b) (append_assoc (first ++ 32 ∷ []) rest s.behind)
      ∙ sym (append_assoc s.before (first ++ 32 ∷ []) (rest ++ s.behind));
  from_is = omega (arith, length-append s.before (first ++ 32 ∷ []), length-append first (32 ∷ []), s.from_is, place);
}

joined_more : (word : List ℕ) (words : List (List ℕ)) → 0 < length words → join_with_byte 32 (word ∷ words) ≡ word ++ 32 ∷ join_with_byte 32 words
joined_more word [] some = absurd (omega arith)
joined_more word (next ∷ words) some = refl

pub behind_first : (bytes first rest : List ℕ) → words_in bytes ≡ first ∷ words_in rest → bytes ≡ first ++ 32 ∷ rest
behind_first bytes first rest is =
    sym (joined-words_in bytes)
    ∙ ap (join_with_byte 32) is
    ∙ joined_more first (words_in rest) (some_parts rest)
    ∙ ap (λ (b : List ℕ). first ++ 32 ∷ b) (joined-words_in rest)

spelt : (bytes : List ℕ) (words : List (List ℕ)) → words_in bytes ≡ words → bytes ≡ join_with_byte 32 words
spelt bytes words is = sym (joined-words_in bytes) ∙ ap (join_with_byte 32) is

-- ---- the words of a command

alone_words : (v : Alone) → words_of (of_alone v) ≡ alone_name v ∷ []
alone_words alone.Show = refl
alone_words alone.Release = refl
alone_words alone.Evict = refl

of_key_words : (v : OfKey) (key : List ℕ) → words_of (of_key v key) ≡ of_key_name v ∷ key ∷ []
of_key_words of_key_verb.Get key = refl
of_key_words of_key_verb.Delete key = refl
of_key_words of_key_verb.Hold key = refl
of_key_words of_key_verb.Where key = refl

of_pair_words : (v : OfPair) (key value : List ℕ) → words_of (of_pair v key value) ≡ of_pair_name v ∷ key ∷ value ∷ []
of_pair_words of_pair_verb.Put key value = refl
of_pair_words of_pair_verb.PutNew key value = refl

-- ---- a verb and its texts are found where they stand

pub alone_placed : (word : List ℕ) (v : Alone) → word ≡ alone_name v → PlacesWords (word ∷ []) [] 0 (place.Alone v)
alone_placed word v is = record {
  ends = omega arith;
  reads = λ text s. record {
    same = ap (λ (w : List ℕ). w ∷ []) is ∙ sym (alone_words v);
    each = subst (AllByRecursion IsWord) (sym (alone_words v)) (alone_is_word v, tt);
  };
}

pub key_placed : (first rest key : List ℕ) (v : OfKey) (from n : ℕ) → first ≡ of_key_name v → words_in rest ≡ key ∷ [] → IsWord key → n ≡ length key → PlacesWords (first ∷ words_in rest) rest from (place.OfKey v n from)
key_placed first rest key v from n is words word count =
    let all : rest ≡ key = spelt rest (key ∷ []) words in
    record {
      ends = omega (arith, ap length all, count);
      reads = λ text s.
          let k : part text from n ≡ key =
          ap (part text from) count ∙ part_is text rest [] key [] from from s (all ∙ sym (append-nil key)) (omega arith) in
          reads_from_words first (verb.OfKey v) (words_in rest) (of_key v (part text from n)) is
          (of_key_words v (part text from n) ∙ ap (λ (ws : List (List ℕ)). of_key_name v ∷ ws) (ap (λ (w : List ℕ). w ∷ []) k ∙ sym words))
          (subst (AllByRecursion IsWord) (sym words) (word, tt));
    }

pub pair_placed : (first rest key value : List ℕ) (v : OfPair) (from n m : ℕ) → first ≡ of_pair_name v → words_in rest ≡ key ∷ value ∷ [] → IsWord key → IsWord value → n ≡ length key → m ≡ length value
    → PlacesWords (first ∷ words_in rest) rest from (place.OfPair v n m from)
pair_placed first rest key value v from n m is words word other count counted =
    let all : rest ≡ key ++ 32 ∷ value = spelt rest (key ∷ value ∷ []) words in
    record {
      ends = omega (arith, ap length all, length-append key (32 ∷ value), count, counted);
      reads = λ text s.
          let k : part text from n ≡ key = ap (part text from) count ∙ part_is text rest [] key (32 ∷ value) from from s all (omega arith) in
          let w : part text (from + n + 1) m ≡ value =
          ap (part text (from + n + 1)) counted
          ∙ part_is text rest (key ++ 32 ∷ []) value [] from (from + n + 1) s
          (all ∙ sym (append_assoc key (32 ∷ []) value) ∙ ap (λ (b : List ℕ). (key ++ 32 ∷ []) ++ b) (sym (append-nil value)))
          (omega (arith, count, length-append key (32 ∷ []))) in
          reads_from_words first (verb.OfPair v) (words_in rest) (of_pair v (part text from n) (part text (from + n + 1) m)) is
          (of_pair_words v (part text from n) (part text (from + n + 1) m)
          ∙ ap (λ (ws : List (List ℕ)). of_pair_name v ∷ ws) (ap (λ (a : List ℕ). a ∷ part text (from + n + 1) m ∷ []) k ∙ ap (λ (b : List ℕ). key ∷ b ∷ []) w ∙ sym words))
          (subst (AllByRecursion IsWord) (sym words) (word, (other, tt)));
    }

pub put_if_placed : (first rest key expected value : List ℕ) (from n e m : ℕ) → first ≡ name_of verb.PutIf → words_in rest ≡ key ∷ expected ∷ value ∷ [] → IsWord key → IsWord expected → IsWord value
    → n ≡ length key → e ≡ length expected → m ≡ length value → PlacesWords (first ∷ words_in rest) rest from (place.PutIf n e m from)
put_if_placed first rest key expected value from n e m is words word middle other count counted last =
    let all : rest ≡ key ++ 32 ∷ (expected ++ 32 ∷ value) = spelt rest (key ∷ expected ∷ value ∷ []) words in
    let second : rest ≡ (key ++ 32 ∷ []) ++ (expected ++ 32 ∷ value) = all ∙ sym (append_assoc key (32 ∷ []) (expected ++ 32 ∷ value)) in
    let third : rest ≡ ((key ++ 32 ∷ []) ++ (expected ++ 32 ∷ [])) ++ (value ++ []) =
    second
    ∙ ap (λ (b : List ℕ). (key ++ 32 ∷ []) ++ b) (sym (append_assoc expected (32 ∷ []) value) ∙ ap (λ (b : List ℕ). (expected ++ 32 ∷ []) ++ b) (sym (append-nil value)))
    ∙ sym (append_assoc (key ++ 32 ∷ []) (expected ++ 32 ∷ []) (value ++ [])) in
    let front : length ((key ++ 32 ∷ []) ++ (expected ++ 32 ∷ [])) ≡ n + e + 2 =
    omega (arith, length-append (key ++ 32 ∷ []) (expected ++ 32 ∷ []), length-append key (32 ∷ []), length-append expected (32 ∷ []), count, counted) in
    record {
      ends = omega (arith, ap length all, length-append key (32 ∷ (expected ++ 32 ∷ value)), length-append expected (32 ∷ value), count, counted, last);
      reads = λ text s.
          let k : part text from n ≡ key = ap (part text from) count ∙ part_is text rest [] key (32 ∷ (expected ++ 32 ∷ value)) from from s all (omega arith) in
          let x : part text (from + n + 1) e ≡ expected =
          ap (part text (from + n + 1)) counted ∙ part_is text rest (key ++ 32 ∷ []) expected (32 ∷ value) from (from + n + 1) s second (omega (arith, count, length-append key (32 ∷ []))) in
          let w : part text (from + n + e + 2) m ≡ value =
          ap (part text (from + n + e + 2)) last ∙ part_is text rest ((key ++ 32 ∷ []) ++ (expected ++ 32 ∷ [])) value [] from (from + n + e + 2) s third (omega (arith, front)) in
          let texts : part text from n ∷ part text (from + n + 1) e ∷ part text (from + n + e + 2) m ∷ [] ≡ words_in rest =
          ap (λ (a : List ℕ). a ∷ part text (from + n + 1) e ∷ part text (from + n + e + 2) m ∷ []) k
          ∙ ap (λ (b : List ℕ). key ∷ b ∷ part text (from + n + e + 2) m ∷ []) x
          ∙ ap (λ (d : List ℕ). key ∷ expected ∷ d ∷ []) w
          ∙ sym words in
          reads_from_words first verb.PutIf (words_in rest) (Map (PutIf (part text from n) (part text (from + n + 1) e) (part text (from + n + e + 2) m))) is
          (ap (λ (ws : List (List ℕ)). name_of verb.PutIf ∷ ws) texts)
          (subst (AllByRecursion IsWord) (sym words) (word, (middle, (other, tt))));
    }

-- ---- the line

pub line_placed : (line first rest : List ℕ) (from at : ℕ) (p : Place) → length line ≤ 1024 → words_in line ≡ first ∷ words_in rest → at ≡ from + (length line - length rest) → PlacesWords (first ∷ words_in rest) rest at p → PlacesLine line from p
line_placed line first rest from at p short words place placed =
    let all : line ≡ first ++ 32 ∷ rest = behind_first line first rest words in
    let count : length line ≡ length first + length rest + 1 = omega (arith, ap length all, length-append first (32 ∷ rest)) in
    record {
      ends = omega (arith, placed.ends, place, count);
      says = λ text s.
          says_from_reads line (command_in text p) short
          (subst (λ (ws : List (List ℕ)). Reads ws (command_in text p)) (sym words)
          (placed.reads text (stands_behind text line first rest from at s all (omega (arith, place, count)))));
    }

pub word_placed : (word : List ℕ) (from : ℕ) (p : Place) → length word ≤ 1024 → words_in word ≡ word ∷ [] → PlacesWords (word ∷ []) [] 0 p → PlacesLine word from p
word_placed word from p short words placed = record {
  ends = omega (arith, placed.ends);
  says = λ text s.
      says_from_reads word (command_in text p) short
      (subst (λ (ws : List (List ℕ)). Reads ws (command_in text p)) (sym words) (placed.reads text (record { before = []; behind = text; is = refl; from_is = refl })));
}
