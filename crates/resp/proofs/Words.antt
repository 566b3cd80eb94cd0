-- Words as they are split, and what a loop over the bytes has of them.
use Rattle.std.proofs.Common.{◌≡◌, inl, inr, subst, ℕ, ◌+◌, ◌-◌, ◌<◌, ◌≤◌, suc, true, false, List, [], ◌∷◌, ◌++◌, length, take, drop, get_or, refl, sym, ap, ◌∙◌, arith, append_assoc, append-nil, length-take, length-drop}
use Rattle.std.proofs.lemmas.List.{drop_more, drop-drop, take_more, get_or-drop, map-append, nil_from_length}
use Rattle.std.proofs.lemmas.List.Elements.{All-push}
use Rattle.std.proofs.lemmas.List.Splits.{slice_split_at, slice_split_none}
use Rattle.std.proofs.Math.Seq.{take-add}
use Rattle.std.specs.List.{All, filter}
use Rattle.resp.specs.declared.place.Span.{Span}
use Rattle.resp.proofs.Arrays.{within_more}
use Rattle.resp.specs.Requests.{is_blank, has_bytes, words, part}
use Rattle.resp.specs.Parsing.{argument_in, arguments_in, AreWithin, WordIsPut}

-- the word, unless it has no byte
abbrev pub some_word : List ℕ → List (List ℕ)
some_word word = filter has_bytes (word ∷ [])

pub words_at : (word rest : List ℕ) (b : ℕ) → All (λ c. is_blank c ≡ false) word → is_blank b ≡ true → words (word ++ b ∷ rest) ≡ some_word word ++ words rest
words_at [] rest b none blank = ap (filter has_bytes) (slice_split_at is_blank [] b rest none blank)
words_at (c ∷ word) rest b none blank = ap (filter has_bytes) (slice_split_at is_blank (c ∷ word) b rest none blank)

pub words_end : (word : List ℕ) → All (λ c. is_blank c ≡ false) word → words word ≡ some_word word
words_end word none = ap (filter has_bytes) (slice_split_none is_blank word none)

take_cons : (n c : ℕ) (l : List ℕ) → take (1 + n) (c ∷ l) ≡ c ∷ take n l
take_cons n c l =
    let next : 1 + n ≡ suc n = omega arith in
    ap (λ k. take k (c ∷ l)) next

-- what stands from a place on, up to a byte and behind it
pub part_at : (bytes : List ℕ) (from at end : ℕ) → from ≤ at → at < end → end ≤ length bytes → part bytes from (end - from) ≡ part bytes from (at - from) ++ get_or bytes at 0 ∷ part bytes (at + 1) (end - (at + 1))
part_at bytes from at end low high within =
    let sum : end - from ≡ (at - from) + (1 + (end - (at + 1))) = omega arith in
    let there : from + (at - from) ≡ at = omega arith in
    ap (λ n. take n (drop from bytes)) sum
    ∙ (take-add (at - from) (1 + (end - (at + 1))) (drop from bytes)
    ∙ (ap (λ l. part bytes from (at - from) ++ take (1 + (end - (at + 1))) l) (drop-drop (at - from) from bytes ∙ (ap (λ n. drop n bytes) there ∙ drop_more bytes at 0 (omega arith)))
    ∙ ap (λ l. part bytes from (at - from) ++ l) (take_cons (end - (at + 1)) (get_or bytes at 0) (drop (at + 1) bytes))))

-- the words in front of a place are there, and no blank from the last one on
pub record HasWords (bytes : List ℕ) (end from at : ℕ) (spans : List Span) : Type 0 where
  pub low : from ≤ at
  pub none : All (λ c. is_blank c ≡ false) (part bytes from (at - from))
  pub is : words (take end bytes) ≡ arguments_in bytes spans ++ words (part bytes from (end - from))
  pub within : AreWithin end spans

pub no_words : (bytes : List ℕ) (end : ℕ) (spans : List Span) → spans ≡ [] → HasWords bytes end 0 0 spans
no_words bytes end spans none =
    let all : end - 0 ≡ end = omega arith in
    record {
      low = omega arith;
      none = λ k d h. absurd (omega (arith, h, length-take (0 - 0) bytes));
      is = ap (λ n. words (take n bytes)) (sym all) ∙ ap (λ l. l ++ words (take (end - 0) bytes)) (sym (ap (arguments_in bytes) none));
      within = subst (AreWithin end) (sym none) tt;
    }

length_between : (bytes : List ℕ) (from to : ℕ) → from ≤ to → to ≤ length bytes → length (part bytes from (to - from)) ≡ to - from
length_between bytes from to low within = omega (arith, length-take (to - from) (drop from bytes), length-drop from bytes)

one_word : (word : List ℕ) → 0 < length word → some_word word ≡ word ∷ []
one_word [] some = absurd (omega arith)
one_word (c ∷ word) some = refl

-- what a put word is in the bytes
put_arguments : (bytes : List ℕ) (old new : List Span) (from to : ℕ) → to ≤ length bytes → WordIsPut old new from to → arguments_in bytes new ≡ arguments_in bytes old ++ some_word (part bytes from (to - from))
put_arguments bytes old new from to within (inl none) =
    let empty : part bytes from (to - from) ≡ [] = nil_from_length (part bytes from (to - from)) (length_between bytes from to (omega (arith, none.0)) within ∙ omega (arith, none.0)) in
    ap (arguments_in bytes) none.1 ∙ (sym (append-nil (arguments_in bytes old)) ∙ ap (λ w. arguments_in bytes old ++ some_word w) (sym empty))
put_arguments bytes old new from to within (inr some) =
    let len : length (part bytes from (to - from)) ≡ to - from = length_between bytes from to (omega (arith, some.0)) within in
    let word : some_word (part bytes from (to - from)) ≡ part bytes from (to - from) ∷ [] = one_word (part bytes from (to - from)) (omega (arith, some.0)) in
    ap (arguments_in bytes) some.1 ∙ (map-append (argument_in bytes) old (record { from = from; len = to - from } ∷ []) ∙ ap (λ l. arguments_in bytes old ++ l) (sym word))

put_within : (end : ℕ) (old new : List Span) (from to : ℕ) → to ≤ end → WordIsPut old new from to → AreWithin end old → AreWithin end new
put_within end old new from to high (inl none) all = subst (AreWithin end) (sym none.1) all
put_within end old new from to high (inr some) all = subst (AreWithin end) (sym some.1) (within_more end old (record { from = from; len = to - from }) all (omega (arith, some.0)))

-- a blank ends a word
pub word_more : (bytes : List ℕ) (end from at : ℕ) (old new : List Span) → at < end → end ≤ length bytes → is_blank (get_or bytes at 0) ≡ true → WordIsPut old new from at → HasWords bytes end from at old → HasWords bytes end (at + 1) (at + 1) new
word_more bytes end from at old new here within blank put has =
    let word = part bytes from (at - from) in
    let rest = part bytes (at + 1) (end - (at + 1)) in
    let same : at + 1 - (at + 1) ≡ 0 = omega arith in
    record {
      low = omega arith;
      none = λ k d h. absurd (omega (arith, h, length-take (at + 1 - (at + 1)) (drop (at + 1) bytes)));
      is =
          has.is
          ∙ (ap (λ l. arguments_in bytes old ++ words l) (part_at bytes from at end has.low here within)
          ∙ (ap (λ l. arguments_in bytes old ++ l) (words_at (part bytes from (at - from)) (part bytes (at + 1) (end - (at + 1))) (get_or bytes at 0) has.none blank)
          ∙ (sym (append_assoc (arguments_in bytes old) (some_word (part bytes from (at - from))) (words (part bytes (at + 1) (end - (at + 1)))))
          ∙ ap (λ l. l ++ words (part bytes (at + 1) (end - (at + 1)))) (sym (put_arguments bytes old new from at (omega arith) put)))));
      within = put_within end old new from at (omega arith) put has.within;
    }

-- any other byte goes into the word
pub letter_more : (bytes : List ℕ) (end from at : ℕ) (spans : List Span) → at < end → end ≤ length bytes → is_blank (get_or bytes at 0) ≡ false → HasWords bytes end from at spans → HasWords bytes end from (at + 1) spans
letter_more bytes end from at spans here within letter has =
    let sum : at + 1 - from ≡ (at - from) + 1 = omega (arith, has.low) in
    let there : from + (at - from) ≡ at = omega (arith, has.low) in
    let longer : part bytes from (at + 1 - from) ≡ part bytes from (at - from) ++ get_or bytes at 0 ∷ [] =
    ap (λ n. take n (drop from bytes)) sum ∙ (take_more (drop from bytes) (at - from) 0 (omega (arith, has.low, length-drop from bytes)) ∙ ap (λ c. part bytes from (at - from) ++ c ∷ []) (get_or-drop from bytes (at - from) 0 ∙ ap (λ n. get_or bytes n 0) there)) in
    record {
      low = omega (arith, has.low);
      none = subst (All (λ c. is_blank c ≡ false)) (sym longer) (All-push (λ c. is_blank c ≡ false) (part bytes from (at - from)) (get_or bytes at 0) has.none letter);
      is = has.is;
      within = has.within;
    }

-- the last word
pub words_whole : (bytes : List ℕ) (end from : ℕ) (old new : List Span) → end ≤ length bytes → WordIsPut old new from end → HasWords bytes end from end old → arguments_in bytes new ≡ words (take end bytes)
words_whole bytes end from old new within put has =
    put_arguments bytes old new from end within put ∙ (ap (λ l. arguments_in bytes old ++ l) (sym (words_end (part bytes from (end - from)) has.none)) ∙ sym has.is)

pub words_within : (bytes : List ℕ) (end from : ℕ) (old new : List Span) → WordIsPut old new from end → HasWords bytes end from end old → AreWithin end new
words_within bytes end from old new put has = put_within end old new from end (omega arith) put has.within
