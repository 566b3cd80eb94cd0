-- What a writer has after one word and another.
use Rattle.std.proofs.Common.{◌≡◌, ℕ, ◌+◌, ◌<◌, ◌≤◌, List, [], ◌∷◌, ◌++◌, Option, length, take, get_or, map, refl, ap, sym, ◌∙◌, subst, add-one, append_assoc}
use Rattle.std.proofs.lemmas.List.{append-nil, take_all, map-append}
use Rattle.std.proofs.Math.Seq.{take-suc}
use Rattle.std.proofs.KnownBytes.{Appends-trans}
use Rattle.std.specs.Io.KnownBytes.{Appends}
use Rattle.std.specs.declared.alloc.Global.{Global}
use Rattle.std.specs.declared.cmp.Reverse.{Reverse}
use Rattle.std.specs.declared.vec.Vec.{Vec}
use Rattle.wordcount.specs.Counted.{line_of, lines_of, word_in}

abbrev Kept : Type 0
Kept = Reverse ℕ × Vec ℕ Global

lines-more : (words : List (ℕ × List ℕ)) (word : ℕ × List ℕ) → lines_of (words ++ word ∷ []) ≡ lines_of words ++ line_of word
lines-more [] word = append-nil (line_of word)
lines-more (w ∷ words) word = ap (λ (z : List ℕ). line_of w ++ z) (lines-more words word) ∙ sym (append_assoc (line_of w) (lines_of words) (line_of word))

-- one more element of a list, whose first i have been written
taken : {A : Type 0} (xs : List A) (i : ℕ) (x : A) → i < length xs → x ≡ get_or xs i x → take (i + 1) xs ≡ take i xs ++ x ∷ []
taken xs i x lt at = rw add-one (take-suc xs i x lt) ∙ ap (λ y. take i xs ++ y ∷ []) (sym at)

pub more_words : (a b c : Option (List ℕ)) (words : List Kept) (i : ℕ) (word : Kept) → i < length words → word ≡ get_or words i word
    → Appends a b (lines_of (map word_in (take i words))) → Appends b c (line_of (word_in word)) → Appends a c (lines_of (map word_in (take (i + 1) words)))
more_words a b c words i word lt at p q =
    let is : lines_of (map word_in (take (i + 1) words)) ≡ lines_of (map word_in (take i words)) ++ line_of (word_in word) =
    ap (λ x. lines_of (map word_in x)) (taken words i word lt at)
    ∙ (ap lines_of (map-append word_in (take i words) (word ∷ [])) ∙ lines-more (map word_in (take i words)) (word_in word)) in
    subst (λ (x : List ℕ). Appends a c x) (sym is) (Appends-trans a b c _ _ p q)

pub all_words : (a b : Option (List ℕ)) (words : List Kept) (i : ℕ) → length words ≤ i → Appends a b (lines_of (map word_in (take i words))) → Appends a b (lines_of (map word_in words))
all_words a b words i le p = subst (λ x. Appends a b (lines_of (map word_in x))) (take_all i words le) p
