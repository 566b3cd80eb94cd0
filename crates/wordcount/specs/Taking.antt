-- A taker's laws: it takes no words, and words and then others.
use Rattle.std.proofs.Common.{◌≡◌, ◌++◌, ℕ, List, [], ◌∷◌, map, refl, sym, ap, ◌∙◌, subst}
use Rattle.std.specs.declared.alloc.Global.{Global}
use Rattle.std.specs.declared.cmp.Reverse.{Reverse}
use Rattle.std.specs.declared.collections.binary_heap.BinaryHeap.{BinaryHeap}
use Rattle.std.specs.declared.vec.Vec.{Vec}
use Rattle.std.proofs.lemmas.List.{append-nil}
use Rattle.std.proofs.Common.{append_assoc}
use Rattle.std.specs.Prelude.{Bool}
use Rattle.std.specs.Ordering.{is_lt}
use Rattle.wordcount.specs.Tops.{AreFirst, GoesOn, counted, print_cmp, words_in}

abbrev comes_first : ℕ × List ℕ → ℕ × List ℕ → Bool
comes_first one other = is_lt (print_cmp one other)

-- no more words
goes_none : (most : ℕ) (kept : List (ℕ × List ℕ)) → GoesOn most kept [] kept
goes_none most kept = λ all f. subst (λ (words : List (ℕ × List ℕ)). AreFirst comes_first most words kept) (sym (append-nil all)) f

-- these words, and then those
goes_both : (most : ℕ) (old between new first last : List (ℕ × List ℕ)) → GoesOn most old first between → GoesOn most between last new → GoesOn most old (first ++ last) new
goes_both most old between new first last one other = λ all f. subst (λ (words : List (ℕ × List ℕ)). AreFirst comes_first most words new) (append_assoc all first last) (other (all ++ first) (one all f))

abbrev Heap : Type 0
Heap = BinaryHeap (Reverse ℕ × Vec ℕ Global) Global

-- it took these pairs
abbrev pub Takes : ℕ → Heap → List (List ℕ × List ℕ) → ℕ → Heap → Type 0
Takes most old pairs now new = (now ≡ most) × GoesOn most (words_in old) (map counted pairs) (words_in new)

both_counted : (first last : List (List ℕ × List ℕ)) → map counted (first ++ last) ≡ map counted first ++ map counted last
both_counted [] last = refl
both_counted (pair ∷ first) last = ap (λ (words : List (ℕ × List ℕ)). counted pair ∷ words) (both_counted first last)

pub taken_none : (most : ℕ) (kept : Heap) → Takes most kept [] most kept
taken_none most kept = (refl, goes_none most (words_in kept))

pub taken_both : (most between now : ℕ) (old middle new : Heap) (first last : List (List ℕ × List ℕ)) → Takes most old first between middle → Takes between middle last now new → Takes most old (first ++ last) now new
taken_both most between now old middle new first last one other = (
  other.0 ∙ one.0,
  subst (λ (words : List (ℕ × List ℕ)). GoesOn most (words_in old) words (words_in new)) (sym (both_counted first last))
      (goes_both most (words_in old) (words_in middle) (words_in new) (map counted first) (map counted last) one.1
      (subst (λ (n : ℕ). GoesOn n (words_in middle) (map counted last) (words_in new)) one.0 other.1)),
)
