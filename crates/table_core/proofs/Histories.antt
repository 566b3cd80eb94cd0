-- In a lawful log the words' contents are the map of the history.
use Rattle.std.proofs.Common.{◌≡◌, ◌≢◌, ℕ, ◌≤◌, ◌==◌, Bool, true, false, if◌then◌else◌, List, [], ◌∷◌, ◌++◌, Some, None, refl, ap, sym, ◌∙◌, subst, arith, IsTrue}
use Rattle.std.proofs.lemmas.Bool.Decides.{nat_tests}
use Rattle.std.proofs.lemmas.List.{append-nil}
use Rattle.std.proofs.lemmas.List.Sums.{fold-append}
use Rattle.far_object.specs.Buckets.{bucket}
use Rattle.table_core.specs.declared.event.Event.{Event}
use Rattle.table_core.specs.declared.event.Event.TheVariants.{Enter, Named, Done, Moved}
use Rattle.table_core.specs.declared.limits.Limits.{Limits}
use Rattle.table_core.specs.declared.operation.Operation.{Operation}
use Rattle.table_core.specs.BucketWords.{name_of}
use Rattle.table_core.specs.Maps.{key_of, value_at, at_bucket, after, map_of}
use Rattle.table_core.specs.Logs.{history, names_of, contents, pairs_of, installed, replaced, word}
use Rattle.table_core.specs.Lawful.{standing, IsDrawn, MayFollow, IsLawful}
use Rattle.table_core.proofs.Logs.{history-append, lawful_more, lawful_keeps, word-more, names_below, words_below, naming_kept}
use Rattle.table_core.proofs.Maps.{after_here, after_elsewhere, value_here}
use Rattle.table_core.proofs.Keys.{rising}

module _ {K V : Type 0} (ek : K → List ℕ) (ev : V → List ℕ) (l : Limits) where
  pub map-more : (calls : List (ℕ × Operation K V)) (p : ℕ) (op : Operation K V) → map_of ek ev (calls ++ (p, op) ∷ []) ≡ after ek ev (map_of ek ev calls) op
  map-more calls p op = fold-append (λ (m : List (K × V)) (call : ℕ × Operation K V). after ek ev m call.1) [] calls ((p, op) ∷ [])

  abbrev Agree : List (Event K V) → Type 0
  Agree log = IsLawful ek ev l log × ((b : ℕ) → standing ek ev l log b ≡ at_bucket ek l.buckets b (map_of ek ev (history log)))

  module _ (honest : IsTrue l.honest) (log : List (Event K V)) (lawful : IsLawful ek ev l log) (b : ℕ) where
    -- the contents of a name that was drawn, one event later
    still : (e : Event K V) → MayFollow ek ev l log e → (n : ℕ) → n ≤ names_of log → contents (log ++ e ∷ []) n ≡ contents log n
    still e may n le = ap pairs_of (naming_kept ek ev l log (log ++ e ∷ []) n (lawful_more ek ev l log e lawful may) (e ∷ [], refl) le)

    -- the old word's contents are still there
    stays : (e : Event K V) → MayFollow ek ev l log e → contents (log ++ e ∷ []) (name_of (word ek l.buckets log b)) ≡ standing ek ev l log b
    stays e may = still e may (name_of (word ek l.buckets log b)) (words_below ek ev l log b lawful)

    -- those of an installed word are there
    comes : (e : Event K V) → MayFollow ek ev l log e → (c w : ℕ) → IsDrawn log (name_of w) c → contents (log ++ e ∷ []) (name_of w) ≡ contents log (name_of w)
    comes e may c w drawn = let below = names_below ek ev l log lawful (name_of w) c drawn in still e may (name_of w) below.1

    agree_more : (e : Event K V) → MayFollow ek ev l log e → standing ek ev l log b ≡ at_bucket ek l.buckets b (map_of ek ev (history log))
        → contents (log ++ e ∷ []) (name_of (replaced b (word ek l.buckets log b) (installed ek l.buckets e))) ≡ at_bucket ek l.buckets b (map_of ek ev (history log ++ history (e ∷ [])))
    agree_more (Enter p) may ih = stays (Enter p) may ∙ (ih ∙ ap (λ (h : List (ℕ × Operation K V)). at_bucket ek l.buckets b (map_of ek ev h)) (sym (append-nil (history log))))
    agree_more (Named n c es) may ih = stays (Named n c es) may ∙ (ih ∙ ap (λ (h : List (ℕ × Operation K V)). at_bucket ek l.buckets b (map_of ek ev h)) (sym (append-nil (history log))))
    agree_more (Done p op None) may ih =
        stays (Done p op None) may
        ∙ (at (bucket ek l.buckets (key_of op) == b) refl ∙ ap (λ (m : List (K × V)). at_bucket ek l.buckets b m) (sym (map-more (history log) p op)))
      where
        at : (c : Bool) → (bucket ek l.buckets (key_of op) == b) ≡ c → standing ek ev l log b ≡ at_bucket ek l.buckets b (after ek ev (map_of ek ev (history log)) op)
        at true is =
            let same : bucket ek l.buckets (key_of op) ≡ b = grind (arith, nat_tests) in
            let P : ℕ → Type 0 = λ d. after ek ev (standing ek ev l log d) op ≡ standing ek ev l log d in
            let kept : P b = subst P same (may.contents_kept honest) in
            sym kept ∙ (ap (λ (m : List (K × V)). after ek ev m op) ih ∙ after_here ek ev l.buckets b op (map_of ek ev (history log)) same (rising ek ev (history log)))
        at false is =
            let other : bucket ek l.buckets (key_of op) ≢ b = grind (arith, nat_tests) in
            ih ∙ sym (after_elsewhere ek ev l.buckets b op (map_of ek ev (history log)) other)
    agree_more (Done p op (Some w)) may ih =
        at (bucket ek l.buckets (key_of op) == b) refl ∙ ap (λ (m : List (K × V)). at_bucket ek l.buckets b m) (sym (map-more (history log) p op))
      where
        at : (c : Bool) → (bucket ek l.buckets (key_of op) == b) ≡ c
            → contents (log ++ Done p op (Some w) ∷ []) (name_of (if c then w else word ek l.buckets log b)) ≡ at_bucket ek l.buckets b (after ek ev (map_of ek ev (history log)) op)
        at true is =
            let same : bucket ek l.buckets (key_of op) ≡ b = grind (arith, nat_tests) in
            let P : ℕ → Type 0 = λ d. contents log (name_of w) ≡ after ek ev (standing ek ev l log d) op in
            let holds : P b = let h = may.contents_kept honest in subst P same h.same in
            comes (Done p op (Some w)) may (bucket ek l.buckets (key_of op)) w may.drawn
            ∙ (holds ∙ (ap (λ (m : List (K × V)). after ek ev m op) ih ∙ after_here ek ev l.buckets b op (map_of ek ev (history log)) same (rising ek ev (history log))))
        at false is =
            let other : bucket ek l.buckets (key_of op) ≢ b = grind (arith, nat_tests) in
            stays (Done p op (Some w)) may ∙ (ih ∙ sym (after_elsewhere ek ev l.buckets b op (map_of ek ev (history log)) other))
    agree_more (Moved c w) may ih =
        at (c == b) refl ∙ ap (λ (h : List (ℕ × Operation K V)). at_bucket ek l.buckets b (map_of ek ev h)) (sym (append-nil (history log)))
      where
        at : (q : Bool) → (c == b) ≡ q → contents (log ++ Moved c w ∷ []) (name_of (if q then w else word ek l.buckets log b)) ≡ at_bucket ek l.buckets b (map_of ek ev (history log))
        at true is =
            let same : c ≡ b = grind (arith, nat_tests) in
            let P : ℕ → Type 0 = λ d. contents log (name_of w) ≡ standing ek ev l log d in
            let holds : P b = let h = may.contents_kept.1 honest in subst P same h.same in
            comes (Moved c w) may c w may.drawn ∙ (holds ∙ ih)
        at false is = stays (Moved c w) may ∙ ih

  -- in a lawful log the contents of a bucket's word are the map of the history at that bucket
  pub agree : IsTrue l.honest → (log : List (Event K V)) → IsLawful ek ev l log → (b : ℕ) → standing ek ev l log b ≡ at_bucket ek l.buckets b (map_of ek ev (history log))
  agree honest log lawful = let k = lawful_keeps ek ev l Agree more [] log (tt, λ b. refl) lawful in k.1
    where
      more : (log : List (Event K V)) (e : Event K V) → Agree log → MayFollow ek ev l log e → Agree (log ++ e ∷ [])
      more log e ih may =
          (lawful_more ek ev l log e ih.0 may, λ b. rw (word-more ek ev l log e b, history-append log (e ∷ [])) (agree_more honest log ih.0 b e may (ih.1 b)))

  -- and give each key the value that the map of the history does
  pub answer : IsTrue l.honest → (log : List (Event K V)) → IsLawful ek ev l log → (k : K) → value_at ek k (standing ek ev l log (bucket ek l.buckets k)) ≡ value_at ek k (map_of ek ev (history log))
  answer honest log lawful k =
      ap (λ (m : List (K × V)). value_at ek k m) (agree honest log lawful (bucket ek l.buckets k))
      ∙ value_here ek l.buckets (bucket ek l.buckets k) k (map_of ek ev (history log)) refl
