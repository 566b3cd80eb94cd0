-- What holds of the contents of words that were seen.
use Rattle.std.proofs.Common.{◌≡◌, ℕ, ◌≤◌, ◌==◌, Bool, true, false, if◌then◌else◌, List, [], ◌∷◌, ◌++◌, Option, Some, None, refl, ap, sym, ◌∙◌, subst, arith, IsTrue}
use Rattle.std.proofs.lemmas.Bool.Decides.{nat_tests}
use Rattle.std.specs.Option.{option_map}
use Rattle.far_object.specs.Buckets.{bucket}
use Rattle.table_core.specs.declared.event.Event.{Event}
use Rattle.table_core.specs.declared.event.Event.TheVariants.{Enter, Named, Done, Moved}
use Rattle.table_core.specs.declared.operation.Operation.{Operation}
use Rattle.table_core.specs.declared.limits.Limits.{Limits}
use Rattle.table_core.specs.BucketWords.{name_of, place_of, empty_place}
use Rattle.table_core.specs.Maps.{key_of, after, map_of, reply, at_bucket}
use Rattle.table_core.specs.Logs.{history, names_of, naming, contents, pairs_of, installed, replaced, word}
use Rattle.table_core.specs.Lawful.{AreContents, IsDrawn, standing, MayFollow, IsLawful}
use Rattle.table_core.proofs.Logs.{lawful_more, lawful_keeps, word-more, names_below, naming_kept, words_below}
use Rattle.table_core.proofs.Histories.{agree, answer}
use Rattle.table_core.proofs.Keys.{rising}
use Rattle.table_core.proofs.Maps.{rising_after, after_here}
use Rattle.table_core.proofs.Installing.{part_fits}
use Rattle.version_words.specs.Views.{WasSeen, Follows, IsAnswered, IsOfBucket, changed, has_object}
use Rattle.version_words.proofs.Fronts.{prefix_self, lawful_prefix, lawful_before, seen_kept}

module _ {K V : Type 0} (ek : K → List ℕ) (ev : V → List ℕ) (l : Limits) where
  -- the contents of a word that was seen are one bucket of a history's map
  seen_part : IsTrue l.honest → (log : List (Event K V)) (b w : ℕ) → IsLawful ek ev l log → (seen : WasSeen ek l.buckets log b w)
      → contents log (name_of w) ≡ at_bucket ek l.buckets b (map_of ek ev (history seen.0))
  seen_part honest log b w lawful seen =
      let looked : IsLawful ek ev l seen.0 = lawful_prefix ek ev l seen.0 log lawful seen.1 in
      let part : standing ek ev l seen.0 b ≡ at_bucket ek l.buckets b (map_of ek ev (history seen.0)) = agree ek ev l honest seen.0 looked b in
      seen_kept ek ev l seen.0 log b w lawful seen.1 (seen.0, prefix_self seen.0, seen.2)
      ∙ (ap (λ (x : ℕ). contents seen.0 (name_of x)) (sym seen.2) ∙ part)

  -- what a change makes of them belongs into the bucket
  pub change_fits : IsTrue l.honest → (log : List (Event K V)) (b w : ℕ) (o : Option (Operation K V)) → IsLawful ek ev l log → WasSeen ek l.buckets log b w → IsOfBucket ek l.buckets b o
      → AreContents ek l.buckets b (changed ek ev (contents log (name_of w)) o)
  change_fits honest log b w o lawful seen here = subst (λ (es : List (K × V)). AreContents ek l.buckets b (changed ek ev es o)) (sym (seen_part honest log b w lawful seen)) (by o here)
    where
      by : (o : Option (Operation K V)) → IsOfBucket ek l.buckets b o → AreContents ek l.buckets b (changed ek ev (at_bucket ek l.buckets b (map_of ek ev (history seen.0))) o)
      by None here = part_fits ek l.buckets b (map_of ek ev (history seen.0)) (rising ek ev (history seen.0))
      by (Some o) here =
          subst (λ (es : List (K × V)). AreContents ek l.buckets b es) (sym (after_here ek ev l.buckets b o (map_of ek ev (history seen.0)) here (rising ek ev (history seen.0))))
          (part_fits ek l.buckets b (after ek ev (map_of ek ev (history seen.0)) o) (rising_after ek ev o (map_of ek ev (history seen.0)) (rising ek ev (history seen.0))))

  -- what an event installs with the empty place has no pair
  none_installed : IsTrue l.honest → (log : List (Event K V)) (e : Event K V) (t : ℕ × ℕ) → MayFollow ek ev l log e → installed ek l.buckets e ≡ Some t → place_of t.1 ≡ empty_place → contents log (name_of t.1) ≡ []
  none_installed honest log (Enter p) t may is empty = absurd (cc is)
  none_installed honest log (Named n b es) t may is empty = absurd (cc is)
  none_installed honest log (Done p o None) t may is empty = absurd (cc is)
  none_installed honest log (Done p o (Some w)) t may is empty =
      let same : w ≡ t.1 = cc is in let h = may.contents_kept honest in
      subst (λ (x : ℕ). contents log (name_of x) ≡ []) same (h.same ∙ h.none (ap place_of same ∙ empty))
  none_installed honest log (Moved b w) t may is empty =
      let same : w ≡ t.1 = cc is in let r = may.contents_kept in let h = r.1 honest in
      subst (λ (x : ℕ). contents log (name_of x) ≡ []) same (h.same ∙ h.none (ap place_of same ∙ empty))

  abbrev Bare : List (Event K V) → Type 0
  Bare log = IsLawful ek ev l log × ((b : ℕ) → place_of (word ek l.buckets log b) ≡ empty_place → standing ek ev l log b ≡ [])

  bare_more : IsTrue l.honest → (log : List (Event K V)) (e : Event K V) → Bare log → MayFollow ek ev l log e → Bare (log ++ e ∷ [])
  bare_more honest log e old may = (lawful, λ b. rw (word-more ek ev l log e b) (by b (installed ek l.buckets e) refl))
    where
      lawful : IsLawful ek ev l (log ++ e ∷ [])
      lawful = lawful_more ek ev l log e old.0 may

      still : (n : ℕ) → n ≤ names_of log → contents (log ++ e ∷ []) n ≡ contents log n
      still n le = ap pairs_of (naming_kept ek ev l log (log ++ e ∷ []) n (lawful_more ek ev l log e old.0 may) (e ∷ [], refl) le)

      by : (b : ℕ) (o : Option (ℕ × ℕ)) → installed ek l.buckets e ≡ o → place_of (replaced b (word ek l.buckets log b) o) ≡ empty_place → contents (log ++ e ∷ []) (name_of (replaced b (word ek l.buckets log b) o)) ≡ []
      by b None is empty = ap pairs_of (naming_kept ek ev l log (log ++ e ∷ []) (name_of (word ek l.buckets log b)) (lawful_more ek ev l log e old.0 may) (e ∷ [], refl) (words_below ek ev l log b old.0)) ∙ old.1 b empty
      by b (Some t) is empty = at (t.0 == b) empty
        where
          drawn : IsDrawn log (name_of t.1) t.0
          drawn = rw is at may.drawn

          at : (q : Bool) → place_of (if q then t.1 else word ek l.buckets log b) ≡ empty_place → contents (log ++ e ∷ []) (name_of (if q then t.1 else word ek l.buckets log b)) ≡ []
          at true empty = let below = names_below ek ev l log old.0 (name_of t.1) t.0 drawn in
              ap pairs_of (naming_kept ek ev l log (log ++ e ∷ []) (name_of t.1) (lawful_more ek ev l log e old.0 may) (e ∷ [], refl) below.1) ∙ none_installed honest log e t may is empty
          at false empty = ap pairs_of (naming_kept ek ev l log (log ++ e ∷ []) (name_of (word ek l.buckets log b)) (lawful_more ek ev l log e old.0 may) (e ∷ [], refl) (words_below ek ev l log b old.0)) ∙ old.1 b empty

  bare : IsTrue l.honest → (log : List (Event K V)) → IsLawful ek ev l log → Bare log
  bare honest log lawful = lawful_keeps ek ev l Bare (bare_more honest) [] log (tt, λ b e. refl) lawful

  -- name 0 is never drawn
  contents_zero : (log : List (Event K V)) → IsLawful ek ev l log → contents log 0 ≡ []
  contents_zero log lawful = by (naming log 0) refl
    where
      by : (o : Option (ℕ × List (K × V))) → naming log 0 ≡ o → pairs_of o ≡ []
      by None is = refl
      by (Some t) is =
          let below = names_below ek ev l log lawful 0 t.0 (ap (λ (o : Option (ℕ × List (K × V))). option_map (λ t. t.0) o) is) in
          absurd (omega (arith, below.0))

  -- a word without an object has no contents
  pub none_held : IsTrue l.honest → (log : List (Event K V)) (b w : ℕ) → IsLawful ek ev l log → WasSeen ek l.buckets log b w → has_object w ≡ false → contents log (name_of w) ≡ []
  none_held honest log b w lawful seen none = by (w == 0) refl (place_of w == empty_place) refl none
    where
      looked : IsLawful ek ev l seen.0
      looked = lawful_prefix ek ev l seen.0 log lawful seen.1

      by : (p : Bool) → (w == 0) ≡ p → (q : Bool) → (place_of w == empty_place) ≡ q → (if p then false else (if q then false else true)) ≡ false → contents log (name_of w) ≡ []
      by true is q at h = let zero : w ≡ 0 = grind (arith, nat_tests) in ap (λ (x : ℕ). contents log (name_of x)) zero ∙ contents_zero log lawful
      by false is true at h =
          let place : place_of w ≡ empty_place = grind (arith, nat_tests) in
          let r = bare honest seen.0 (lawful_prefix ek ev l seen.0 log lawful seen.1) in
          seen_kept ek ev l seen.0 log b w lawful seen.1 (seen.0, prefix_self seen.0, seen.2)
          ∙ (ap (λ (x : ℕ). contents seen.0 (name_of x)) (sym seen.2) ∙ r.1 b (ap place_of seen.2 ∙ place))
      by false is false at h = absurd (cc h)

  -- a call that was added behind a word that was seen is answered from the word's contents
  pub answered : IsTrue l.honest → (seen log : List (Event K V)) (b w pass : ℕ) (o : Operation K V) (new : Option ℕ) → IsLawful ek ev l log → bucket ek l.buckets (key_of o) ≡ b
      → WasSeen ek l.buckets seen b w → Follows ek l.buckets seen b w (Done pass o new) log → IsAnswered ek ev seen pass o (reply ek (contents seen (name_of w)) o) log
  answered honest seen log b w pass o new lawful key was f =
      let before : IsLawful ek ev l f.0 = lawful_before ek ev l f.0 log (Done pass o new) lawful f.1 in
      let at : word ek l.buckets f.0 (bucket ek l.buckets (key_of o)) ≡ w = ap (λ (x : ℕ). word ek l.buckets f.0 x) key ∙ f.3 in
      let same : standing ek ev l f.0 (bucket ek l.buckets (key_of o)) ≡ contents seen (name_of w) = ap (λ (x : ℕ). contents f.0 (name_of x)) at ∙ seen_kept ek ev l seen f.0 b w before f.2 was in
      (f.0, new, f.1, f.2, ap (λ (es : List (K × V)). reply ek es o) (sym same) ∙ answer ek ev l honest f.0 before (key_of o))
