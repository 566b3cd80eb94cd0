-- Changes and probes of a pass, told by what the pass and the name have seen.
use Rattle.std.proofs.Common.{◌≡◌, ◌≢◌, ◌==◌, ℕ, ◌<◌, ◌≤◌, ◌^◌, Bool, true, false, not, cond, List, [], ◌∷◌, Option, Some, None, refl, ap, sym, ◌∙◌, subst, arith, IsTrue}
use Rattle.std.proofs.lemmas.Bool.Decides.{nat_tests}
use Rattle.std.specs.Map.{lookup}
use Rattle.std.specs.List.{filter}
use Rattle.std.specs.BTreeMap.{is_at}
use mathlib.Core.List.{IsPrefix}
use Rattle.far_object.specs.Buckets.{key_cmp}
use Rattle.table_core.specs.declared.event.Event.{Event}
use Rattle.table_core.specs.declared.event.Event.TheVariants.{Done}
use Rattle.table_core.specs.declared.operation.Operation.{Operation}
use Rattle.table_core.specs.declared.operation.Operation.TheVariants as op
use Rattle.table_core.specs.declared.limits.Limits.{Limits}
use Rattle.table_core.specs.BucketWords.{name_of, place_of, pack, empty_place}
use Rattle.table_core.specs.Maps.{after}
use Rattle.table_core.specs.Logs.{passes_of, naming, contents, pairs_of}
use Rattle.table_core.specs.Lawful.{IsDrawn, IsLawful}
use Rattle.table_core.proofs.Logs.{names_below, naming_kept}
use Rattle.version_words.specs.declared.change.Probe.{Probe}
use Rattle.version_words.specs.Rows.{CanAdd}
use Rattle.version_words.specs.Views.{WasSeen, IsOfBucket, changed, probed, ChangesNothing, installing, has_object}
use Rattle.version_words.proofs.Fronts.{passes_grow, lawful_prefix, seen_kept, seen_later}
use Rattle.version_words.proofs.Gone.{name_of-pack}
use Rattle.version_words.proofs.Writing.{IsPrepared, can_done, can_move, can_check}

place_of-pack : (n p : ℕ) → p < 2 ^ 24 → place_of (pack n p) ≡ p
place_of-pack n p lt = omega arith

-- a name's word with a place below EMPTY has an object
pub packed_object : (n p : ℕ) → 0 < n → p < empty_place → has_object (pack n p) ≡ true
packed_object n p some small =
    let one : (pack n p == 0) ≡ false = let other : pack n p ≢ 0 = omega arith in grind (arith, nat_tests) in
    let two : (place_of (pack n p) == empty_place) ≡ false = let other : place_of (pack n p) ≢ empty_place = omega arith in grind (arith, nat_tests) in
    rw (one, two) refl

-- a removal of a key that isn't there
cut_absent : {K X : Type 0} (test : K → Bool) (es : List (K × X)) → lookup test es ≡ None → filter (λ (e : K × X). not (test e.0)) es ≡ es
cut_absent test [] none = refl
cut_absent {K} {X} test (e ∷ es) none = by (test e.0) (cut_absent test es) none
  where
    by : (q : Bool) → (lookup test es ≡ None → filter (λ (e : K × X). not (test e.0)) es ≡ es) → cond q (Some e.1) (lookup test es) ≡ None
        → cond (not q) (e ∷ filter (λ (e : K × X). not (test e.0)) es) (filter (λ (e : K × X). not (test e.0)) es) ≡ e ∷ es
    by true rest none = absurd cc
    by false rest none = ap (λ (w : List (K × X)). e ∷ w) (rest none)

module _ {K V : Type 0} (ek : K → List ℕ) (ev : V → List ℕ) (l : Limits) where
  pub nothing_changed : (es : List (K × V)) (o : Operation K V) → ChangesNothing ek ev es o → after ek ev es o ≡ es
  nothing_changed es (op.Put k v) none = absurd none
  nothing_changed es (op.Get k) none = refl
  nothing_changed es (op.Remove k) none = cut_absent (is_at (key_cmp ek k)) es none
  nothing_changed es (op.PutIf k expected v) none = rw none refl

  -- a check
  pub can_probe : (front : List (Event K V)) (b old pass : ℕ) (p : Probe K V) → b < l.buckets → IsOfBucket ek l.buckets b (Some (probed p)) → 0 < pass → pass ≤ passes_of front
      → WasSeen ek l.buckets front b old → (IsTrue l.honest → ChangesNothing ek ev (contents front (name_of old)) (probed p))
      → CanAdd ek ev l front b old old (Done pass (probed p) None)
  can_probe front b old pass p here key first last seen same = can_check ek ev l front b old pass (probed p) here key first last seen (λ honest. nothing_changed (contents front (name_of old)) (probed p) (same honest))

  by_change : (front : List (Event K V)) (b old w pass : ℕ) (o : Option (Operation K V)) → b < l.buckets → IsOfBucket ek l.buckets b o → 0 < pass → pass ≤ passes_of front
      → IsPrepared ek ev l front b old w (contents front (name_of w))
      → (IsTrue l.honest → contents front (name_of w) ≡ changed ek ev (contents front (name_of old)) o)
      → CanAdd ek ev l front b old w (installing pass b w o)
  by_change front b old w pass (Some o) here key first last p same = can_done ek ev l front b old w pass o here key first last p same
  by_change front b old w pass None here key first last p same = can_move ek ev l front b old w here p same

  -- an install, told by what the pass and the name have seen
  pub can_change : (mine named front : List (Event K V)) (b old n place pass : ℕ) (o : Option (Operation K V))
      → IsLawful ek ev l front → IsPrefix mine front → IsPrefix named front
      → b < l.buckets → IsOfBucket ek l.buckets b o → place < 2 ^ 24 → 0 < pass → pass ≤ passes_of mine
      → WasSeen ek l.buckets mine b old → IsDrawn named n b → name_of old < n
      → (IsTrue l.honest → place ≡ empty_place → contents named n ≡ [])
      → (IsTrue l.honest → contents named n ≡ changed ek ev (contents mine (name_of old)) o)
      → CanAdd ek ev l front b old (pack n place) (installing pass b (pack n place) o)
  can_change mine named front b old n place pass o lawful pre pre_name here key small first last seen drawn newer none same =
      let n_is : name_of (pack n place) ≡ n = name_of-pack n place small in
      let p_is : place_of (pack n place) ≡ place = place_of-pack n place small in
      let named_lawful : IsLawful ek ev l named = lawful_prefix ek ev l named front lawful pre_name in
      let below = names_below ek ev l named named_lawful n b drawn in
      let naming_is : naming front n ≡ naming named n = naming_kept ek ev l named front n lawful pre_name below.1 in
      let old_is : contents front (name_of old) ≡ contents mine (name_of old) = seen_kept ek ev l mine front b old lawful pre seen in
      let contents_is : contents front (name_of (pack n place)) ≡ contents named n = ap (λ (x : ℕ). contents front x) n_is ∙ ap pairs_of naming_is in
      by_change front b old (pack n place) pass o here key first (omega (arith, last, passes_grow mine front pre))
      (record {
        seen = seen_later ek ev l mine front b old pre seen;
        drawn = subst (λ (x : ℕ). IsDrawn front x b) (sym n_is) (rw naming_is drawn);
        newer = omega (arith, n_is, newer);
        contents_are = refl;
        none = λ honest e. contents_is ∙ none honest (sym p_is ∙ e);
      })
      (λ honest. contents_is ∙ (same honest ∙ ap (λ (es : List (K × V)). changed ek ev es o) (sym old_is)))
