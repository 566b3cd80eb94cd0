-- Removals on a condition.
use Rattle.std.proofs.Common.{◌≡◌, ◌≢◌, ℕ, Bool, true, false, List, Option, Some, None, ap, sym, ◌∙◌, subst}
use Rattle.std.specs.Prelude.{MatchBool, IfSome}
use Rattle.std.specs.Ordering.{eq_by_cmp}
use Rattle.std.specs.Cmp.{eq_by_cmp_equiv}
use Rattle.std.proofs.lemmas.Map.Lookups.{exact_bytes}
use Rattle.std.proofs.lemmas.Map.Views.{tells_apart}
use Rattle.far_object.specs.Encodings.{enc_text}
use Rattle.far_object.specs.Buckets.{bucket, key_cmp}
use Rattle.far_object.specs.Laws.{AreDistinct}
use Rattle.far_object.proofs.Rising.{total}
use Rattle.table_core.specs.declared.limits.Limits.{Limits}
use Rattle.table_core.specs.declared.operation.Operation.TheVariants as op
use Rattle.table_core.specs.Maps.{is_met}
use Rattle.version_words.specs.Views.{SpareView}
use Rattle.hash_table.specs.Calls.{IsFinished}
use Rattle.hash_table.specs.Changes.{removal_of}
use Rattle.hash_table.specs.Steps.{IsInstalledLater}
use Rattle.far_map.specs.Views.{View}
use Rattle.far_map.specs.Answers.{IsMade}
use Rattle.far_map.proofs.Trying.{change_made}

module _ {V : Type 0} (ev : V → List ℕ) (l : Limits) (limit : ℕ) where
  -- a removal on a condition that was finished, as which call it was
  pub removal_made : (frames : ℕ) (before after : List (SpareView (List ℕ) V)) (old new : View V) (k : List ℕ) (removed : Bool) (found : Option V) → IsFinished enc_text ev l old (removal_of k removed) found new
      → IsInstalledLater enc_text ev l limit frames (bucket enc_text l.buckets k) (removal_of k removed) old before new after → IsMade ev l limit old new (removal_of k removed) found
  removal_made frames before after old new k true found h later = change_made ev l limit frames before after old new (op.Remove k) found h later
  removal_made frames before after old new k false found h later = change_made ev l limit frames before after old new (op.Get k) found h later

-- ---- whether the value is the expected one

module _ {V : Type 0} (ev : V → List ℕ) (A : V → Type 0) (distinct : AreDistinct ev A) where
  -- values whose encodings compare as equal are the same, and no others
  pub alike : (x y : V) (b : Bool) → A x → A y → b ≡ eq_by_cmp (key_cmp ev) x y → MatchBool b (y ≡ x) (y ≢ x)
  alike x y true of_x of_y is = sym (distinct x y of_x of_y (tells_apart exact_bytes (ev x) (ev y) (sym is)))
  alike x y false of_x of_y is = λ same. let itself : eq_by_cmp (key_cmp ev) y y ≡ true = (eq_by_cmp_equiv (total ev)).refl y in cc (sym itself ∙ (ap (λ (z : V). eq_by_cmp (key_cmp ev) z y) same ∙ sym is))

  pub met : (expected : V) (found : Option V) (removed : Bool) → A expected → IfSome found A → removed ≡ is_met ev (Some expected) found → MatchBool removed (found ≡ Some expected) (found ≢ Some expected)
  met expected None removed of_expected of_found is = subst (λ (b : Bool). MatchBool b (None ≡ Some expected) (None ≢ Some expected)) (sym is) (λ e. cc e)
  met expected (Some v) removed of_expected of_found is = go removed (alike expected v removed of_expected of_found is)
    where
      go : (b : Bool) → MatchBool b (v ≡ expected) (v ≢ expected) → MatchBool b (Some v ≡ Some expected) (Some v ≢ Some expected)
      go true same = ap Some same
      go false other = λ e. other (cc e)
