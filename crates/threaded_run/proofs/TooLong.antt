-- An operation is too long for its bucket's pairs just where it is for the map.
use Rattle.std.proofs.Common.{◌≡◌, ℕ, ◌<◌, IsTrue, List, length, Option, refl, ap, sym, ◌∙◌, subst}
use Rattle.far_object.specs.Encodings.{enc_text}
use Rattle.far_object.specs.Buckets.{bucket}
use Rattle.far_object.specs.Objects.{object_of}
use Rattle.table_core.specs.declared.operation.Operation.TheVariants as op
use Rattle.table_core.specs.Maps.{key_of, at_bucket, is_met, after, map_of}
use Rattle.table_core.proofs.Maps.{value_here, after_here}
use Rattle.table_core.proofs.Keys.{rising}
use Rattle.hash_table.specs.Changes.{SetsIn, IsTooLongFor}
use Rattle.run_lines.specs.Calls.{Texts, Asked, Call, sets, IsTooLong}

module _ (buckets limit : ℕ) (calls : List Call) where
  abbrev pub contents : Texts
  contents = map_of enc_text enc_text calls

  -- the pairs of the operation's bucket
  abbrev pub there : Asked → Texts
  there o = at_bucket enc_text buckets (bucket enc_text buckets (key_of o)) contents

  sets_in : (o : Asked) → SetsIn enc_text enc_text (there o) o → IsTrue (sets contents o)
  sets_in (op.Put k v) h = refl
  sets_in (op.Get k) h = absurd h
  sets_in (op.Remove k) h = absurd h
  sets_in (op.PutIf k expected v) h = ap (λ (x : Option (List ℕ)). is_met enc_text expected x) (sym (value_here enc_text buckets (bucket enc_text buckets k) k contents refl)) ∙ h

  sets_there : (o : Asked) → IsTrue (sets contents o) → SetsIn enc_text enc_text (there o) o
  sets_there (op.Put k v) h = tt
  sets_there (op.Get k) h = absurd cc
  sets_there (op.Remove k) h = absurd cc
  sets_there (op.PutIf k expected v) h = ap (λ (x : Option (List ℕ)). is_met enc_text expected x) (value_here enc_text buckets (bucket enc_text buckets k) k contents refl) ∙ h

  same_object : (o : Asked) → length (object_of enc_text enc_text (after enc_text enc_text (there o) o)) ≡ length (object_of enc_text enc_text (at_bucket enc_text buckets (bucket enc_text buckets (key_of o)) (after enc_text enc_text contents o)))
  same_object o = ap (λ (es : Texts). length (object_of enc_text enc_text es)) (after_here enc_text enc_text buckets (bucket enc_text buckets (key_of o)) o contents refl (rising enc_text enc_text calls))

  pub too_long_in : (o : Asked) → IsTooLongFor enc_text enc_text limit (there o) o → IsTooLong buckets limit contents o
  too_long_in o h = record { sets = sets_in o h.0; longer = subst (λ (n : ℕ). limit < n) (same_object o) h.1 }

  pub too_long_there : (o : Asked) → IsTooLong buckets limit contents o → IsTooLongFor enc_text enc_text limit (there o) o
  too_long_there o h = (sets_there o h.sets, subst (λ (n : ℕ). limit < n) (sym (same_object o)) h.longer)
