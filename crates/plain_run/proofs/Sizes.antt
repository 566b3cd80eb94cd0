-- How long objects are.
use Rattle.std.proofs.Common.{◌≡◌, ℕ, ◌*◌, ◌<◌, ◌≤◌, List, [], ◌∷◌, ◌++◌, length, arith, length-append}
use Rattle.std.specs.BTreeMap.{insert_entry}
use Rattle.std.specs.Ordering.{match_ordering}
use Rattle.std.specs.declared.cmp.Ordering.{Ordering}
use Rattle.std.specs.declared.cmp.Ordering.TheVariants.{Less, Equal, Greater}
use Rattle.far_object.specs.Encodings.{enc_text}
use Rattle.far_object.specs.Buckets.{key_cmp}
use Rattle.far_object.specs.Objects.{object_of, body_of}
use Rattle.run_lines.specs.Calls.{Texts}

-- each pair takes four bytes at least
long_body : (es : Texts) → 4 * length es ≤ length (body_of enc_text enc_text es)
long_body [] = omega arith
long_body (e ∷ es) =
    let a = length-append (enc_text e.0) (enc_text e.1 ++ body_of enc_text enc_text es) in
    let b = length-append (enc_text e.1) (body_of enc_text enc_text es) in
    omega (arith, long_body es)

long_insert : (cmp : List ℕ → List ℕ → Ordering) (es : Texts) (k v : List ℕ) → length es ≤ length (insert_entry cmp es k v)
long_insert cmp [] k v = omega arith
long_insert cmp (e ∷ es) k v = go (long_insert cmp es k v) (cmp k e.0)
  where
    go : length es ≤ length (insert_entry cmp es k v) → (o : Ordering) → length (e ∷ es) ≤ length (match_ordering o ((k, v) ∷ e ∷ es) ((e.0, v) ∷ es) (e ∷ insert_entry cmp es k v))
    go next Less = omega arith
    go next Equal = omega arith
    go next Greater = omega arith

-- an object of so many pairs is too long with any other in place
pub full : (limit count : ℕ) (es : Texts) (k v : List ℕ) → limit ≤ 1048576 → count ≡ length es → 1048576 ≤ count → limit < length (object_of enc_text enc_text (insert_entry (key_cmp enc_text) es k v))
full limit count es k v low is many =
    let a = long_insert (key_cmp enc_text) es k v in
    omega (arith, long_body (insert_entry (key_cmp enc_text) es k v))
