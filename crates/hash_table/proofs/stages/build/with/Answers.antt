use Rattle.std.proofs.Common.{ℕ, ◌<◌, List, [], ◌∷◌, length, arith}
use Rattle.std.specs.BTreeMap.{insert_entry}
use Rattle.std.specs.Ordering.{match_ordering}
use Rattle.std.specs.declared.cmp.Ordering.{Ordering}
use Rattle.std.specs.declared.cmp.Ordering.TheVariants.{Less, Equal, Greater}
use Rattle.far_object.specs.Buckets.{key_cmp}
use Rattle.hash_table.proofs.stages.build.with.Goals as goal

module _ {K V : Type 0} (ek : K → List ℕ) where
  some_inserted : (k : K) (v : V) (es : List (K × V)) → 0 < length (insert_entry (key_cmp ek) es k v)
  some_inserted k v [] = omega arith
  some_inserted k v (e ∷ es) = by (key_cmp ek k e.0)
    where
      by : (o : Ordering) → 0 < length (match_ordering o ((k, v) ∷ e ∷ es) ((e.0, v) ∷ es) (e ∷ insert_entry (key_cmp ek) es k v))
      by Less = omega arith
      by Equal = omega arith
      by Greater = omega arith

pub returns-clause-some : goal.returns-clause-some
returns-clause-some g c = rw c.in-Ok.ensures (some_inserted g.K.FarObject.enc c.args.entry.now.key c.args.value.now c.args.entry.now.pairs)

pub returns-then-count-ge-MOST_PAIRS-clause-why : goal.returns-then-count-ge-MOST_PAIRS-clause-why
returns-then-count-ge-MOST_PAIRS-clause-why g c =
    let count = c.count.ensures in
    let many = c.if-count-ge-MOST_PAIRS.true in
    let low = c.if-limit-gt-MOST_PAIRS.false in
    let long = c.full_objects_grow_too_long.ensures c.args.object.now c.args.entry.now.key c.args.value.now c.as_bytes-map.ensures.map.rising (omega (arith, count, many)) in
    (tt, omega (arith, low, long))
