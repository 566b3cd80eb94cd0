-- Keys and values that are lent.
use Rattle.std.specs.Prelude.{Option, option_map}
use denote.Ref.{Bor}
use Rattle.table_core.specs.declared.operation.Operation.{Operation}
use Rattle.table_core.specs.declared.operation.Operation.TheVariants as op

-- the value that is lent, if one is
abbrev pub lent_value : {V : Type 0} → Option (Bor V) → Option V
lent_value o = option_map (λ r. r.now) o

module _ {K V : Type 0} where
  -- the operation whose key and values are lent
  abbrev pub lent : Operation (Bor K) (Bor V) → Operation K V
  lent (op.Put k v) = op.Put k.now v.now
  lent (op.Get k) = op.Get k.now
  lent (op.Remove k) = op.Remove k.now
  lent (op.PutIf k expected v) = op.PutIf k.now (lent_value expected) v.now
