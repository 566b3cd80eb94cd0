-- What a removal on a condition tells.
use Rattle.std.specs.Prelude.{◌≡◌, ◌≢◌, ℕ, List, Option, Some, Result, Ok, Err, MatchBool}
use Rattle.table_core.specs.declared.operation.Operation.TheVariants as op
use Rattle.hash_table.specs.declared.removal.Removal.{Removal}
use Rattle.hash_table.specs.Changes.{removal_of}
use Rattle.far_map.specs.Views.{Call}

-- the call that it was: a removal where the value was the expected one, else a get; where it was refused, a removal
abbrev pub call_of : {V E : Type 0} → List ℕ → Result (Removal V) E → Call V
call_of k (Ok removal) = removal_of k removal.removed
call_of k (Err why) = op.Remove k

-- the value that it found
abbrev pub found_in : {V E : Type 0} → Result (Removal V) E → Result (Option V) E
found_in (Ok removal) = Ok removal.found
found_in (Err why) = Err why

-- it took the key out just where the value that it found was the expected one
abbrev pub IsMet : {V : Type 0} → V → Removal V → Type 0
IsMet expected removal = MatchBool removal.removed (removal.found ≡ Some expected) (removal.found ≢ Some expected)
