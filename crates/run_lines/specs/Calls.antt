-- The calls of a run, and what commands ask of the map.
use Rattle.std.specs.Prelude.{ℕ, ◌<◌, ◌==◌, Bool, true, false, IsTrue, List, length, map, Some, None}
use Rattle.std.specs.List.{filter}
use Rattle.far_object.specs.Encodings.{enc_text}
use Rattle.far_object.specs.Buckets.{bucket}
use Rattle.far_object.specs.Objects.{object_of}
use Rattle.table_core.specs.declared.operation.Operation.{Operation}
use Rattle.table_core.specs.declared.operation.Operation.TheVariants as op
use Rattle.table_core.specs.Maps.{key_of, value_at, at_bucket, is_met, after}
use Rattle.command_file.specs.declared.command.MapCommand.{MapCommand}
use Rattle.command_file.specs.declared.command.MapCommand.TheVariants as command

-- texts are lists of bytes
abbrev pub Texts : Type 0
Texts = List (List ℕ × List ℕ)

-- an operation on texts
abbrev pub Asked : Type 0
Asked = Operation (List ℕ) (List ℕ)

-- the pass that called, and the operation
abbrev pub Call : Type 0
Call = ℕ × Operation (List ℕ) (List ℕ)

-- the operations that a pass called
abbrev pub calls_by : ℕ → List Call → List Asked
calls_by p calls = map (λ call. call.1) (filter (λ call. call.0 == p) calls)

-- ---- what a command asks of the map

abbrev pub operation_of : MapCommand → Asked
operation_of (command.Put key value) = op.Put key value
operation_of (command.Get key) = op.Get key
operation_of (command.Delete key) = op.Remove key
operation_of (command.PutIf key expected value) = op.PutIf key (Some expected) value
operation_of (command.PutNew key value) = op.PutIf key None value
operation_of (command.Hold key) = op.Get key

-- whether the operation sets its key
abbrev pub sets : Texts → Asked → Bool
sets m (op.Put k v) = true
sets m (op.Get k) = false
sets m (op.Remove k) = false
sets m (op.PutIf k expected v) = is_met enc_text expected (value_at enc_text k m)

-- the object of the operation's bucket, after it, would be longer than the limit
pub record IsTooLong (buckets limit : ℕ) (m : Texts) (o : Asked) : Type 0 where
  pub sets : IsTrue (sets m o)
  pub longer : limit < length (object_of enc_text enc_text (at_bucket enc_text buckets (bucket enc_text buckets (key_of o)) (after enc_text enc_text m o)))
