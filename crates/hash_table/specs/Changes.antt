-- What is asked of a bucket, and what is made of its contents.
use Rattle.std.specs.Prelude.{◌≡◌, ℕ, ◌<◌, ◌≤◌, Bool, true, false, List, length, Option, Some, None, ⊤}
use Rattle.far_object.specs.Objects.{object_of}
use Rattle.table_core.specs.declared.operation.Operation.{Operation}
use Rattle.table_core.specs.declared.operation.Operation.TheVariants as op
use Rattle.table_core.specs.Maps.{value_at, is_met, after}
use Rattle.version_words.specs.Views.{ChangesNothing}

module _ {K V : Type 0} where
  -- an operation that may set its key
  abbrev pub Sets : Operation K V → Type 0
  Sets (op.Put k v) = ⊤
  Sets (op.Get k) = ⊥
  Sets (op.Remove k) = ⊥
  Sets (op.PutIf k expected v) = ⊤

  -- an operation that may leave its bucket
  abbrev pub MayLeave : Operation K V → Type 0
  MayLeave (op.Put k v) = ⊥
  MayLeave (op.Get k) = ⊤
  MayLeave (op.Remove k) = ⊤
  MayLeave (op.PutIf k expected v) = ⊤

  -- an operation that may change its bucket
  abbrev pub MayChange : Operation K V → Type 0
  MayChange (op.Put k v) = ⊤
  MayChange (op.Get k) = ⊥
  MayChange (op.Remove k) = ⊤
  MayChange (op.PutIf k expected v) = ⊤

  -- the call of a removal on a condition: a removal where it was met, and else a get
  abbrev pub removal_of : K → Bool → Operation K V
  removal_of k true = op.Remove k
  removal_of k false = op.Get k

  -- what an operation may make of an object: a new one, which has a pair where it may set its key, or none where it leaves the one that there is
  abbrev pub MayMake : Operation K V → Option (List (K × V)) → Type 0
  MayMake o None = MayLeave o
  MayMake o (Some made) = MayChange o × (Sets o → 0 < length made)

module _ {K V : Type 0} (ek : K → List ℕ) (ev : V → List ℕ) where
  -- what an operation leaves of contents: new ones where it may change them, and none where it leaves them as they are
  abbrev pub Leaves : List (K × V) → Operation K V → Option (List (K × V)) → Type 0
  Leaves es o None = ChangesNothing ek ev es o
  Leaves es o (Some made) = (made ≡ after ek ev es o) × (ChangesNothing ek ev es o → ⊥)

  -- the operation sets its key where these are the contents
  abbrev pub SetsIn : List (K × V) → Operation K V → Type 0
  SetsIn es (op.Put k v) = ⊤
  SetsIn es (op.Get k) = ⊥
  SetsIn es (op.Remove k) = ⊥
  SetsIn es (op.PutIf k expected v) = is_met ev expected (value_at ek k es) ≡ true

  -- it sets its key there, and the object that it makes is longer than the limit
  abbrev pub IsTooLongFor : ℕ → List (K × V) → Operation K V → Type 0
  IsTooLongFor limit es o = SetsIn es o × (limit < length (object_of ek ev (after ek ev es o)))

  -- an object that an operation made and that may set its key is no longer than the limit
  abbrev pub Fits : ℕ → Operation K V → Option (List (K × V)) → Type 0
  Fits limit o None = ⊤
  Fits limit o (Some made) = Sets o → length (object_of ek ev made) ≤ limit
