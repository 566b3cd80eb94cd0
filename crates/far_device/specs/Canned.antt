-- A device whose reads give the same bytes.
use Rattle.std.specs.Prelude.{ℕ, List}

pub record Canned (D : Type 0) : Type 0 where
  pub inner : D
  pub bytes : List ℕ
