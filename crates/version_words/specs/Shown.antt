-- What contracts see of a version: the object of a bucket under one name, wherever it lies.
use Rattle.std.specs.Prelude.{ℕ, List, ◌≡◌, ◌<◌}
use Rattle.table_core.specs.declared.event.Event.{Event}
use Rattle.table_core.specs.declared.limits.Limits.{Limits}
use Rattle.table_core.specs.Logs.{contents}
use Rattle.table_core.specs.Lawful.{IsDrawn, IsLawful}

-- a version: its pairs, its bucket and its name, and the log in which the name was drawn
pub record Shown (K V : Type 0) : Type 0 where
  pub object : List (K × V)
  pub bucket : ℕ
  pub name : ℕ
  pub mark : List (Event K V)

module _ {K V : Type 0} where
  abbrev pub shown : List (K × V) → ℕ → ℕ → List (Event K V) → Shown K V
  shown es b n log = record { object = es; bucket = b; name = n; mark = log }

module _ {K V : Type 0} (ek : K → List ℕ) (ev : V → List ℕ) (l : Limits) where
  -- the name was drawn for the bucket, in a lawful log, and the version is what it was drawn for
  pub record IsOwn (v : Shown K V) : Type 0 where
    pub drawn : IsDrawn v.mark v.name v.bucket
    pub here : v.bucket < l.buckets
    pub same : contents v.mark v.name ≡ v.object
    pub lawful : IsLawful ek ev l v.mark
