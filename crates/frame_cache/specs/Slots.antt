-- What a frame's slot shows, and what is told of a version without its object.
use Rattle.std.specs.Prelude.{◌≡◌, ◌<◌, ◌^◌, ℕ, List, [], length, get_or, Option, Some, None, ⊤}
use Rattle.table_core.specs.declared.limits.Limits.{Limits}
use Rattle.version_words.specs.Shown.{Shown, shown, IsOwn}

-- the most frames that there may be
abbrev pub most_frames : ℕ
most_frames = 2 ^ 22

-- a slot shows a version
abbrev pub IsFilled : {K V : Type 0} → Option (Option (Shown K V)) → Type 0
IsFilled (Some (Some v)) = ⊤
IsFilled (Some None) = ⊥
IsFilled None = ⊥

-- the version that a slot shows, or an empty one
abbrev pub shown_in : {K V : Type 0} → Option (Option (Shown K V)) → Shown K V
shown_in (Some (Some v)) = v
shown_in (Some None) = shown [] 0 0 []
shown_in None = shown [] 0 0 []

-- the number of each slot, which is its tag, is its place in the row
abbrev pub AreNumbered : List ℕ → Type 0
AreNumbered slots = (i d : ℕ) → i < length slots → get_or slots i d ≡ i

module _ {K V : Type 0} (ek : K → List ℕ) (ev : V → List ℕ) (l : Limits) where
  -- the bucket b and the name n are those of a version that is the object of its naming
  pub record IsOfVersion (b n : ℕ) : Type 0 where
    pub version : Shown K V
    pub own : IsOwn ek ev l version
    pub bucket : version.bucket ≡ b
    pub name : version.name ≡ n

  -- the pairs are those of such a version
  pub record IsObjectOf (b n : ℕ) (es : List (K × V)) : Type 0 where
    pub version : Shown K V
    pub own : IsOwn ek ev l version
    pub object : es ≡ version.object
    pub bucket : version.bucket ≡ b
    pub name : version.name ≡ n
