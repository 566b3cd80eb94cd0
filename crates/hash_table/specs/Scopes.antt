-- What contracts see of a value that stays readable.
use Rattle.std.specs.Prelude.{◌≡◌, ℕ, List, Option, Some, None}
use Rattle.std.specs.declared.ops.Range.{Range}
use Rattle.far_object.specs.Objects.{IsValueAt}

pub record ScopeView (V : Type 0) : Type 0 where
  pub name : ℕ
  pub value : Option V

-- what a scope replies
abbrev pub shown : {V : Type 0} → Option (ScopeView V) → Option V
shown None = None
shown (Some s) = s.value

-- the bytes are the encoding of the value that there is
abbrev pub Encodes : {V : Type 0} → (V → List ℕ) → Option V → List ℕ → Type 0
Encodes {V} ev value bytes = (v : V) × (value ≡ Some v) × (bytes ≡ ev v)

-- the place is that of some key's value
abbrev pub IsShown : {K V : Type 0} → (K → List ℕ) → (V → List ℕ) → List (K × V) → Range ℕ → Type 0
IsShown {K} ek ev es r = (k : K) × IsValueAt ek ev k es r
