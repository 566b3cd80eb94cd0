-- What the opening of the files tells.
use Rattle.std.specs.Prelude.{◌≡◌, ◌≢◌, ℕ, zero, suc, ◌+◌, List, [], ◌∷◌, ◌++◌, length, codes, Option}
use Rattle.streams.specs.Streams.{rest_of}
use Rattle.far_driver.specs.declared.fault.RunFault.TheVariants as fault
use Rattle.far_driver.specs.declared.status.ProgramFault.{ProgramFault}
use Rattle.far_driver.specs.declared.status.ProgramFault.TheVariants as program

-- all bytes of so many files: the first file is the stream with the number 1
abbrev pub unread : ℕ → List (Option (List ℕ))
unread zero = []
unread (suc n) = unread n ++ rest_of (suc n) 0 ∷ []

-- the system did not open a file of this name. It is opaque: only `open_source` tells it, and the lemma below is for its proof alone
pub WasNotOpened : List ℕ → Type 0
WasNotOpened name = Unit {0}

pub was_not_opened : (name : List ℕ) → WasNotOpened name
unfolding WasNotOpened
was_not_opened name = tt

-- a name that is not standard input's, of which no file was opened
abbrev pub IsUnopened : List ℕ → Type 0
IsUnopened name = (name ≢ codes "-") × WasNotOpened name

-- the name of this number, counted from 1, is such a one
pub record IsUnopenedAt (names : List (List ℕ)) (number : ℕ) : Type 0 where
  pub before : List (List ℕ)
  pub name : List ℕ
  pub behind : List (List ℕ)
  pub are : names ≡ before ++ name ∷ behind
  pub counted : number ≡ length before + 1
  pub unopened : IsUnopened name

-- why not all sources of these names are open: one can't be opened, or want of memory
abbrev pub IsSourceFault : List (List ℕ) → ProgramFault → Type 0
IsSourceFault names (program.CannotOpen number) = IsUnopenedAt names number
IsSourceFault names (program.Run f) = f ≡ fault.Memory
IsSourceFault names program.Usage = ⊥
