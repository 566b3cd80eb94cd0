-- The digest of bytes, and what a read appends.
use Rattle.std.specs.Prelude.{◌≡◌, ℕ, List, ◌++◌, length}
use Rattle.std.specs.Hash.DefaultHasher.{write, finish}
use Rattle.std.specs.RandomState.{initial_hasher}
use Rattle.std.specs.declared.random_state.RandomState.{RandomState}

-- SipHash-1-3 of the bytes with these keys
abbrev pub digest_under : RandomState → List ℕ → ℕ
digest_under keys bytes = finish (write (initial_hasher keys) bytes)

-- after is before with bytes at its end that have this length and this digest
pub record GivesAs (keys : RandomState) (len digest : ℕ) (before after : List ℕ) : Type 0 where
  pub given : List ℕ
  pub appended : after ≡ before ++ given
  pub as_long : length given ≡ len
  pub alike : digest_under keys given ≡ digest

-- after is before with bytes at its end that have the length and the digest of what was written
abbrev pub GivesAlike : RandomState → List ℕ → List ℕ → List ℕ → Type 0
GivesAlike keys written before after = GivesAs keys (length written) (digest_under keys written) before after
