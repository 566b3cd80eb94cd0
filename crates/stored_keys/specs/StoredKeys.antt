-- The key of the map under which a client's key is stored.
use Rattle.std.specs.Prelude.{ℕ, ◌-◌, List, [], ◌∷◌, ◌++◌, length, take, Option}
use Rattle.std.specs.Int.{w64, to_be_bytes, to_le_bytes}
use Rattle.std.specs.List.{slice_get}
use Rattle.std.specs.Hash.DefaultHasher as sip
use Rattle.stored_keys.specs.declared.DigestKeys.{DigestKeys}
use Rattle.stored_keys.specs.declared.Keyspace.{Keyspace}

-- SipHash-1-3 over the digest keys and then the bytes
abbrev pub digest : DigestKeys → List ℕ → ℕ
digest keys bytes = sip.finish (sip.write (sip.write (sip.write sip.initial (to_le_bytes w64 keys.first)) (to_le_bytes w64 keys.second)) bytes)

-- the six highest bytes of it, the highest first
abbrev pub digest_bytes : DigestKeys → List ℕ → List ℕ
digest_bytes keys bytes = take 6 (to_be_bytes w64 (digest keys bytes))

-- the key, and behind it the number of its database
abbrev pub with_database : ℕ → List ℕ → List ℕ
with_database database key = key ++ database ∷ []

-- both, and behind them their digest
abbrev pub stored_key : Keyspace → List ℕ → List ℕ
stored_key keyspace key = with_database keyspace.database key ++ digest_bytes keyspace.digest_keys (with_database keyspace.database key)

-- what stands before the number of a database and a digest
abbrev pub client_key : List ℕ → List ℕ
client_key stored = take (length stored - 7) stored

-- the number of the database, which stands before the digest
abbrev pub database_of : List ℕ → Option ℕ
database_of stored = slice_get stored (length stored - 7)

-- the most bytes of a client's key
abbrev pub longest_key : ℕ
longest_key = 65528
