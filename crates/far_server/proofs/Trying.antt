-- Tries of a command on a key.
use Rattle.std.proofs.Common.{ℕ, Bool, true, false, List, Option, Result, Ok, Err, refl, inl, inr}
use Rattle.table_core.specs.declared.limits.Limits.{Limits}
use Rattle.table_core.specs.declared.operation.Operation.TheVariants as op
use Rattle.version_words.specs.Views.{Goes}
use Rattle.resp.specs.Replies.{Token, token}
use Rattle.key_commands.specs.declared.key_command.KeyCommand.{KeyCommand}
use Rattle.key_commands.specs.declared.key_command.Effect.{Effect}
use Rattle.key_commands.specs.Doing.{Does}
use Rattle.far_map.specs.declared.refusal.MapRefusal.{MapRefusal}
use Rattle.far_server.specs.Sessions.{Session, Called}
use Rattle.far_server.specs.Keyed.{IsIdle, Idles, IsSettled, IsTried, IsOnStored, IsKeyed}
use Rattle.far_server.proofs.Going.{one_more, one_step, both}
use Rattle.hash_table.proofs.Fronts.{goes_trans}
use Rattle.stored_keys.specs.declared.Keyspace.{Keyspace}
use Rattle.stored_keys.specs.StoredKeys.{stored_key}

module _ (l : Limits) (k : List ℕ) where
  pub got : (a b : Session) (found : Option (List ℕ)) → Called l a b (op.Get k) (Ok found) → IsIdle l k a b
  got a b found called = inl (record { call = op.Get k; answer = Ok found; called = called; idle = refl })

  pub one_get : (a b : Session) (found : Option (List ℕ)) → Called l a b (op.Get k) (Ok found) → Idles l k a b
  one_get a b found called = one_step (IsIdle l k) a b (got a b found called)

  -- it went on without a call first
  pub went : (a b : Session) → Goes a.pass b.pass → Idles l k a b
  went a b goes = one_step (IsIdle l k) a b (inr goes)

  pub stored_after : (command : KeyCommand) (now most : ℕ) (a b c : Session) (r : Token) → Goes a.pass b.pass → IsOnStored l k command now most b c r → IsOnStored l k command now most a c r
  stored_after command now most a b c r goes done = (done.0, both (IsIdle l k) a b done.0 (went a b goes) done.1, done.2)

  -- a value was got, and the change of it settled
  pub tried : (command : KeyCommand) (now most : ℕ) (a b c : Session) (found : Option (List ℕ)) (effect : Effect) (bytes : List ℕ) (r : Token) (result : Result Bool MapRefusal)
      → Called l a b (op.Get k) (Ok found) → Does command now most found r effect bytes → IsSettled l k found effect bytes b c result → IsTried l k command now most a c (token r) result
  tried command now most a b c found effect bytes r (Ok true) called does settled =
      (r, refl, record { found = found; effect = effect; bytes = bytes; does = does; makes = inl (b, called, settled) })
  tried command now most a b c found effect bytes r (Ok false) called does settled = one_more (IsIdle l k) a b c (one_get a b found called) settled
  tried command now most a b c found effect bytes r (Err why) called does settled = (b, one_get a b found called, settled)

pub keyed_after : (l : Limits) (keyspace : Keyspace) (k : List ℕ) (command : KeyCommand) (now most : ℕ) (a b c : Session) (r : Token)
    → Goes a.pass b.pass → IsKeyed l keyspace k command now most b c r → IsKeyed l keyspace k command now most a c r
keyed_after l keyspace k command now most a b c r goes (inl p) = inl (p.0, stored_after l (stored_key keyspace k) command now most a b c r goes p.1)
keyed_after l keyspace k command now most a b c r goes (inr p) = inr (p.0, goes_trans goes p.1, p.2)
