-- What a request does with its session, and what it replies.
use Rattle.std.specs.Prelude.{◌≡◌, ◌⊎◌, ℕ, List, [], ◌∷◌, Some, None, MatchBool, MatchOption}
use Rattle.table_core.specs.declared.limits.Limits.{Limits}
use Rattle.version_words.specs.Views.{Goes}
use Rattle.resp.specs.Replies.{Token, Failure}
use Rattle.server_commands.specs.Replying.{AreReplies}
use Rattle.commands.specs.Arguments.{listed}
use Rattle.commands.specs.Commands.{Spells}
use Rattle.commands.specs.declared.command.Command.{Command}
use Rattle.commands.specs.declared.command.Command.TheVariants as command
use Rattle.commands.specs.declared.name.OfKeys.{OfKeys}
use Rattle.commands.specs.declared.name.OfKeys.TheVariants as keys
use Rattle.commands.specs.declared.server.ServerCommand.TheVariants as server
use Rattle.key_commands.specs.declared.key_command.KeyCommand.TheVariants as ask
use Rattle.key_commands.specs.Doing.{of_one_key}
use Rattle.far_server.specs.Sessions.{Session}
use Rattle.far_server.specs.Looks.{WasLookedAt}
use Rattle.far_server.specs.Reads.{IsUnread}
use Rattle.far_server.specs.Keyed.{IsKeyed}
use Rattle.far_server.specs.Many.{IsCountedEach, IsListedIfShort, IsSetEach}
use Rattle.far_server.specs.Flushes.{IsFlush}
use Rattle.far_server.specs.declared.settings.Bounds.{Bounds}
use Rattle.far_server.specs.declared.selection.Selection.{Selection}
use Rattle.far_server.specs.declared.selection.Selection.TheVariants as selection
use Rattle.far_server.specs.Selections.{keyspace_of, is_on_keys, selects, IsSelected, IsUnselected}
use Rattle.stored_keys.specs.declared.DigestKeys.{DigestKeys}
use Rattle.stored_keys.specs.declared.Keyspace.{Keyspace}

module _ (l : Limits) (keyspace : Keyspace) (now most limit : ℕ) where
  -- a command on these keys, whose reply is refused where it is longer than the limit
  abbrev pub IsOfKeys : OfKeys → List (List ℕ) → Session → Session → List Token → Type 0
  IsOfKeys keys.Del ks old new rs = (r : Token) × (rs ≡ r ∷ []) × IsCountedEach l keyspace now most ask.Delete ks old new r
  IsOfKeys keys.Unlink ks old new rs = (r : Token) × (rs ≡ r ∷ []) × IsCountedEach l keyspace now most ask.Delete ks old new r
  IsOfKeys keys.Exists ks old new rs = (r : Token) × (rs ≡ r ∷ []) × IsCountedEach l keyspace now most ask.Exists ks old new r
  IsOfKeys keys.Touch ks old new rs = (r : Token) × (rs ≡ r ∷ []) × IsCountedEach l keyspace now most ask.Exists ks old new r
  IsOfKeys keys.MGet ks old new rs = IsListedIfShort l keyspace now most ask.Get limit ks old new rs

  -- A command on several keys, or on none: one that asks for no key makes no call of the map.
  abbrev pub IsOther : Command → Session → Session → List Token → Type 0
  IsOther (command.Keys of arguments) old new rs = IsOfKeys of (listed arguments) old new rs
  IsOther (command.SetMany pairs) old new rs = (r : Token) × (rs ≡ r ∷ []) × IsSetEach l keyspace now most (listed pairs) old new r
  IsOther (command.Server server.FlushAll) old new rs = IsFlush l None old new rs
  IsOther (command.Server server.FlushDb) old new rs = IsFlush l (Some keyspace.database) old new rs
  IsOther c old new rs = Goes old.pass new.pass

  -- a command was run in this keyspace, and these are its replies: one, or an array with what is in it
  abbrev pub IsRunAs : Command → Session → Session → List Token → Type 0
  IsRunAs c old new rs = MatchOption (of_one_key c) (IsOther c old new rs) (λ p. (r : Token) × (rs ≡ r ∷ []) × IsKeyed l keyspace p.0.now p.1 now most old new r)

module _ (l : Limits) (digest : DigestKeys) where
  -- A command that is no SELECT was run in the database that is selected. Where none is, since a SELECT was refused, a command on keys makes no
  -- call, and another one does the same in any database.
  abbrev pub IsRunBy : ℕ → ℕ → ℕ → Command → Selection → Session → Session → List Token → Type 0
  IsRunBy now most limit c (selection.Database d) old new rs = IsRunAs l (keyspace_of digest d) now most limit c old new rs
  IsRunBy now most limit c (selection.Refused n) old new rs = MatchBool (is_on_keys c) ((old ≡ new) × IsUnselected n rs) (IsRunAs l (keyspace_of digest 0) now most limit c old new rs)

  -- Any command was run. Only SELECT changes what is selected, and it makes no call.
  abbrev pub IsRunFrom : Bounds → ℕ → ℕ → Command → Selection → Selection → Session → Session → List Token → Type 0
  IsRunFrom b limit now c before after old new rs = MatchOption (selects c)
      ((after ≡ before) × IsRunBy now b.longest_value limit c before old new rs)
      (λ index. (old ≡ new) × IsSelected b.last_database index.now after rs)

-- a request that can't be read touched no session, and the reply is an error
abbrev pub IsFailure : List (List ℕ) → Session → Session → List Token → Type 0
IsFailure arguments old new rs = (old ≡ new) × IsUnread arguments × ((text : List ℕ) × (rs ≡ Failure text ∷ []))

-- A request of these arguments has exactly one reply. It was run at a time at which the clock was looked at, as the command that they spell, in the
-- database that is selected, or it can't be read.
abbrev pub IsRequest : Limits → DigestKeys → Bounds → ℕ → Selection → Selection → List (List ℕ) → Session → Session → List Token → Type 0
IsRequest l digest b limit before after arguments old new rs =
    AreReplies 1 rs × ((now : ℕ) × WasLookedAt now × (((c : Command) × Spells now arguments c × IsRunFrom l digest b limit now c before after old new rs)
    ⊎ ((after ≡ before) × IsFailure arguments old new rs)))
