-- What an answer to a request says of its connection and its session.
use Rattle.std.specs.Prelude.{◌≡◌, ◌⊎◌, ℕ, ◌-◌, ◌<◌, ◌≤◌, Bool, true, false, List, [], ◌∷◌, ◌++◌, length, replicate, codes, Option, Some, None, unwrap_or, option_map, MatchBool}
use Rattle.std.specs.Ordering.{nat_cmp}
use Rattle.std.specs.Map.{lookup}
use Rattle.std.specs.BTreeMap.{is_at}
use Rattle.std.specs.List.{flat_map}
use Rattle.table_core.specs.declared.limits.Limits.{Limits}
use Rattle.resp.specs.Replies.{Token, Simple, Count, Failure, token}
use Rattle.server_commands.specs.Replying.{AreReplies}
use Rattle.commands.specs.declared.command.Command.{Command}
use Rattle.commands.specs.declared.command.Command.TheVariants as command
use Rattle.commands.specs.declared.name.OfNothing.TheVariants as nothing
use Rattle.commands.specs.declared.server.ServerCommand.TheVariants as server
use Rattle.request_loop.specs.declared.service.Next.{Next}
use Rattle.request_loop.specs.declared.service.Next.TheVariants as behind
use Rattle.far_server.specs.declared.connection.Connection.{Connection}
use Rattle.far_server.specs.declared.settings.Bounds.{Bounds}
use Rattle.far_server.specs.Sessions.{Session}
use Rattle.far_server.specs.declared.selection.Selection.{Selection}
use Rattle.far_server.specs.Selections.{first_selected}
use Rattle.far_server.specs.Transactions.{Waiting, waits_in, IsBegun, IsDropped, IsHeld}
use Rattle.far_server.specs.Logins.{HasLogin, IsModest, Exceeds, no_login, IsAuthReply, IsHelloReply}
use Rattle.far_map.specs.declared.refusal.MapRefusal.TheVariants as refusal
use Rattle.far_server.specs.Bounds.{longest, too_large}
use Rattle.far_server.specs.Refusing.{text_of}
use Rattle.far_server.specs.Reads.{IsUnread, IsSpelled}
use Rattle.far_server.specs.Runs.{IsRequest}
use Rattle.stored_keys.specs.declared.DigestKeys.{DigestKeys}

-- what is known of a connection: whether it may ask, which database it has selected, and what waits for EXEC after a MULTI
pub record Known : Type 0 where
  pub is_authenticated : Bool
  pub selected : Selection
  pub waits : Option Waiting

abbrev pub known : Connection → Known
known c = record { is_authenticated = c.is_authenticated; selected = c.selected; waits = waits_in c.queue }

-- What is done with a connection that might ask, or not, and may now, or not. One that is let in may ask. One that may ask no more is let
-- out, or it ends.
abbrev pub IsAdmission : Bool → Bool → Next → Type 0
IsAdmission might may next = (next ≡ behind.LetIn → may ≡ true) × (might ≡ true → may ≡ false → (next ≡ behind.LetOut) ⊎ (next ≡ behind.End))

-- what is known of a new connection, which may ask just where no password is set, and has selected database 0
abbrev pub is_free : Option (List ℕ) → Bool
is_free None = true
is_free (Some digest) = false

abbrev pub new_known : Bool → Known
new_known is_authenticated = record { is_authenticated = is_authenticated; selected = first_selected; waits = None }

-- what is known of the connection of this number, where these have a place, and otherwise e
abbrev pub known_at : List (ℕ × Connection) → ℕ → Known → Known
known_at places c e = unwrap_or (option_map known (lookup (is_at (nat_cmp c)) places)) e

abbrev pub unknown : Option (List ℕ) → Known
unknown password = new_known (is_free password)

abbrev pub no_multi_before_exec : List ℕ
no_multi_before_exec = codes "ERR EXEC without MULTI"

abbrev pub exec_abort : List ℕ
exec_abort = codes "EXECABORT Transaction discarded because of previous errors."

module _ (l : Limits) (digest : DigestKeys) (b : Bounds) where
  -- A request was run where the limit had room for the longest value. The selections are those before and after it.
  pub record IsRunWithin (limit : ℕ) (request : List (List ℕ)) (before after : Selection) (old new : Session) (rs : List Token) : Type 0 where
    pub fits : longest b.longest_value ≤ limit
    pub ran : IsRequest l digest b limit before after request old new rs

  -- None of so many requests was run, since the limit had no room for the longest value: each is answered by the error.
  pub record AreRefused (limit count : ℕ) (old new : Session) (rs : List Token) : Type 0 where
    pub passes : limit < longest b.longest_value
    pub untouched : old ≡ new
    pub reply : rs ≡ replicate count (Failure too_large)

  -- None of so many requests was run, since the system refused memory for a short reply: each is answered by that error.
  pub record AreWithoutMemory (count : ℕ) (old new : Session) (rs : List Token) : Type 0 where
    pub untouched : old ≡ new
    pub reply : rs ≡ replicate count (Failure (text_of refusal.Memory))

  -- Requests were run one after another within a limit for all replies, which are these; from the first on for which it had no room, or
  -- there was no memory, none was. A SELECT among them holds from its place on.
  abbrev pub AreExecuted : ℕ → List (List (List ℕ)) → List Token → Selection → Selection → Session → Session → Type 0
  AreExecuted limit [] rs before after old new = (after ≡ before) × (old ≡ new) × (rs ≡ [])
  AreExecuted limit (request ∷ requests) rs before after old new =
      ((mid : Session) × (selected : Selection) × (first rest : List Token) × IsRunWithin limit request before selected old mid first
      × AreExecuted (limit - length (flat_map token first)) requests rest selected after mid new × (rs ≡ first ++ rest))
      ⊎ ((after ≡ before) × (AreRefused limit (length (request ∷ requests)) old new rs ⊎ AreWithoutMemory (length (request ∷ requests)) old new rs))

  -- an array of the replies to requests
  abbrev pub AreExecutedEach : List (List (List ℕ)) → List Token → Selection → Selection → Session → Session → Type 0
  AreExecutedEach requests each before after old new = AreExecuted (b.longest_reply - length (token (Count (length requests)))) requests each before after old new

  -- EXEC of requests that wait: they were run, in order, as far as the reply had room for their replies, or memory was refused.
  abbrev pub IsRunEach : List (List (List ℕ)) → Selection → Selection → Session → Session → List Token → Type 0
  IsRunEach requests before after old new rs = ((each : List Token) × AreExecutedEach requests each before after old new × (rs ≡ Count (length requests) ∷ each))
      ⊎ ((after ≡ before) × (old ≡ new) × (rs ≡ Failure (text_of refusal.Memory) ∷ []))

  -- EXEC, after which nothing waits. It is an error without a MULTI, and if a request was refused. Then no call is made, and what is selected stays.
  abbrev pub IsExecuted : Option Waiting → Option Waiting → Selection → Selection → Session → Session → List Token → Type 0
  IsExecuted None waits_after before after old new rs = (waits_after ≡ None) × (after ≡ before) × (old ≡ new) × (rs ≡ Failure no_multi_before_exec ∷ [])
  IsExecuted (Some waits) waits_after before after old new rs = (waits_after ≡ None)
      × MatchBool waits.is_spoilt ((after ≡ before) × (old ≡ new) × (rs ≡ Failure exec_abort ∷ [])) (IsRunEach waits.requests before after old new rs)

  -- a request is run at once in the database that is selected, or waits for EXEC after a MULTI
  abbrev pub IsRunOrHeldBy : Option Waiting → Option Waiting → Selection → Selection → List (List ℕ) → Session → Session → List Token → Type 0
  IsRunOrHeldBy None waits_after before after arguments old new rs = (waits_after ≡ None) × IsRequest l digest b b.longest_reply before after arguments old new rs
  IsRunOrHeldBy (Some waits) waits_after before after arguments old new rs = (after ≡ before) × (old ≡ new) × ((held : Waiting) × (waits_after ≡ Some held) × IsHeld waits held arguments rs)

  abbrev pub IsRunOrHeld : Known → Known → List (List ℕ) → Session → Session → List Token → Type 0
  IsRunOrHeld before after arguments old new rs = IsRunOrHeldBy before.waits after.waits before.selected after.selected arguments old new rs

  module _ (password : Option (List ℕ)) where
    -- what became of a request that spells this command, of a connection that may ask, and that may go on asking, except after RESET
    abbrev pub IsServedAs : Command → Known → Known → List (List ℕ) → Session → Session → List Token → Type 0
    IsServedAs command.Quit before after arguments old new rs = (after ≡ before) × (old ≡ new) × (rs ≡ Simple (codes "OK") ∷ [])
    IsServedAs (command.Nothing nothing.Reset) before after arguments old new rs = (after ≡ unknown password) × (old ≡ new) × (rs ≡ Simple (codes "RESET") ∷ [])
    IsServedAs (command.Nothing nothing.Multi) before after arguments old new rs = (after.is_authenticated ≡ true) × (after.selected ≡ before.selected) × (old ≡ new) × IsBegun before.waits after.waits rs
    IsServedAs (command.Nothing nothing.Discard) before after arguments old new rs = (after.is_authenticated ≡ true) × (after.selected ≡ before.selected) × (old ≡ new) × IsDropped before.waits after.waits rs
    IsServedAs (command.Nothing nothing.Exec) before after arguments old new rs = (after.is_authenticated ≡ true) × IsExecuted before.waits after.waits before.selected after.selected old new rs
    IsServedAs c before after arguments old new rs = (after.is_authenticated ≡ true) × IsRunOrHeld before after arguments old new rs

    -- the same of any request
    abbrev pub IsServed : Known → Known → List (List ℕ) → Session → Session → List Token → Type 0
    IsServed before after arguments old new rs = ((c : Command) × IsSpelled arguments c × IsServedAs c before after arguments old new rs)
        ⊎ (IsUnread arguments × (after.is_authenticated ≡ true) × IsRunOrHeld before after arguments old new rs)

-- What became of a request of this command, of a connection that may not ask: AUTH and HELLO may let it ask, and the others are refused.
abbrev pub IsGatedAs : Option (List ℕ) → Command → Known → Known → List Token → Type 0
IsGatedAs password command.Quit before after rs = (after ≡ before) × (rs ≡ Simple (codes "OK") ∷ [])
IsGatedAs password (command.Nothing nothing.Reset) before after rs = (after ≡ unknown password) × (rs ≡ Simple (codes "RESET") ∷ [])
IsGatedAs password (command.Server (server.Auth login)) before after rs = (after.waits ≡ before.waits) × (after.selected ≡ before.selected) × IsAuthReply password login before.is_authenticated after.is_authenticated rs
IsGatedAs password (command.Server (server.Hello greeting)) before after rs = (after.waits ≡ before.waits) × (after.selected ≡ before.selected) × IsHelloReply password greeting before.is_authenticated after.is_authenticated rs
IsGatedAs password c before after rs = (after ≡ before) × (rs ≡ Failure no_login ∷ [])

-- the same of any request that is not too large
abbrev pub IsGatedBy : Option (List ℕ) → Known → Known → List (List ℕ) → List Token → Type 0
IsGatedBy password before after arguments rs = ((c : Command) × IsSpelled arguments c × IsGatedAs password c before after rs)
    ⊎ (IsUnread arguments × (after ≡ before) × ((text : List ℕ) × (rs ≡ Failure text ∷ [])))

-- the same of any request: what is too large is refused
abbrev pub IsGated : Option (List ℕ) → Known → Known → List (List ℕ) → List Token → Type 0
IsGated password before after arguments rs = ((text : List ℕ) × Exceeds arguments text × (after ≡ before) × (rs ≡ Failure text ∷ []))
    ⊎ (IsModest arguments × IsGatedBy password before after arguments rs)

-- No memory was left for what a worker keeps of the connection when it was opened: its first request is refused, and it is closed.
abbrev pub IsWithoutPlace : Known → Known → Session → Session → List Token → Next → Type 0
IsWithoutPlace before after old new rs next = (after ≡ before) × (old ≡ new) × (rs ≡ Failure (text_of refusal.Memory) ∷ []) × (next ≡ behind.End)

-- why a connection is closed after a reply: QUIT; a request that is too large before the login; memory that was refused
abbrev pub IsClosing : Known → List (List ℕ) → List Token → Type 0
IsClosing before arguments rs = IsSpelled arguments command.Quit
    ⊎ (((before.is_authenticated ≡ false) × ((text : List ℕ) × Exceeds arguments text × (rs ≡ Failure text ∷ []))) ⊎ (rs ≡ Failure (text_of refusal.Memory) ∷ []))

-- Each request has exactly one reply. Who may ask is served, and who may not has made no call. Who may ask after it might ask before, or
-- needs no password, or said it. The connection is closed only for a reason.
pub record IsAnswered (l : Limits) (digest : DigestKeys) (password : Option (List ℕ)) (b : Bounds) (before after : Known) (arguments : List (List ℕ)) (old new : Session) (rs : List Token) (next : Next) : Type 0 where
  pub one : AreReplies 1 rs
  pub login : after.is_authenticated ≡ true → (before.is_authenticated ≡ true) ⊎ HasLogin password arguments
  pub did : IsWithoutPlace before after old new rs next
      ⊎ MatchBool before.is_authenticated (IsServed l digest b password before after arguments old new rs) ((old ≡ new) × IsGated password before after arguments rs)
  pub closing : next ≡ behind.End → IsClosing before arguments rs
