-- Who may ask.
use Rattle.std.proofs.Common.{◌≡◌, ◌⊎◌, ◌∙◌, refl, sym, inl, inr, arith, ℕ, true, List, [], ◌∷◌, map, Option, Some, None, Result, Ok, Err}
use Rattle.std.proofs.lemmas.Bool.{false≢true}
use Rattle.commands.specs.declared.command.Command.{Command}
use Rattle.commands.specs.declared.fault.CommandFault.{CommandFault}
use Rattle.commands.specs.declared.name.Name.{Name}
use Rattle.commands.specs.Names.{text_of}
use Rattle.commands.specs.Commands.{Spells, IsCounted}
use Rattle.std.specs.Char.{to_ascii_lowercase}
use Rattle.std.specs.Prelude.{IfOk, IsOk}
use Rattle.commands.specs.declared.command.Command.TheVariants as command
use Rattle.commands.specs.declared.name.OfNothing.{OfNothing}
use Rattle.commands.specs.declared.name.OfNothing.TheVariants as nothing
use Rattle.commands.specs.declared.server.ServerCommand.{ServerCommand}
use Rattle.commands.specs.declared.server.ServerCommand.TheVariants as server
use Rattle.commands.specs.declared.server.Login.{Login}
use Rattle.commands.specs.declared.server.Greeting.{Greeting}
use Rattle.far_server.specs.Logins.{no_login, LogsIn, HasLogin, AreShort, HasLong, IsModest, Exceeds}
use Rattle.far_server.specs.Reads.{IsSpelled, IsReadAt, IsRead}
use Rattle.table_core.specs.declared.limits.Limits.{Limits}
use Rattle.stored_keys.specs.declared.DigestKeys.{DigestKeys}
use Rattle.resp.specs.Replies.{Token, Failure}
use Rattle.request_loop.specs.declared.service.Next.{Next}
use Rattle.request_loop.specs.declared.service.Next.TheVariants as behind
use Rattle.far_server.specs.declared.settings.Bounds.{Bounds}
use Rattle.far_server.specs.Sessions.{Session}
use Rattle.far_server.specs.Answers.{Known, is_free, IsGatedAs, IsAnswered}

pub has_login : (password : Option (List ℕ)) (words : List (List ℕ)) (c : Command) → IsSpelled words c → LogsIn password c → HasLogin password words
has_login None words c spells right = tt
has_login (Some digest) words c spells right = (c, spells, right)

pub free_login : (password : Option (List ℕ)) (words : List (List ℕ)) → is_free password ≡ true → HasLogin password words
free_login None words free = tt
free_login (Some digest) words free = absurd (false≢true free)

no_long : (words : List (List ℕ)) → AreShort words → HasLong words → ⊥
no_long [] short long = long
no_long (word ∷ words) short (inl long) = absurd (omega (arith, short.0, long))
no_long (word ∷ words) short (inr long) = no_long words short.1 long

-- a request that is small enough is not refused
pub no_excess : (words : List (List ℕ)) (text : List ℕ) → IsModest words → Exceeds words text → ⊥
no_excess words text modest (inl many) = absurd (omega (arith, modest.0, many.0))
no_excess words text modest (inr long) = no_long words modest.1 long.1.0

-- one thing is said of a request that is too large
pub one_excess : (words : List (List ℕ)) (one other : List ℕ) → Exceeds words one → Exceeds words other → one ≡ other
one_excess words one other (inl a) (inl b) = a.1 ∙ sym b.1
one_excess words one other (inl a) (inr b) = absurd (omega (arith, a.0, b.0))
one_excess words one other (inr a) (inl b) = absurd (omega (arith, a.0, b.0))
one_excess words one other (inr a) (inr b) = a.1.1 ∙ sym b.1.1

-- what is read of a request
pub is_read_at : (now : ℕ) (words : List (List ℕ)) (asked : Result Command CommandFault) → IfOk asked (λ c. Spells now words c)
    → ((n : Name) (first : List ℕ) (rest : List (List ℕ)) → words ≡ first ∷ rest → map to_ascii_lowercase first ≡ text_of n → IsCounted n rest → IsOk asked) → IsReadAt now words asked
is_read_at now words (Ok c) spelt counted = spelt
is_read_at now words (Err fault) spelt counted = λ n first rest are text few. absurd (false≢true (counted n first rest are text few))

pub is_read : (now : ℕ) (words : List (List ℕ)) (asked : Result Command CommandFault) → IsReadAt now words asked → IsRead words asked
is_read now words (Ok c) spelt = (now, spelt)
is_read now words (Err fault) unread = unread

-- a command to the server that may not ask: neither AUTH nor HELLO, and so on
pub gated_server : (password : Option (List ℕ)) (s : ServerCommand) (k : Known) (rs : List Token) → ((login : Login) → s ≡ server.Auth login → ⊥) → ((hello : Greeting) → s ≡ server.Hello hello → ⊥)
    → rs ≡ Failure no_login ∷ [] → IsGatedAs password (command.Server s) k k rs
gated_server password (server.Auth login) k rs no_auth no_hello is = absurd (no_auth login refl)
gated_server password (server.Hello hello) k rs no_auth no_hello is = absurd (no_hello hello refl)
gated_server password s k rs no_auth no_hello is = (refl, is)

pub gated_nothing : (password : Option (List ℕ)) (of : OfNothing) (k : Known) (rs : List Token) → (of ≡ nothing.Reset → ⊥) → rs ≡ Failure no_login ∷ [] → IsGatedAs password (command.Nothing of) k k rs
gated_nothing password nothing.Reset k rs no_reset is = absurd (no_reset refl)
gated_nothing password of k rs no_reset is = (refl, is)

pub gated_other : (password : Option (List ℕ)) (c : Command) (k : Known) (rs : List Token) → (c ≡ command.Quit → ⊥) → ((of : OfNothing) → c ≡ command.Nothing of → ⊥) → ((s : ServerCommand) → c ≡ command.Server s → ⊥)
    → rs ≡ Failure no_login ∷ [] → IsGatedAs password c k k rs
gated_other password command.Quit k rs no_quit no_nothing no_server is = absurd (no_quit refl)
gated_other password (command.Nothing of) k rs no_quit no_nothing no_server is = absurd (no_nothing of refl)
gated_other password (command.Server s) k rs no_quit no_nothing no_server is = absurd (no_server s refl)
gated_other password c k rs no_quit no_nothing no_server is = (refl, is)

in_first : {A B C : Type 0} → A ⊎ B → (A → C) → C ⊎ B
in_first (inl a) f = inl (f a)
in_first (inr b) f = inr b

-- an answer stays one where the connection ends just where it ended
pub again : (l : Limits) (digest : DigestKeys) (password : Option (List ℕ)) (b : Bounds) (before after : Known) (words : List (List ℕ)) (old new : Session) (rs : List Token) (next other : Next)
    → (other ≡ behind.End → next ≡ behind.End) × (next ≡ behind.End → other ≡ behind.End)
    → IsAnswered l digest password b before after words old new rs next → IsAnswered l digest password b before after words old new rs other
again l digest password b before after words old new rs next other same answered = record {
  one = answered.one;
  login = answered.login;
  did = in_first answered.did (λ none. (none.0, none.1, none.2, same.1 none.3));
  closing = λ end. answered.closing (same.0 end);
}
