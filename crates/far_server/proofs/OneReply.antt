-- Each reply is exactly one.
use Rattle.std.proofs.Common.{◌≡◌, ◌⊎◌, inl, inr, ℕ, zero, suc, ◌+◌, ◌-◌, ◌==◌, ℤ, pos, Bool, true, false, List, [], ◌∷◌, ◌++◌, length, replicate, Option, Some, None, refl, sym, subst, arith}
use Rattle.std.specs.Prelude.{◌+ℤ◌, nat_le, if◌then◌else◌, codes, MatchBool}
use Rattle.std.specs.List.{flat_map}
use Rattle.std.specs.Fmt.{signed_decimal}
use Rattle.table_core.specs.declared.limits.Limits.{Limits}
use Rattle.resp.specs.Replies.{Token, Failure, Simple, Number, String, Nothing, Count, token}
use Rattle.server_commands.specs.Replying.{members, AreReplies}
use Rattle.commands.specs.declared.command.Change.{Change}
use Rattle.commands.specs.declared.command.Only.{Only}
use Rattle.commands.specs.declared.command.Lifetime.{Lifetime}
use Rattle.commands.specs.declared.command.Lifetime.TheVariants as lifetime
use Rattle.key_commands.specs.declared.key_command.KeyCommand.{KeyCommand}
use Rattle.key_commands.specs.declared.key_command.KeyCommand.TheVariants as ask
use Rattle.key_commands.specs.Values.{Value, live, bytes_of, deadline_of}
use Rattle.key_commands.specs.Outcomes.{Outcome, replies, sets, removes, fails, number, fitting}
use Rattle.key_commands.specs.Reading.{got, presence, size_of, kind, string_of, part, deleted, got_and_deleted}
use Rattle.key_commands.specs.Lasting.{milliseconds_after, seconds_after, persisted, expires, got_for, may_change, expired}
use Rattle.key_commands.specs.Setting.{may_set, deadline_after, set_reply, kept_reply, set_to, set_absent, set_if_absent, got_and_set}
use Rattle.key_commands.specs.Editing.{appended, over, overwritten}
use Rattle.key_commands.specs.Adding.{no_whole_number, overflow, no_float, no_finite_sum, Adds}
use Rattle.key_commands.specs.Doing.{bit_at, IsOutcome}
use Rattle.far_map.specs.declared.refusal.MapRefusal.TheVariants as refusal
use Rattle.far_server.specs.Sessions.{Session}
use Rattle.far_server.specs.Bounds.{too_large}
use Rattle.far_server.specs.declared.selection.Selection.{Selection}
use Rattle.far_server.specs.declared.selection.Selection.TheVariants as selection
use Rattle.far_server.specs.Selections.{no_database, IsSelected, IsUnselected}
use Rattle.far_server.specs.Refusing.{text_of, text_with, overtaken, no_room, key_too_long}
use Rattle.far_server.specs.Keyed.{IsKeyed}
use Rattle.far_server.specs.Many.{plain, AreListed, IsListedIfShort, IsCountedEach, IsSetEach}
use Rattle.far_server.specs.Lists.{told_key, told_keys}
use Rattle.far_server.specs.declared.settings.Bounds.{Bounds}
use Rattle.far_server.specs.Transactions.{Waiting, nested, no_multi_before_discard, full_queue, IsBegun, IsDropped, IsHeld}
use Rattle.far_server.specs.Answers.{Known, exec_abort, no_multi_before_exec, AreExecuted, IsRunEach, IsExecuted, IsRunOrHeldBy, IsRunOrHeld, IsServedAs, IsServed, IsGatedAs, IsGated}
use Rattle.commands.specs.declared.command.Command.{Command}
use Rattle.commands.specs.declared.command.Command.TheVariants as command
use Rattle.commands.specs.declared.name.OfNothing.TheVariants as nothing
use Rattle.commands.specs.declared.server.ServerCommand.TheVariants as server
use Rattle.commands.specs.declared.server.Login.{Login}
use Rattle.commands.specs.declared.server.Greeting.{Greeting}
use Rattle.server_commands.specs.Greeting.{greeting}
use Rattle.far_server.specs.Logins.{no_login, wrong_login, no_password, IsAuthReply, IsHelloReply}
use Rattle.server_commands.proofs.Growing.{both}
use Rattle.stored_keys.specs.declared.DigestKeys.{DigestKeys}
use Rattle.stored_keys.specs.declared.Keyspace.{Keyspace}

-- one token that has nothing behind it
pub one : (t : Token) → members t ≡ 0 → AreReplies 1 (t ∷ [])
one t none = let k : 0 + members t ≡ 0 = omega (arith, none) in k

-- such a token before other replies
pub one_more : (n : ℕ) (t : Token) (ts : List Token) → members t ≡ 0 → AreReplies n ts → AreReplies (suc n) (t ∷ ts)
one_more n t ts none replies = let k : n ≡ n + members t = omega (arith, none) in subst (λ (m : ℕ). AreReplies m ts) k replies

-- an array of so many replies
pub array : (n : ℕ) (ts : List Token) → AreReplies n ts → AreReplies 1 (Count n ∷ ts)
array n ts replies = let k : n ≡ 0 + n = omega arith in subst (λ (m : ℕ). AreReplies m ts) k replies

pub strings : (keys : List (List ℕ)) → AreReplies (length keys) (told_keys keys)
strings [] = refl
strings (k ∷ keys) = one_more (length keys) (told_key k) (told_keys keys) refl (strings keys)

-- the reply to SCAN
pub page : (cursor : List ℕ) (keys : List (List ℕ)) → AreReplies 1 (Count 2 ∷ String cursor ∷ Count (length keys) ∷ told_keys keys)
page cursor keys = array 2 (String cursor ∷ Count (length keys) ∷ told_keys keys) (one_more 1 (String cursor) (Count (length keys) ∷ told_keys keys) refl (array (length keys) (told_keys keys) (strings keys)))

-- ---- what a command on one key replies

abbrev IsOne : Outcome → Type 0
IsOne o = members o.reply ≡ 0

by_cases : (b : Bool) (x y : Outcome) → IsOne x → IsOne y → IsOne (if b then x else y)
by_cases true x y one_x one_y = one_x
by_cases false x y one_x one_y = one_y

fits : (most len : ℕ) (o : Outcome) → IsOne o → IsOne (fitting most len o)
fits most len o is = by_cases (nat_le len most) o _ is refl

is_one : (o p : Outcome) → o ≡ p → IsOne p → IsOne o
is_one o p is one_p = subst (λ (x : Outcome). IsOne x) (sym is) one_p

value : (v : Option Value) → members (got v) ≡ 0
value None = refl
value (Some v) = refl

there : (v : Option Value) → members (presence v) ≡ 0
there None = refl
there (Some v) = refl

form : (v : Option Value) → members (kind v) ≡ 0
form None = refl
form (Some v) = refl

taken : (v : Option Value) → IsOne (deleted v)
taken None = refl
taken (Some v) = refl

got_and_taken : (v : Option Value) → IsOne (got_and_deleted v)
got_and_taken None = refl
got_and_taken (Some v) = refl

kept_for_ever : (v : Option Value) → IsOne (persisted v)
kept_for_ever None = refl
kept_for_ever (Some v) = by_cases (v.deadline == 0) (replies (Number (pos 0))) (sets (Number (pos 1)) 0 v.bytes) refl refl

absent : (new : List ℕ) (v : Option Value) → IsOne (set_absent new v)
absent new None = refl
absent new (Some v) = refl

expiring : (r : Token) (now deadline : ℕ) (bytes : List ℕ) → members r ≡ 0 → IsOne (expires r now deadline bytes)
expiring r now deadline bytes one_r = by_cases (nat_le deadline now) (removes r) (sets r deadline bytes) one_r one_r

lasts : (l : Lifetime) (now : ℕ) (v : Option Value) → IsOne (got_for l now v)
lasts l now None = refl
lasts lifetime.Keep now (Some v) = refl
lasts lifetime.Forever now (Some v) = by_cases (v.deadline == 0) (replies (String v.bytes)) (sets (String v.bytes) 0 v.bytes) refl refl
lasts (lifetime.Until deadline) now (Some v) = expiring (String v.bytes) now deadline v.bytes refl

expires_at : (deadline : ℕ) (only : Only) (now : ℕ) (v : Option Value) → IsOne (expired deadline only now v)
expires_at deadline only now None = refl
expires_at deadline only now (Some v) = by_cases (may_change only v.deadline deadline) (expires (Number (pos 1)) now deadline v.bytes) (replies (Number (pos 0))) (expiring (Number (pos 1)) now deadline v.bytes refl) refl

if_got : (get : Bool) (v : Option Value) (t : Token) → members t ≡ 0 → members (if get then got v else t) ≡ 0
if_got true v t one_t = value v
if_got false v t one_t = one_t

set_one : (new : List ℕ) (change : Change) (most : ℕ) (v : Option Value) → IsOne (set_to new change most v)
set_one new change most v = fits most (length new) (if may_set change.to v then sets (set_reply change.get v) (deadline_after change.lifetime v) new else replies (kept_reply change.get v))
    (by_cases (may_set change.to v) (sets (set_reply change.get v) (deadline_after change.lifetime v) new) (replies (kept_reply change.get v)) (if_got change.get v (Simple (codes "OK")) refl) (if_got change.get v Nothing refl))

over_one : (offset : ℕ) (new : List ℕ) (most : ℕ) (v : Option Value) → IsOne (overwritten offset new most v)
over_one offset new most v =
    by_cases (length new == 0) (replies (size_of (bytes_of v))) (fitting most (offset + length new) (sets (size_of (over offset new (bytes_of v))) (deadline_of v) (over offset new (bytes_of v)))) refl
    (fits most (offset + length new) (sets (size_of (over offset new (bytes_of v))) (deadline_of v) (over offset new (bytes_of v))) refl)

added : (by : ℤ) (v : Option Value) (o : Outcome) → Adds by v o → IsOne o
added by v o (inl sum) = is_one o (sets (Number (sum.was +ℤ by)) (deadline_of v) (signed_decimal (sum.was +ℤ by))) sum.outcome refl
added by v o (inr (inl past)) = is_one o (fails overflow) past.outcome refl
added by v o (inr (inr none)) = is_one o (fails no_whole_number) none.outcome refl

float_added : (v : Option Value) (o : Outcome) (text : List ℕ) → (o ≡ sets (String text) (deadline_of v) text) ⊎ ((o ≡ fails no_float) ⊎ (o ≡ fails no_finite_sum)) → IsOne o
float_added v o text (inl is) = is_one o (sets (String text) (deadline_of v) text) is refl
float_added v o text (inr (inl is)) = is_one o (fails no_float) is refl
float_added v o text (inr (inr is)) = is_one o (fails no_finite_sum) is refl

outcome : (c : KeyCommand) (now most : ℕ) (v : Option Value) (o : Outcome) → IsOutcome c now most v o → IsOne o
outcome ask.Get now most v o is = is_one o (replies (got v)) is (value v)
outcome ask.Exists now most v o is = is_one o (replies (presence v)) is (there v)
outcome ask.Delete now most v o is = is_one o (deleted v) is (taken v)
outcome ask.StrLen now most v o is = is_one o (replies (size_of (bytes_of v))) is refl
outcome ask.TypeOf now most v o is = is_one o (replies (kind v)) is (form v)
outcome ask.Ttl now most v o is = is_one o (replies (number (seconds_after now v))) is refl
outcome ask.PTtl now most v o is = is_one o (replies (number (milliseconds_after now v))) is refl
outcome ask.ExpireTime now most v o is = is_one o (replies (number (seconds_after 0 v))) is refl
outcome ask.PExpireTime now most v o is = is_one o (replies (number (milliseconds_after 0 v))) is refl
outcome ask.Persist now most v o is = is_one o (persisted v) is (kept_for_ever v)
outcome ask.GetDel now most v o is = is_one o (got_and_deleted v) is (got_and_taken v)
outcome (ask.GetBit offset) now most v o is = is_one o (replies (number (bit_at offset (bytes_of v)))) is refl
outcome (ask.SetIfAbsent new) now most v o is = is_one o (set_if_absent new.now most v) is (fits most (length new.now) (set_absent new.now v) (absent new.now v))
outcome (ask.GetSet new) now most v o is = is_one o (got_and_set new.now most v) is (fits most (length new.now) (sets (got v) 0 new.now) (value v))
outcome (ask.Append new) now most v o is = is_one o (appended new.now most v) is (fits most (length (bytes_of v) + length new.now) (sets (size_of (bytes_of v ++ new.now)) (deadline_of v) (bytes_of v ++ new.now)) refl)
outcome (ask.Set new change) now most v o is = is_one o (set_to new.now change most v) is (set_one new.now change most v)
outcome (ask.GetEx l) now most v o is = is_one o (got_for l now v) is (lasts l now v)
outcome (ask.GetRange first last) now most v o is = is_one o (replies (string_of (part first last (bytes_of v)))) is refl
outcome (ask.SetRange offset new) now most v o is = is_one o (overwritten offset new.now most v) is (over_one offset new.now most v)
outcome (ask.Add by) now most v o is = added by v o is
outcome (ask.AddFloat by) now most v o is = float_added v o is.text is.outcome
outcome (ask.Expire deadline only) now most v o is = is_one o (expired deadline only now v) is (expires_at deadline only now v)

-- ---- what a command on one key, or on several, replies

as_said : (r t : Token) → r ≡ t → members t ≡ 0 → members r ≡ 0
as_said r t is none = subst (λ (x : Token). members x ≡ 0) (sym is) none

pub keyed : (l : Limits) (keyspace : Keyspace) (k : List ℕ) (c : KeyCommand) (now most : ℕ) (old new : Session) (r : Token) → IsKeyed l keyspace k c now most old new r → members r ≡ 0
keyed l keyspace k c now most old new r (inr long) = as_said r (Failure key_too_long) long.2 refl
keyed l keyspace k c now most old new r (inl (short, (mid, idles, inl carries))) = as_said r carries.does.outcome.reply carries.does.replied (outcome c now most (live now carries.found) carries.does.outcome carries.does.is)
keyed l keyspace k c now most old new r (inl (short, (mid, idles, inr (inl (why, told, known, stopped, is_told, is))))) = as_said r (Failure (text_with told known)) is refl
keyed l keyspace k c now most old new r (inl (short, (mid, idles, inr (inr (same, inl is))))) = as_said r (Failure overtaken) is refl
keyed l keyspace k c now most old new r (inl (short, (mid, idles, inr (inr (same, inr (known, is)))))) = as_said r (Failure (no_room known)) is refl

pub counted_each : (l : Limits) (keyspace : Keyspace) (now most : ℕ) (c : KeyCommand) (ks : List (List ℕ)) (old new : Session) (r : Token) → IsCountedEach l keyspace now most c ks old new r → members r ≡ 0
counted_each l keyspace now most c ks old new r (inl (count, counted, is)) = as_said r (Number (pos count)) is refl
counted_each l keyspace now most c ks old new r (inr (before, k, behind, count, mid, are, counted, keyed_r, no_one, no_none)) = keyed l keyspace k c now most mid new r keyed_r

pub set_each : (l : Limits) (keyspace : Keyspace) (now most : ℕ) (pairs : List (List ℕ)) (old new : Session) (r : Token) → IsSetEach l keyspace now most pairs old new r → members r ≡ 0
set_each l keyspace now most pairs old new r (inl (before, rest, are, few, set, is)) = as_said r (Simple (codes "OK")) is refl
set_each l keyspace now most pairs old new r (inr (before, k, v, rest, mid, are, set, (value, is, keyed_r), no_ok)) = keyed l keyspace k (ask.Set value plain) now most mid new r keyed_r

listed_each : (l : Limits) (keyspace : Keyspace) (now most : ℕ) (c : KeyCommand) (limit : ℕ) (ks : List (List ℕ)) (rs : List Token) (old new : Session) → AreListed l keyspace now most c limit ks rs old new → AreReplies (length ks) rs
listed_each l keyspace now most c limit [] rs old new (same, is) = subst (λ (ts : List Token). AreReplies 0 ts) (sym is) refl
listed_each l keyspace now most c limit (k ∷ ks) rs old new (room, (mid, r, rest, keyed_r, listed, is)) =
    subst (λ (ts : List Token). AreReplies (length (k ∷ ks)) ts) (sym is) (one_more (length ks) r rest (keyed l keyspace k c now most old mid r keyed_r) (listed_each l keyspace now most c (limit - length (token r)) ks rest mid new listed))

pub listed_if_short : (l : Limits) (keyspace : Keyspace) (now most : ℕ) (c : KeyCommand) (limit : ℕ) (ks : List (List ℕ)) (old new : Session) (rs : List Token) → IsListedIfShort l keyspace now most c limit ks old new rs → AreReplies 1 rs
listed_if_short l keyspace now most c limit ks old new rs (inl (each, listed, is)) =
    subst (λ (ts : List Token). AreReplies 1 ts) (sym is) (array (length ks) each (listed_each l keyspace now most c (limit - length (token (Count (length ks)))) ks each old new listed))
listed_if_short l keyspace now most c limit ks old new rs (inr (inl long)) = subst (λ (ts : List Token). AreReplies 1 ts) (sym long.reply) (one (Failure too_large) refl)
listed_if_short l keyspace now most c limit ks old new rs (inr (inr none)) = subst (λ (ts : List Token). AreReplies 1 ts) (sym none.reply) (one (Failure (text_of refusal.Memory)) refl)

-- ---- what EXEC, and any request, replies

copies : (n : ℕ) (t : Token) → members t ≡ 0 → AreReplies n (replicate n t)
copies zero t none = refl
copies (suc n) t none = one_more n t (replicate n t) none (copies n t none)

executed : (l : Limits) (digest : DigestKeys) (b : Bounds) (limit : ℕ) (requests : List (List (List ℕ))) (rs : List Token) (s t : Selection) (old new : Session) → AreExecuted l digest b limit requests rs s t old new → AreReplies (length requests) rs
executed l digest b limit [] rs s t old new (kept, same, is) = subst (λ (ts : List Token). AreReplies 0 ts) (sym is) refl
executed l digest b limit (request ∷ requests) rs s t old new (inl (mid, u, first, rest, ran, others, is)) =
    let more : 1 + length requests ≡ length (request ∷ requests) = omega arith in
    let all = both 1 (length requests) first rest ran.ran.0 (executed l digest b (limit - length (flat_map token first)) requests rest u t mid new others) in
    subst (λ (ts : List Token). AreReplies (length (request ∷ requests)) ts) (sym is) (subst (λ (n : ℕ). AreReplies n (first ++ rest)) more all)
executed l digest b limit (request ∷ requests) rs s t old new (inr (kept, inl refused)) =
    subst (λ (ts : List Token). AreReplies (length (request ∷ requests)) ts) (sym refused.reply) (copies (length (request ∷ requests)) (Failure too_large) refl)
executed l digest b limit (request ∷ requests) rs s t old new (inr (kept, inr none)) =
    subst (λ (ts : List Token). AreReplies (length (request ∷ requests)) ts) (sym none.reply) (copies (length (request ∷ requests)) (Failure (text_of refusal.Memory)) refl)

as_one : (t : Token) (rs : List Token) → rs ≡ t ∷ [] → members t ≡ 0 → AreReplies 1 rs
as_one t rs is none = subst (λ (ts : List Token). AreReplies 1 ts) (sym is) (one t none)

-- what SELECT replies, and a command on keys after one that was refused
pub selected : (last : ℕ) (index : List ℕ) (after : Selection) (rs : List Token) → IsSelected last index after rs → AreReplies 1 rs
selected last index (selection.Database d) rs so = as_one (Simple (codes "OK")) rs so.2 refl
selected last index (selection.Refused n) rs (inl (none, (text, is))) = as_one (Failure text) rs is refl
selected last index (selection.Refused n) rs (inr is) = as_one (Failure (text_of refusal.Memory)) rs is refl

pub unselected : (n : Option ℤ) (rs : List Token) → IsUnselected n rs → AreReplies 1 rs
unselected n rs (inl is) = as_one (Failure (no_database n)) rs is refl
unselected n rs (inr is) = as_one (Failure (text_of refusal.Memory)) rs is refl

run_each : (l : Limits) (digest : DigestKeys) (b : Bounds) (requests : List (List (List ℕ))) (s t : Selection) (old new : Session) (rs : List Token) → IsRunEach l digest b requests s t old new rs → AreReplies 1 rs
run_each l digest b requests s t old new rs (inl (each, ran, is)) =
    subst (λ (ts : List Token). AreReplies 1 ts) (sym is) (array (length requests) each (executed l digest b (b.longest_reply - length (token (Count (length requests)))) requests each s t old new ran))
run_each l digest b requests s t old new rs (inr (kept, same, is)) = as_one (Failure (text_of refusal.Memory)) rs is refl

exec_of : (l : Limits) (digest : DigestKeys) (b : Bounds) (is_spoilt : Bool) (requests : List (List (List ℕ))) (s t : Selection) (old new : Session) (rs : List Token)
    → MatchBool is_spoilt ((t ≡ s) × (old ≡ new) × (rs ≡ Failure exec_abort ∷ [])) (IsRunEach l digest b requests s t old new rs) → AreReplies 1 rs
exec_of l digest b true requests s t old new rs (kept, same, is) = as_one (Failure exec_abort) rs is refl
exec_of l digest b false requests s t old new rs ran = run_each l digest b requests s t old new rs ran

exec : (l : Limits) (digest : DigestKeys) (b : Bounds) (before after : Option Waiting) (s t : Selection) (old new : Session) (rs : List Token) → IsExecuted l digest b before after s t old new rs → AreReplies 1 rs
exec l digest b None after s t old new rs (none, kept, same, is) = as_one (Failure no_multi_before_exec) rs is refl
exec l digest b (Some waits) after s t old new rs (none, ran) = exec_of l digest b waits.is_spoilt waits.requests s t old new rs ran

begun : (before after : Option Waiting) (rs : List Token) → IsBegun before after rs → AreReplies 1 rs
begun None after rs (waits, is) = as_one (Simple (codes "OK")) rs is refl
begun (Some waits) after rs (waits_on, is) = as_one (Failure nested) rs is refl

dropped : (before after : Option Waiting) (rs : List Token) → IsDropped before after rs → AreReplies 1 rs
dropped None after rs (none, is) = as_one (Failure no_multi_before_discard) rs is refl
dropped (Some waits) after rs (none, is) = as_one (Simple (codes "OK")) rs is refl

held : (before after : Waiting) (request : List (List ℕ)) (rs : List Token) → IsHeld before after request rs → AreReplies 1 rs
held before after request rs (inl (waits, is)) = as_one (Simple (codes "QUEUED")) rs is refl
held before after request rs (inr (spoilt, inl (unread, (text, is)))) = as_one (Failure text) rs is refl
held before after request rs (inr (spoilt, inr (inl is))) = as_one (Failure full_queue) rs is refl
held before after request rs (inr (spoilt, inr (inr is))) = as_one (Failure (text_of refusal.Memory)) rs is refl

run_or_held_by : (l : Limits) (digest : DigestKeys) (b : Bounds) (before after : Option Waiting) (s t : Selection) (arguments : List (List ℕ)) (old new : Session) (rs : List Token) → IsRunOrHeldBy l digest b before after s t arguments old new rs → AreReplies 1 rs
run_or_held_by l digest b None after s t arguments old new rs (none, ran) = ran.0
run_or_held_by l digest b (Some waits) after s t arguments old new rs (kept, same, (now, is, held_so)) = held waits now arguments rs held_so

run_or_held : (l : Limits) (digest : DigestKeys) (b : Bounds) (before after : Known) (arguments : List (List ℕ)) (old new : Session) (rs : List Token) → IsRunOrHeld l digest b before after arguments old new rs → AreReplies 1 rs
run_or_held l digest b before after arguments old new rs so = run_or_held_by l digest b before.waits after.waits before.selected after.selected arguments old new rs so

served_as : (l : Limits) (digest : DigestKeys) (b : Bounds) (password : Option (List ℕ)) (c : Command) (before after : Known) (arguments : List (List ℕ)) (old new : Session) (rs : List Token)
    → IsServedAs l digest b password c before after arguments old new rs → AreReplies 1 rs
served_as l digest b password command.Quit before after arguments old new rs so = as_one (Simple (codes "OK")) rs so.2 refl
served_as l digest b password (command.Nothing nothing.Reset) before after arguments old new rs so = as_one (Simple (codes "RESET")) rs so.2 refl
served_as l digest b password (command.Nothing nothing.Multi) before after arguments old new rs so = begun before.waits after.waits rs so.3
served_as l digest b password (command.Nothing nothing.Discard) before after arguments old new rs so = dropped before.waits after.waits rs so.3
served_as l digest b password (command.Nothing nothing.Exec) before after arguments old new rs so = exec l digest b before.waits after.waits before.selected after.selected old new rs so.1
served_as l digest b password c before after arguments old new rs so = run_or_held l digest b before after arguments old new rs so.1

-- what is said to a client that may ask
pub served : (l : Limits) (digest : DigestKeys) (b : Bounds) (password : Option (List ℕ)) (before after : Known) (arguments : List (List ℕ)) (old new : Session) (rs : List Token)
    → IsServed l digest b password before after arguments old new rs → AreReplies 1 rs
served l digest b password before after arguments old new rs (inl (c, spells, so)) = served_as l digest b password c before after arguments old new rs so
served l digest b password before after arguments old new rs (inr (unread, may, so)) = run_or_held l digest b before after arguments old new rs so

auth : (password : Option (List ℕ)) (login : Login) (might may : Bool) (rs : List Token) → IsAuthReply password login might may rs → AreReplies 1 rs
auth password login might may rs (inl (may_now, right, is)) = as_one (Simple (codes "OK")) rs is refl
auth password login might may rs (inr (same, inl is)) = as_one (Failure wrong_login) rs is refl
auth password login might may rs (inr (same, inr is)) = as_one (Failure no_password) rs is refl

greeted : (id : ℕ) → AreReplies 1 (greeting id)
greeted id = refl

hello : (password : Option (List ℕ)) (h : Greeting) (might may : Bool) (rs : List Token) → IsHelloReply password h might may rs → AreReplies 1 rs
hello password h might may rs (login, inl (may_now, (id, is))) = subst (λ (ts : List Token). AreReplies 1 ts) (sym is) (greeted id)
hello password h might may rs (login, inr (text, why, is)) = as_one (Failure text) rs is refl

gated_as : (password : Option (List ℕ)) (c : Command) (before after : Known) (rs : List Token) → IsGatedAs password c before after rs → AreReplies 1 rs
gated_as password command.Quit before after rs so = as_one (Simple (codes "OK")) rs so.1 refl
gated_as password (command.Nothing nothing.Reset) before after rs so = as_one (Simple (codes "RESET")) rs so.1 refl
gated_as password (command.Server (server.Auth login)) before after rs so = auth password login before.is_authenticated after.is_authenticated rs so.2
gated_as password (command.Server (server.Hello h)) before after rs so = hello password h before.is_authenticated after.is_authenticated rs so.2
gated_as password c before after rs so = as_one (Failure no_login) rs so.1 refl

-- what is said to a client that may not ask
pub gated : (password : Option (List ℕ)) (before after : Known) (arguments : List (List ℕ)) (rs : List Token) → IsGated password before after arguments rs → AreReplies 1 rs
gated password before after arguments rs (inl (text, exceeds, kept, is)) = as_one (Failure text) rs is refl
gated password before after arguments rs (inr (modest, inl (c, spells, so))) = gated_as password c before after rs so
gated password before after arguments rs (inr (modest, inr (unread, kept, (text, is)))) = as_one (Failure text) rs is refl
