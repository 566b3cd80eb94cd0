-- Each name has its entry in the table, and each entry its name.
use Rattle.std.proofs.Common.{ℕ, suc, ◌≡◌, ◌<◌, ◌+◌, ◌*◌, nat_eq, true, List, [], ◌∷◌, map, Some, refl, sym, ap, ◌∙◌, arith}
use Rattle.std.specs.Prelude.{if◌then◌else◌}
use Rattle.std.specs.Char.{to_ascii_lowercase}
use Rattle.std.specs.List.{slice_get}
use Rattle.std.proofs.Math.Dec.{eqb}
use Rattle.std.proofs.lemmas.Bool.{agree_below_at, eqb-true}
use Rattle.std.proofs.lemmas.Option.{get_or_from_slice_get, slice_get_within}
use Rattle.commands.specs.declared.name.OfNothing.TheVariants as of_nothing
use Rattle.commands.specs.declared.name.OfKey.TheVariants as of_key
use Rattle.commands.specs.declared.name.OfKeys.TheVariants as of_keys
use Rattle.commands.specs.declared.name.OfPair.TheVariants as of_pair
use Rattle.commands.specs.declared.name.OfNumber.TheVariants as of_number
use Rattle.commands.specs.declared.name.Special.TheVariants as special
use Rattle.commands.specs.declared.server_name.OfServer.TheVariants as of_server
use Rattle.commands.specs.declared.name.Name.{Name}
use Rattle.commands.specs.declared.name.Name.TheVariants as name
use Rattle.commands.specs.Names.{index_of, text_of}
use Rattle.commands.specs.declared.table.TheConstants.{COMMANDS, TABLE}
use Rattle.commands.specs.Rows.{listed_names, text_at, name_at, nameless}

-- by its index a name finds its entry, which has its text, and that is in lower case
pub entered : (n : Name) → (slice_get listed_names (index_of n) ≡ Some n) × (text_at (index_of n) ≡ text_of n) × (map to_ascii_lowercase (text_of n) ≡ text_of n)
unfolding text_at listed_names
entered (name.Nothing of_nothing.Multi) = (refl, refl, refl)
entered (name.Nothing of_nothing.Exec) = (refl, refl, refl)
entered (name.Nothing of_nothing.Discard) = (refl, refl, refl)
entered (name.Nothing of_nothing.Reset) = (refl, refl, refl)
entered (name.Nothing of_nothing.DbSize) = (refl, refl, refl)
entered (name.Nothing of_nothing.RandomKey) = (refl, refl, refl)
entered (name.Key of_key.Get) = (refl, refl, refl)
entered (name.Key of_key.GetDel) = (refl, refl, refl)
entered (name.Key of_key.StrLen) = (refl, refl, refl)
entered (name.Key of_key.Ttl) = (refl, refl, refl)
entered (name.Key of_key.PTtl) = (refl, refl, refl)
entered (name.Key of_key.ExpireTime) = (refl, refl, refl)
entered (name.Key of_key.PExpireTime) = (refl, refl, refl)
entered (name.Key of_key.Persist) = (refl, refl, refl)
entered (name.Key of_key.TypeOf) = (refl, refl, refl)
entered (name.Keys of_keys.Del) = (refl, refl, refl)
entered (name.Keys of_keys.Unlink) = (refl, refl, refl)
entered (name.Keys of_keys.Exists) = (refl, refl, refl)
entered (name.Keys of_keys.Touch) = (refl, refl, refl)
entered (name.Keys of_keys.MGet) = (refl, refl, refl)
entered (name.Pair of_pair.SetNx) = (refl, refl, refl)
entered (name.Pair of_pair.GetSet) = (refl, refl, refl)
entered (name.Pair of_pair.Append) = (refl, refl, refl)
entered (name.Number of_number.IncrBy) = (refl, refl, refl)
entered (name.Number of_number.GetBit) = (refl, refl, refl)
entered (name.Special special.Set) = (refl, refl, refl)
entered (name.Special special.GetEx) = (refl, refl, refl)
entered (name.Special special.SetEx) = (refl, refl, refl)
entered (name.Special special.PSetEx) = (refl, refl, refl)
entered (name.Special special.GetRange) = (refl, refl, refl)
entered (name.Special special.SetRange) = (refl, refl, refl)
entered (name.Special special.Incr) = (refl, refl, refl)
entered (name.Special special.Decr) = (refl, refl, refl)
entered (name.Special special.DecrBy) = (refl, refl, refl)
entered (name.Special special.IncrByFloat) = (refl, refl, refl)
entered (name.Special special.MSet) = (refl, refl, refl)
entered (name.Special special.Expire) = (refl, refl, refl)
entered (name.Special special.PExpire) = (refl, refl, refl)
entered (name.Special special.ExpireAt) = (refl, refl, refl)
entered (name.Special special.PExpireAt) = (refl, refl, refl)
entered (name.Special special.Ping) = (refl, refl, refl)
entered (name.Special special.Echo) = (refl, refl, refl)
entered (name.Special special.Quit) = (refl, refl, refl)
entered (name.Server of_server.Auth) = (refl, refl, refl)
entered (name.Server of_server.Hello) = (refl, refl, refl)
entered (name.Server of_server.Select) = (refl, refl, refl)
entered (name.Server of_server.Client) = (refl, refl, refl)
entered (name.Server of_server.Command) = (refl, refl, refl)
entered (name.Server of_server.Config) = (refl, refl, refl)
entered (name.Server of_server.SlowLog) = (refl, refl, refl)
entered (name.Server of_server.Info) = (refl, refl, refl)
entered (name.Server of_server.Scan) = (refl, refl, refl)
entered (name.Server of_server.FlushAll) = (refl, refl, refl)
entered (name.Server of_server.FlushDb) = (refl, refl, refl)

-- the entry at an index is that of the name whose index it is
pub numbered : (index : ℕ) → index < COMMANDS → index_of (name_at index) ≡ index
unfolding name_at listed_names
numbered index within = eqb-true (index_of (name_at index)) index (agree_below_at (λ i. eqb (index_of (name_at i)) i) (λ i. true) COMMANDS index refl within)

pub counted : (n : Name) → index_of n < COMMANDS
unfolding listed_names
counted n = slice_get_within listed_names (index_of n) n (entered n).0

pub named : (n : Name) → name_at (index_of n) ≡ n
unfolding name_at listed_names
named n = get_or_from_slice_get listed_names (index_of n) n nameless (entered n).0

-- so an entry's text is its name's
pub texted : (index : ℕ) → index < COMMANDS → (text_at index ≡ text_of (name_at index)) × (map to_ascii_lowercase (text_at index) ≡ text_at index)
texted index within = grind (arith, entered (name_at index), numbered index within)

-- ---- no two names have one text

-- a number of a text, and the place of a number among others
code_of : List ℕ → ℕ
code_of [] = 1
code_of (c ∷ text) = c + 256 * code_of text

place_of : ℕ → List ℕ → ℕ
place_of n [] = 0
place_of n (m ∷ others) = if nat_eq n m then 0 else suc (place_of n others)

codes_of_all : List ℕ
codes_of_all = map (λ entry. code_of entry.0.now) TABLE

spelled_once : (index : ℕ) → index < COMMANDS → place_of (code_of (text_at index)) codes_of_all ≡ index
unfolding text_at code_of place_of codes_of_all
spelled_once index within = eqb-true (place_of (code_of (text_at index)) codes_of_all) index (agree_below_at (λ i. eqb (place_of (code_of (text_at i)) codes_of_all) i) (λ i. true) COMMANDS index refl within)

pub same_name : (m n : Name) → text_of m ≡ text_of n → m ≡ n
same_name m n is =
    let texts : text_at (index_of m) ≡ text_at (index_of n) = (entered m).1 ∙ is ∙ sym (entered n).1 in
    let places : index_of m ≡ index_of n = sym (spelled_once (index_of m) (counted m)) ∙ ap (λ (text : List ℕ). place_of (code_of text) codes_of_all) texts ∙ spelled_once (index_of n) (counted n) in
    sym (named m) ∙ ap (λ (index : ℕ). name_at index) places ∙ named n
