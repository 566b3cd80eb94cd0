-- What an index holds as a finite map, and how that changes with it.
use Rattle.std.proofs.Common.{◌≡◌, ℕ, ◌+◌, add-one, nat_eq, Bool, true, false, cond, List, [], ◌∷◌, length, map, Option, Some, None, refl, sym, ap, ◌∙◌}
use Rattle.std.specs.Option.{option_map, is_some}
use Rattle.std.specs.Ordering.{nat_cmp, eq_by_cmp}
use Rattle.std.specs.Cmp.{nat_cmp_total, eq_by_cmp_equiv, unsigned_tied}
use Rattle.std.specs.List.{IsDistinct, AllByRecursion}
use Rattle.std.specs.Map.{lookup, keys_of}
use Rattle.std.specs.FinMap.{find, get, contains_key, insert, remove, len, len-empty, len-insert, get-from_entries, get-insert, get-remove, same_map, nat_cmp-IsAntisymmetric}
use Rattle.std.proofs.lemmas.Map.Made.{lookup-map_values}
use Rattle.file_device.specs.declared.place.Place.{Place}
use Rattle.file_device.specs.Places.{bytes_at, place_of, contents_of, ChangesAt}

-- the bytes of a place, if there is one
abbrev pub bytes_of : Option Place → Option (List ℕ)
bytes_of = option_map (λ place. bytes_at place)

find-lookup : (entries : List (ℕ × List ℕ)) (id : ℕ) → find nat_cmp id entries ≡ lookup (nat_eq id) entries
find-lookup [] id = refl
find-lookup (e ∷ entries) id =
    ap (cond (eq_by_cmp nat_cmp id e.0) (Some e.1)) (find-lookup entries id)
    ∙ ap (λ b. cond b (Some e.1) (lookup (nat_eq id) entries)) (unsigned_tied id e.0)

pub get-contents_of : (entries : List (ℕ × Place)) (id : ℕ) → get (contents_of entries) id ≡ bytes_of (place_of entries id)
get-contents_of entries id =
    get-from_entries nat_cmp_total (map (λ e. (e.0, bytes_at e.1)) entries) id
    ∙ find-lookup (map (λ e. (e.0, bytes_at e.1)) entries) id
    ∙ lookup-map_values (λ place. bytes_at place) (nat_eq id) entries

bytes_of-cond : (b : Bool) (one other : Option Place) → bytes_of (cond b one other) ≡ cond b (bytes_of one) (bytes_of other)
bytes_of-cond true one other = refl
bytes_of-cond false one other = refl

get-changed : (old new : List (ℕ × Place)) (id : ℕ) (found : Option Place) → ChangesAt old new id found → (other : ℕ) → get (contents_of new) other ≡ cond (eq_by_cmp nat_cmp other id) (bytes_of found) (get (contents_of old) other)
get-changed old new id found changes other =
    get-contents_of new other ∙ ap bytes_of (changes other) ∙ bytes_of-cond (nat_eq id other) found (place_of old other)
    ∙ ap (λ b. cond b (bytes_of found) (bytes_of (place_of old other))) (sym (unsigned_tied id other) ∙ (eq_by_cmp_equiv nat_cmp_total).symm id other)
    ∙ ap (cond (eq_by_cmp nat_cmp other id) (bytes_of found)) (sym (get-contents_of old other))

pub contents_of-insert : (old new : List (ℕ × Place)) (id : ℕ) (place : Place) (bytes : List ℕ) → bytes_at place ≡ bytes → ChangesAt old new id (Some place) → contents_of new ≡ insert (contents_of old) id bytes
contents_of-insert old new id place bytes same changes =
    same_map nat_cmp_total nat_cmp-IsAntisymmetric (contents_of new) (insert (contents_of old) id (bytes_at place))
    (λ other. get-changed old new id (Some place) changes other ∙ sym (get-insert nat_cmp_total (contents_of old) id (bytes_at place) other))
    ∙ ap (insert (contents_of old) id) same

pub contents_of-remove : (old new : List (ℕ × Place)) (id : ℕ) → ChangesAt old new id None → contents_of new ≡ remove (contents_of old) id
contents_of-remove old new id changes =
    same_map nat_cmp_total nat_cmp-IsAntisymmetric (contents_of new) (remove (contents_of old) id)
    (λ other. get-changed old new id None changes other ∙ sym (get-remove nat_cmp_total (contents_of old) id other))

is_some-bytes_of : (found : Option Place) → is_some (bytes_of found) ≡ is_some found
is_some-bytes_of None = refl
is_some-bytes_of (Some place) = refl

-- whether an id is in the map, by its place
pub contains_key-contents_of : (entries : List (ℕ × Place)) (id : ℕ) → contains_key (contents_of entries) id ≡ is_some (place_of entries id)
contains_key-contents_of entries id = ap is_some (get-contents_of entries id) ∙ is_some-bytes_of (place_of entries id)

-- the bytes at an id, by its place
pub get-at_place : (entries : List (ℕ × Place)) (id : ℕ) (place : Place) → Some place ≡ place_of entries id → get (contents_of entries) id ≡ Some (bytes_at place)
get-at_place entries id place found = get-contents_of entries id ∙ ap bytes_of (sym found)

-- a key that no entry has
no_place : (id : ℕ) (entries : List (ℕ × Place)) → AllByRecursion (λ other. nat_eq id other ≡ false) (keys_of entries) → is_some (place_of entries id) ≡ false
no_place id [] others = refl
no_place id (e ∷ entries) others = ap (λ b. is_some (cond b (Some e.1) (place_of entries id))) others.0 ∙ no_place id entries others.1

-- an index with each id once has an entry for each object
pub len-contents_of : (entries : List (ℕ × Place)) → IsDistinct nat_eq (keys_of entries) → len (contents_of entries) ≡ length entries
unfolding IsDistinct
len-contents_of [] unique = len-empty nat_cmp (List ℕ)
len-contents_of (e ∷ entries) unique =
    len-insert nat_cmp_total (contents_of entries) e.0 (bytes_at e.1)
    ∙ ap (λ b. cond b (len (contents_of entries)) (len (contents_of entries) + 1)) (contains_key-contents_of entries e.0 ∙ no_place e.0 entries unique.0)
    ∙ (ap (λ n. n + 1) (len-contents_of entries unique.1) ∙ add-one (length entries))
