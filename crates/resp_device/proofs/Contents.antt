-- What an index holds as a finite map, and how that changes with it.
use Rattle.std.proofs.Common.{◌≡◌, inl, inr, ℕ, ◌+◌, add-one, nat_eq, Bool, true, false, cond, List, [], ◌∷◌, length, map, Option, Some, None, refl, sym, ap, ◌∙◌}
use Rattle.std.specs.Option.{option_map, is_some}
use Rattle.std.specs.Ordering.{nat_cmp, eq_by_cmp}
use Rattle.std.specs.Cmp.{nat_cmp_total, eq_by_cmp_equiv, unsigned_tied}
use Rattle.std.specs.List.{IsDistinct, AllByRecursion}
use Rattle.std.specs.Map.{lookup, keys_of}
use Rattle.std.specs.FinMap.{find, get, contains_key, insert, remove, len, len-empty, len-insert, get-from_entries, get-insert, get-remove, same_map, nat_cmp-IsAntisymmetric}
use Rattle.std.proofs.lemmas.Bool.Decides.{eqb_tells}
use Rattle.std.proofs.lemmas.Map.Made.{lookup-map_values}
use Rattle.far_device.specs.DeviceState.{SameExceptAt}
use Rattle.resp_device.specs.declared.object_record.Kept.{Kept}
use Rattle.resp_device.specs.Objects.{bytes_of, kept_at, contents_of, ChangesAt}

-- the bytes of what is kept, if there is something
abbrev found_bytes : Option Kept → Option (List ℕ)
found_bytes = option_map (λ kept. bytes_of kept)

find-lookup : (entries : List (ℕ × List ℕ)) (id : ℕ) → find nat_cmp id entries ≡ lookup (nat_eq id) entries
find-lookup [] id = refl
find-lookup (e ∷ entries) id =
    ap (cond (eq_by_cmp nat_cmp id e.0) (Some e.1)) (find-lookup entries id)
    ∙ ap (λ b. cond b (Some e.1) (lookup (nat_eq id) entries)) (unsigned_tied id e.0)

pub get-contents_of : (entries : List (ℕ × Kept)) (id : ℕ) → get (contents_of entries) id ≡ found_bytes (kept_at entries id)
get-contents_of entries id =
    get-from_entries nat_cmp_total (map (λ e. (e.0, bytes_of e.1)) entries) id
    ∙ find-lookup (map (λ e. (e.0, bytes_of e.1)) entries) id
    ∙ lookup-map_values (λ kept. bytes_of kept) (nat_eq id) entries

found_bytes-cond : (b : Bool) (one other : Option Kept) → found_bytes (cond b one other) ≡ cond b (found_bytes one) (found_bytes other)
found_bytes-cond true one other = refl
found_bytes-cond false one other = refl

get-changed : (old new : List (ℕ × Kept)) (id : ℕ) (found : Option Kept) → ChangesAt old new id found → (other : ℕ) → get (contents_of new) other ≡ cond (eq_by_cmp nat_cmp other id) (found_bytes found) (get (contents_of old) other)
get-changed old new id found changes other =
    get-contents_of new other ∙ ap found_bytes (changes other) ∙ found_bytes-cond (nat_eq id other) found (kept_at old other)
    ∙ ap (λ b. cond b (found_bytes found) (found_bytes (kept_at old other))) (sym (unsigned_tied id other) ∙ (eq_by_cmp_equiv nat_cmp_total).symm id other)
    ∙ ap (cond (eq_by_cmp nat_cmp other id) (found_bytes found)) (sym (get-contents_of old other))

pub contents_of-insert : (old new : List (ℕ × Kept)) (id : ℕ) (kept : Kept) (bytes : List ℕ) → bytes_of kept ≡ bytes → ChangesAt old new id (Some kept) → contents_of new ≡ insert (contents_of old) id bytes
contents_of-insert old new id kept bytes same changes =
    same_map nat_cmp_total nat_cmp-IsAntisymmetric (contents_of new) (insert (contents_of old) id (bytes_of kept))
    (λ other. get-changed old new id (Some kept) changes other ∙ sym (get-insert nat_cmp_total (contents_of old) id (bytes_of kept) other))
    ∙ ap (insert (contents_of old) id) same

pub contents_of-remove : (old new : List (ℕ × Kept)) (id : ℕ) → ChangesAt old new id None → contents_of new ≡ remove (contents_of old) id
contents_of-remove old new id changes =
    same_map nat_cmp_total nat_cmp-IsAntisymmetric (contents_of new) (remove (contents_of old) id)
    (λ other. get-changed old new id None changes other ∙ sym (get-remove nat_cmp_total (contents_of old) id other))

-- an index that changed at an id says the same of all others
pub same_elsewhere : (old new : List (ℕ × Kept)) (id : ℕ) (found : Option Kept) → ChangesAt old new id found → SameExceptAt (contents_of old) (contents_of new) id
same_elsewhere old new id found changes other apart =
    let apart_too : nat_eq id other ≡ false = elim (eqb_tells id other) [
      | inl e ↦ absurd (apart (sym e.1))
      | inr e ↦ e.0
    ] in
    get-contents_of new other ∙ ap found_bytes (changes other ∙ ap (λ b. cond b found (kept_at old other)) apart_too) ∙ sym (get-contents_of old other)

-- an id without an object can be taken out
pub absent_stays : (entries : List (ℕ × Kept)) (id : ℕ) → kept_at entries id ≡ None → ChangesAt entries entries id None
absent_stays entries id none other =
    elim (eqb_tells id other) [
      | inl e ↦ ap (kept_at entries) (sym e.1) ∙ (none ∙ sym (ap (λ b. cond b None (kept_at entries other)) e.0))
      | inr e ↦ sym (ap (λ b. cond b None (kept_at entries other)) e.0)
    ]

cond-twice : (b : Bool) (x y z : Option Kept) → cond b x (cond b y z) ≡ cond b x z
cond-twice true x y z = refl
cond-twice false x y z = refl

-- of two changes at an id the second stays
pub changed_twice : (old mid new : List (ℕ × Kept)) (id : ℕ) (first second : Option Kept) → ChangesAt old mid id first → ChangesAt mid new id second → ChangesAt old new id second
changed_twice old mid new id first second changes more other =
    more other ∙ (ap (cond (nat_eq id other) second) (changes other) ∙ cond-twice (nat_eq id other) second first (kept_at old other))

is_some-found_bytes : (found : Option Kept) → is_some (found_bytes found) ≡ is_some found
is_some-found_bytes None = refl
is_some-found_bytes (Some kept) = refl

-- whether an id is in the map, by what is kept of it
pub contains_key-contents_of : (entries : List (ℕ × Kept)) (id : ℕ) → contains_key (contents_of entries) id ≡ is_some (kept_at entries id)
contains_key-contents_of entries id = ap is_some (get-contents_of entries id) ∙ is_some-found_bytes (kept_at entries id)

-- the bytes at an id, by what is kept of it
pub get-at_kept : (entries : List (ℕ × Kept)) (id : ℕ) (kept : Kept) → Some kept ≡ kept_at entries id → get (contents_of entries) id ≡ Some (bytes_of kept)
get-at_kept entries id kept found = get-contents_of entries id ∙ ap found_bytes (sym found)

-- a key that no entry has
not_kept : (id : ℕ) (entries : List (ℕ × Kept)) → AllByRecursion (λ other. nat_eq id other ≡ false) (keys_of entries) → is_some (kept_at entries id) ≡ false
not_kept id [] others = refl
not_kept id (e ∷ entries) others = ap (λ b. is_some (cond b (Some e.1) (kept_at entries id))) others.0 ∙ not_kept id entries others.1

-- an index with each id once has an entry for each object
pub len-contents_of : (entries : List (ℕ × Kept)) → IsDistinct nat_eq (keys_of entries) → len (contents_of entries) ≡ length entries
unfolding IsDistinct
len-contents_of [] unique = len-empty nat_cmp (List ℕ)
len-contents_of (e ∷ entries) unique =
    len-insert nat_cmp_total (contents_of entries) e.0 (bytes_of e.1)
    ∙ ap (λ b. cond b (len (contents_of entries)) (len (contents_of entries) + 1)) (contains_key-contents_of entries e.0 ∙ not_kept e.0 entries unique.0)
    ∙ (ap (λ n. n + 1) (len-contents_of entries unique.1) ∙ add-one (length entries))
