-- What a hash map's entries hold as a finite map, and how that changes with them.
use Rattle.std.proofs.Common.{◌≡◌, ℕ, nat_eq, Bool, true, false, cond, List, [], ◌∷◌, map, Option, Some, None, refl, sym, ap, ◌∙◌}
use Rattle.std.specs.Global.{Vec}
use Rattle.std.specs.Option.{option_map, is_some}
use Rattle.std.specs.Ordering.{nat_cmp, eq_by_cmp}
use Rattle.std.specs.Cmp.{nat_cmp_total, eq_by_cmp_equiv, unsigned_tied}
use Rattle.std.specs.Map.{lookup}
use Rattle.std.specs.FinMap.{find, get, contains_key, insert, remove, get-from_entries, get-insert, get-remove, same_map, nat_cmp-IsAntisymmetric}
use Rattle.std.proofs.lemmas.Map.Made.{lookup-map_values}
use Rattle.far_device.specs.DeviceState.{Contents}
use Rattle.far_device.specs.Fake.{contents_of}

-- the vector that the entries have at an id
abbrev pub kept_at : List (ℕ × Vec ℕ) → ℕ → Option (Vec ℕ)
kept_at es id = lookup (nat_eq id) es

find-lookup : (es : List (ℕ × List ℕ)) (q : ℕ) → find nat_cmp q es ≡ lookup (nat_eq q) es
find-lookup [] q = refl
find-lookup (e ∷ es) q =
    ap (cond (eq_by_cmp nat_cmp q e.0) (Some e.1)) (find-lookup es q)
    ∙ ap (λ b. cond b (Some e.1) (lookup (nat_eq q) es)) (unsigned_tied q e.0)

pub get-contents_of : (es : List (ℕ × Vec ℕ)) (q : ℕ) → get (contents_of es) q ≡ option_map (λ v. v.items) (kept_at es q)
get-contents_of es q =
    get-from_entries nat_cmp_total (map (λ e. (e.0, e.1.items)) es) q
    ∙ find-lookup (map (λ e. (e.0, e.1.items)) es) q
    ∙ lookup-map_values (λ v. v.items) (nat_eq q) es

option_map-cond : (b : Bool) (w o : Option (Vec ℕ)) → option_map (λ v. v.items) (cond b w o) ≡ cond b (option_map (λ v. v.items) w) (option_map (λ v. v.items) o)
option_map-cond true w o = refl
option_map-cond false w o = refl

-- the entries fs have w at id, and else what es have
abbrev pub ChangedAt : List (ℕ × Vec ℕ) → List (ℕ × Vec ℕ) → ℕ → Option (Vec ℕ) → Type 0
ChangedAt es fs id w = (q : ℕ) → kept_at fs q ≡ cond (nat_eq id q) w (kept_at es q)

get-changed : (es fs : List (ℕ × Vec ℕ)) (id : ℕ) (w : Option (Vec ℕ)) → ChangedAt es fs id w → (q : ℕ) → get (contents_of fs) q ≡ cond (eq_by_cmp nat_cmp q id) (option_map (λ v. v.items) w) (get (contents_of es) q)
get-changed es fs id w changed q =
    get-contents_of fs q ∙ ap (option_map (λ v. v.items)) (changed q) ∙ option_map-cond (nat_eq id q) w (kept_at es q)
    ∙ ap (λ b. cond b (option_map (λ v. v.items) w) (option_map (λ v. v.items) (kept_at es q))) (sym (unsigned_tied id q) ∙ (eq_by_cmp_equiv nat_cmp_total).symm id q)
    ∙ ap (cond (eq_by_cmp nat_cmp q id) (option_map (λ v. v.items) w)) (sym (get-contents_of es q))

pub contents_of-insert : (es fs : List (ℕ × Vec ℕ)) (id : ℕ) (v : Vec ℕ) (bytes : List ℕ) → v.items ≡ bytes → ChangedAt es fs id (Some v) → contents_of fs ≡ insert (contents_of es) id bytes
contents_of-insert es fs id v bytes same changed =
    same_map nat_cmp_total nat_cmp-IsAntisymmetric (contents_of fs) (insert (contents_of es) id v.items)
    (λ q. get-changed es fs id (Some v) changed q ∙ sym (get-insert nat_cmp_total (contents_of es) id v.items q))
    ∙ ap (insert (contents_of es) id) same

pub contents_of-remove : (es fs : List (ℕ × Vec ℕ)) (id : ℕ) → ChangedAt es fs id None → contents_of fs ≡ remove (contents_of es) id
contents_of-remove es fs id changed =
    same_map nat_cmp_total nat_cmp-IsAntisymmetric (contents_of fs) (remove (contents_of es) id)
    (λ q. get-changed es fs id None changed q ∙ sym (get-remove nat_cmp_total (contents_of es) id q))

is_some-option_map : (o : Option (Vec ℕ)) → is_some (option_map (λ v. v.items) o) ≡ is_some o
is_some-option_map None = refl
is_some-option_map (Some v) = refl

-- whether an id is in the map, by the entry there
pub contains_key-contents_of : (es : List (ℕ × Vec ℕ)) (m : Contents) (id : ℕ) (o : Option (Vec ℕ)) → contents_of es ≡ m → o ≡ kept_at es id → contains_key m id ≡ is_some o
contains_key-contents_of es m id o view found =
    ap (λ n. contains_key n id) (sym view) ∙ ap is_some (get-contents_of es id) ∙ is_some-option_map (kept_at es id) ∙ ap is_some (sym found)

-- the bytes at an id, by the entry there
pub get-of_kept : (es : List (ℕ × Vec ℕ)) (m : Contents) (id : ℕ) (v : Vec ℕ) → contents_of es ≡ m → Some v ≡ kept_at es id → get m id ≡ Some v.items
get-of_kept es m id v view found = ap (λ n. get n id) (sym view) ∙ get-contents_of es id ∙ ap (option_map (λ w. w.items)) (sym found)
