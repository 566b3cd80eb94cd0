-- Where the object begins in bytes of either format.
use Rattle.std.proofs.Common.{◌≡◌, ℕ, ◌/◌, ◌%◌, ◌^◌, ◌<◌, ◌≤◌, List, ◌++◌, Bool, true, false, length, take, drop, refl, ap, sym, ◌∙◌, arith, inl, inr}
use Rattle.std.proofs.lemmas.Slice.Eq.{starts_is}
use Rattle.std.proofs.lemmas.Bool.Decides.{Decides-eqb, nat_tests}
use Rattle.std.proofs.lemmas.Nat.{from_be_bytes-to_be_bytes_4, from_be_bytes-to_be_bytes_8}
use Rattle.std.specs.Int.{w32, w64, from_be_bytes}
use Rattle.std.specs.Prelude.{Option, Some, Ok, Err, nat_eq, ltb, if◌then◌else◌, ◌⊎◌}
use Rattle.std.specs.List.{starts_with}
use Rattle.far_object.specs.declared.fault.ObjectFault.{ObjectFault}
use Rattle.far_object.specs.declared.fault.ObjectFault.TheVariants.{Short, Misplaced}
use Rattle.far_object.specs.declared.format.Format.{Format}
use Rattle.far_object.specs.declared.format.Format.TheVariants.{One, Two}
use Rattle.far_object.specs.Faults.{fault_behind_start}
use Rattle.far_object.specs.Laws.{IsMisplacedElsewhere}
use Rattle.far_object.specs.Formats.{marker, header_of, spelling, start_of}
use Rattle.far_object.specs.Objects.{object_of, IsMap}

module _ (bucket name : ℕ) where
  -- the object stands behind the header, or there is none
  IsHeaded : List ℕ → ℕ → Type 0
  IsHeaded bytes start = ((start ≡ 16) × (bytes ≡ header_of bucket name ++ drop 16 bytes)) ⊎ (start ≡ 0)

  headed : (bytes : List ℕ) (start : ℕ) → Ok start ≡ start_of bucket name bytes → IsHeaded bytes start
  unfolding IsHeaded
  headed bytes start e = at_marker (starts_with nat_eq bytes marker) e
    where
      at_length : (b : Bool) → Ok start ≡ (if b then Err Short else Err Misplaced) → IsHeaded bytes start
      at_length true e = cc
      at_length false e = cc

      at_header : (b : Bool) → starts_with nat_eq bytes (header_of bucket name) ≡ b → Ok start ≡ (if b then Ok 16 else if ltb (length bytes) 16 then Err Short else Err Misplaced) → IsHeaded bytes start
      at_header true h e = inl (cc, (starts_is Decides-eqb bytes (header_of bucket name) true (sym h)).0 refl)
      at_header false h e = at_length (ltb (length bytes) 16) e

      at_marker : (b : Bool) → Ok start ≡ (if b then (if starts_with nat_eq bytes (header_of bucket name) then Ok 16 else if ltb (length bytes) 16 then Err Short else Err Misplaced) else Ok 0) → IsHeaded bytes start
      at_marker true e = at_header (starts_with nat_eq bytes (header_of bucket name)) refl e
      at_marker false e = inr cc

not_marked : (n : ℕ) → n ≤ 1048576 → nat_eq 255 (n / 16777216 % 256) ≡ false
not_marked n h = grind (arith, nat_tests)

start_in : Format → ℕ
start_in One = 0
start_in Two = 16

module _ {K V : Type 0} (ek : K → List ℕ) (ev : V → List ℕ) (AK : K → Type 0) (AV : V → Type 0) where
  -- no object begins with the marker
  unmarked : (es : List (K × V)) → IsMap ek AK AV es → starts_with nat_eq (object_of ek ev es) marker ≡ false
  unmarked es m = rw (not_marked (length es) m.few) refl

  module _ (bucket name : ℕ) where
    start_is : (f : Format) (es : List (K × V)) → IsMap ek AK AV es → start_of bucket name (spelling ek ev f bucket name es) ≡ Ok (start_in f)
    unfolding start_in
    start_is One es m =
        ap (λ (b : Bool). if b then (if starts_with nat_eq (object_of ek ev es) (header_of bucket name) then Ok 16 else if ltb (length (object_of ek ev es)) 16 then Err Short else Err Misplaced) else Ok 0) (unmarked es m)
    start_is Two es m =
        let bytes = header_of bucket name ++ object_of ek ev es in
        let t : starts_with nat_eq bytes (header_of bucket name) ≡ true = (starts_is Decides-eqb bytes (header_of bucket name) (starts_with nat_eq bytes (header_of bucket name)) refl).1 (object_of ek ev es) refl in
        ap (λ (b : Bool). if b then Ok 16 else if ltb (length bytes) 16 then Err Short else Err Misplaced) t

    behind_start : (f : Format) (es : List (K × V)) → drop (start_in f) (spelling ek ev f bucket name es) ≡ object_of ek ev es
    unfolding start_in
    behind_start One es = refl
    behind_start Two es = refl

    -- a spelling has its object behind its start
    pub object_behind : (bytes : List ℕ) (start : ℕ) (f : Format) (es : List (K × V)) → Ok start ≡ start_of bucket name bytes → bytes ≡ spelling ek ev f bucket name es → IsMap ek AK AV es → drop start bytes ≡ object_of ek ev es
    object_behind bytes start f es e b m =
        let s : Ok start ≡ Ok (start_in f) = e ∙ (ap (λ z. start_of bucket name z) b ∙ start_is f es m) in
        let t : start ≡ start_in f = cc in
        ap (λ z. drop start z) b ∙ (ap (λ n. drop n (spelling ek ev f bucket name es)) t ∙ behind_start f es)

    -- a spelling has a start
    pub never_misplaced : (bytes : List ℕ) (fault : ObjectFault) (f : Format) (es : List (K × V)) → Err fault ≡ start_of bucket name bytes → bytes ≡ spelling ek ev f bucket name es → IsMap ek AK AV es → ⊥
    never_misplaced bytes fault f es e b m =
        let s : Err fault ≡ Ok (start_in f) = e ∙ (ap (λ z. start_of bucket name z) b ∙ start_is f es m) in cc

  -- what has an object behind its start is a spelling
  pub spelled : (bucket name : ℕ) (bytes : List ℕ) (start : ℕ) (es : List (K × V)) → Ok start ≡ start_of bucket name bytes → drop start bytes ≡ object_of ek ev es → (f : Format) × (bytes ≡ spelling ek ev f bucket name es)
  unfolding IsHeaded
  spelled bucket name bytes start es e o =
      elim (headed bucket name bytes start e) [
        | inl p ↦ (Two, p.1 ∙ ap (λ z. header_of bucket name ++ z) (ap (λ n. drop n bytes) (sym p.0) ∙ o))
        | inr p ↦ (One, ap (λ n. drop n bytes) (sym p) ∙ o)
      ]

  -- spellings that are alike are of one format, and their objects are alike
  pub same_start : (f g : Format) (bucket name bucket' name' : ℕ) (es fs : List (K × V)) → IsMap ek AK AV es → IsMap ek AK AV fs → spelling ek ev f bucket name es ≡ spelling ek ev g bucket' name' fs → (f ≡ g) × (object_of ek ev es ≡ object_of ek ev fs)
  same_start One One bucket name bucket' name' es fs m n e = (refl, e)
  same_start Two Two bucket name bucket' name' es fs m n e = (refl, ap (λ z. drop 16 z) e)
  same_start One Two bucket name bucket' name' es fs m n e =
      let t : true ≡ false = ap (λ z. starts_with nat_eq z marker) (sym e) ∙ unmarked es m in cc
  same_start Two One bucket name bucket' name' es fs m n e =
      let t : true ≡ false = ap (λ z. starts_with nat_eq z marker) e ∙ unmarked fs n in cc

same_header : (bucket name bucket' name' : ℕ) → bucket < 2 ^ 32 → bucket' < 2 ^ 32 → name < 2 ^ 64 → name' < 2 ^ 64 → header_of bucket name ≡ header_of bucket' name' → (bucket ≡ bucket') × (name ≡ name')
same_header bucket name bucket' name' b b' n n' e = (
  sym (from_be_bytes-to_be_bytes_4 bucket b) ∙ (ap (λ z. from_be_bytes w32 (take 4 (drop 4 z))) e ∙ from_be_bytes-to_be_bytes_4 bucket' b'),
  sym (from_be_bytes-to_be_bytes_8 name n) ∙ (ap (λ z. from_be_bytes w64 (drop 8 z)) e ∙ from_be_bytes-to_be_bytes_8 name' n'),
)

module _ {K V : Type 0} (ek : K → List ℕ) (ev : V → List ℕ) (dk : List ℕ → Option K) (dv : List ℕ → Option V) where
  pub misplaced_elsewhere : IsMisplacedElsewhere ek ev dk dv
  misplaced_elsewhere bucket name bucket' name' es b b' n n' other = go (starts_with nat_eq bytes (header_of bucket' name')) refl
    where
      bytes : List ℕ
      bytes = header_of bucket name ++ object_of ek ev es

      long : ltb (length bytes) 16 ≡ false
      long = grind (arith, nat_tests)

      go : (t : Bool) → starts_with nat_eq bytes (header_of bucket' name') ≡ t → fault_behind_start ek ev dk dv bytes (if t then Ok 16 else if ltb (length bytes) 16 then Err Short else Err Misplaced) ≡ Some Misplaced
      go true h =
          let p : bytes ≡ header_of bucket' name' ++ drop 16 bytes = (starts_is Decides-eqb bytes (header_of bucket' name') true (sym h)).0 refl in
          absurd (other (same_header bucket name bucket' name' b b' n n' (ap (λ z. take 16 z) p)))
      go false h = ap (λ (l : Bool). fault_behind_start ek ev dk dv bytes (if l then Err Short else Err Misplaced)) long
