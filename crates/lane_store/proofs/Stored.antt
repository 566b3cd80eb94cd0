-- What becomes of the buckets of a lane's names, and of what they stand for.
use Rattle.std.proofs.Common.{◌≡◌, ◌≢◌, ℕ, ◌==◌, Bool, true, false, nat_eq, cond, if◌then◌else◌, List, [], ◌∷◌, ◌++◌, Option, Some, None, Ordering, Less, Equal, Greater, refl, sym, ap, subst, ◌∙◌, arith}
use Rattle.std.proofs.lemmas.Bool.Decides.{nat_tests}
use Rattle.std.specs.Map.{lookup}
use Rattle.std.specs.Option.{option_map}
use Rattle.std.specs.Ordering.{nat_cmp, eq_by_cmp, is_eq}
use Rattle.std.specs.Cmp.{nat_cmp_total, eq_by_cmp_equiv}
use Rattle.std.specs.FinMap.{get, insert, remove, get-insert, get-remove, nat_cmp-IsAntisymmetric}
use mathlib.Core.List.{IsPrefix}
use Rattle.far_object.specs.declared.format.Format.{Format}
use Rattle.far_object.specs.Formats.{spelling}
use Rattle.far_object.specs.Objects.{IsMap}
use Rattle.far_device.specs.DeviceState.{Contents, SameExceptAt}
use Rattle.far_device.specs.Calls.{Labels, AreNone, AreSame, Relabels}
use Rattle.table_core.specs.declared.event.Event.{Event}
use Rattle.table_core.specs.declared.event.Event.TheVariants.{Enter, Named, Done, Moved}
use Rattle.table_core.specs.declared.limits.Limits.{Limits}
use Rattle.table_core.specs.Logs.{naming, contents, pairs_of}
use Rattle.table_core.specs.Lawful.{IsDrawn, IsLawful}
use Rattle.version_words.specs.Views.{NameView, IsName, name_of_parts}
use Rattle.lane_store.specs.Lanes.{IsStored, AreStored, ChangedAt, either, bucket_of}

-- ---- devices

-- at every other id
pick_other : {X : Type 0} (q n : ℕ) (v w : Option X) → q ≢ n → cond (eq_by_cmp nat_cmp q n) v w ≡ w
pick_other q n v w ne = at (nat_cmp q n) refl
  where
    at : (o : Ordering) → nat_cmp q n ≡ o → cond (is_eq (nat_cmp q n)) v w ≡ w
    at Less e = ap (λ o. cond (is_eq o) v w) e
    at Equal e = absurd (ne (nat_cmp-IsAntisymmetric q n e))
    at Greater e = ap (λ o. cond (is_eq o) v w) e

pub same_removed : (kept kept2 : Contents) (n : ℕ) → kept2 ≡ remove kept n → SameExceptAt kept kept2 n
same_removed kept kept2 n is q ne = ap (λ m. get m q) is ∙ get-remove nat_cmp_total kept n q ∙ pick_other q n None (get kept q) ne

pub same_inserted : (kept kept2 : Contents) (n : ℕ) (bytes : List ℕ) → kept2 ≡ insert kept n bytes → SameExceptAt kept kept2 n
same_inserted kept kept2 n bytes is q ne = ap (λ m. get m q) is ∙ get-insert nat_cmp_total kept n bytes q ∙ pick_other q n (Some bytes) (get kept q) ne

pub inserted : (kept kept2 : Contents) (n : ℕ) (bytes : List ℕ) → kept2 ≡ insert kept n bytes → get kept2 n ≡ Some bytes
inserted kept kept2 n bytes is = ap (λ m. get m n) is ∙ get-insert nat_cmp_total kept n bytes n ∙ ap (λ b. cond b (Some bytes) (get kept n)) ((eq_by_cmp_equiv nat_cmp_total).refl n)

-- ---- buckets

-- what is changed twice at one number has what came last
pub changed_twice : (bs cs ds : List (ℕ × ℕ)) (n : ℕ) (r q : Option ℕ) → ChangedAt bs cs n r → ChangedAt cs ds n q → ChangedAt bs ds n q
changed_twice bs cs ds n r q first last m = last m ∙ (ap (cond (nat_eq n m) q) (first m) ∙ by (nat_eq n m) (lookup (nat_eq m) bs))
  where
    by : (t : Bool) (x : Option ℕ) → cond t q (cond t r x) ≡ cond t q x
    by true x = refl
    by false x = refl

pub bucket_here : (ls ms : Labels) (bs cs : List (ℕ × ℕ)) (n : ℕ) (label r : Option ℕ) → Relabels ls ms n label → ChangedAt bs cs n r → bucket_of ms cs n ≡ either label r
bucket_here ls ms bs cs n label r labelled changed =
    let here : nat_eq n n ≡ true = grind (arith, nat_tests) in
    ap (λ o. either o (lookup (nat_eq n) cs)) labelled.here ∙ ap (either label) (changed n ∙ ap (λ t. cond t r (lookup (nat_eq n) bs)) here)

pub bucket_elsewhere : (ls ms : Labels) (bs cs : List (ℕ × ℕ)) (n : ℕ) (label r : Option ℕ) → Relabels ls ms n label → ChangedAt bs cs n r
    → (other : ℕ) → other ≢ n → bucket_of ms cs other ≡ bucket_of ls bs other
bucket_elsewhere ls ms bs cs n label r labelled changed other ne =
    let apart : nat_eq n other ≡ false = grind (arith, nat_tests) in
    ap (λ o. either o (lookup (nat_eq other) cs)) (labelled.others other ne) ∙ ap (either (ls other)) (changed other ∙ ap (λ t. cond t r (lookup (nat_eq other) bs)) apart)

-- without labels, and where one bucket went
pub relabels_none : (ls : Labels) (n : ℕ) → AreNone ls → Relabels ls ls n None
relabels_none ls n none = record { here = none n; others = λ other ne. refl }

pub still_none : (ls ms : Labels) (n : ℕ) → AreNone ls → Relabels ls ms n None → AreNone ms
still_none ls ms n none labelled m = at (nat_eq m n) refl
  where
    at : (t : Bool) → nat_eq m n ≡ t → ms m ≡ None
    at true e = let is : m ≡ n = grind (arith, nat_tests) in ap ms is ∙ labelled.here
    at false e = let ne : m ≢ n = grind (arith, nat_tests) in labelled.others m ne ∙ none m

pub bucket_same : (ls ms : Labels) (bs : List (ℕ × ℕ)) → AreSame ls ms → (n : ℕ) → bucket_of ms bs n ≡ bucket_of ls bs n
bucket_same ls ms bs same n = ap (λ o. either o (lookup (nat_eq n) bs)) (same n)

-- the label, or else what the lane keeps
pub by_label : (ls : Labels) (bs : List (ℕ × ℕ)) (n b : ℕ) → ls n ≡ Some b → bucket_of ls bs n ≡ Some b
by_label ls bs n b found = ap (λ o. either o (lookup (nat_eq n) bs)) found

pub by_bucket : (ls : Labels) (bs : List (ℕ × ℕ)) (n : ℕ) (found : Option ℕ) → ls n ≡ None → lookup (nat_eq n) bs ≡ found → bucket_of ls bs n ≡ found
by_bucket ls bs n found none is = ap (λ o. either o (lookup (nat_eq n) bs)) none ∙ is

-- ---- logs

module _ {K V : Type 0} where
  naming_stays : (log more : List (Event K V)) (n : ℕ) (t : ℕ × List (K × V)) → naming log n ≡ Some t → naming (log ++ more) n ≡ Some t
  naming_stays [] more n t is = absurd (cc is)
  naming_stays (Enter p ∷ log) more n t is = naming_stays log more n t is
  naming_stays (Named m b es ∷ log) more n t is = by (m == n) (naming_stays log more n t) is
    where
      by : (c : Bool) → (naming log n ≡ Some t → naming (log ++ more) n ≡ Some t) → (if c then Some (b, es) else naming log n) ≡ Some t → (if c then Some (b, es) else naming (log ++ more) n) ≡ Some t
      by true stays is = is
      by false stays is = stays is
  naming_stays (Done p op w ∷ log) more n t is = naming_stays log more n t is
  naming_stays (Moved b w ∷ log) more n t is = naming_stays log more n t is

  -- a name that was drawn stands for the same in each longer log
  pub naming_same : (front log : List (Event K V)) (n b : ℕ) → IsPrefix front log → IsDrawn front n b → naming log n ≡ naming front n
  naming_same front log n b pre drawn = by (naming front n) refl drawn
    where
      by : (o : Option (ℕ × List (K × V))) → naming front n ≡ o → option_map (λ t. t.0) o ≡ Some b → naming log n ≡ naming front n
      by None is found = absurd (cc found)
      by (Some t) is found = ap (λ (l : List (Event K V)). naming l n) (sym pre.1) ∙ (naming_stays front pre.0 n t is ∙ sym is)

module _ {K V : Type 0} (ek : K → List ℕ) (ev : V → List ℕ) (AK : K → Type 0) (AV : V → Type 0) (l : Limits) where
  -- what is stored is stored for a longer log too
  pub longer : (kept : Contents) (n b : ℕ) (front log : List (Event K V)) → IsPrefix front log → IsLawful ek ev l log
      → IsStored ek ev AK AV l kept (name_of_parts n b front) → IsStored ek ev AK AV l kept (name_of_parts n b log)
  longer kept n b front log pre lawful s =
      let same = naming_same front log n b pre s.own.drawn in
      let pairs : contents log n ≡ contents front n = ap pairs_of same in
      record {
        own = record { drawn = ap (option_map (λ t. t.0)) same ∙ s.own.drawn; here = s.own.here; same = refl; lawful = lawful };
        bytes = s.bytes;
        there = s.there;
        spelled = record { format = s.spelled.format; is = s.spelled.is ∙ ap (spelling ek ev s.spelled.format b n) (sym pairs); map = subst (IsMap ek AK AV) (sym pairs) s.spelled.map };
      }

  pub all_longer : (kept : Contents) (bucket : ℕ → Option ℕ) (front log : List (Event K V)) → IsPrefix front log → IsLawful ek ev l log → AreStored ek ev AK AV l kept bucket front → AreStored ek ev AK AV l kept bucket log
  all_longer kept bucket front log pre lawful are n b found = longer kept n b front log pre lawful (are n b found)

  -- before the first write no receipt stands
  pub none_before : (kept : Contents) (bucket : ℕ → Option ℕ) → AreStored ek ev AK AV l kept bucket [] → (n : ℕ) → bucket n ≡ None
  none_before kept bucket are n = at (bucket n) refl
    where
      at : (o : Option ℕ) → bucket n ≡ o → bucket n ≡ None
      at None is = is
      at (Some b) is = absurd (let drawn = (are n b is).own.drawn in cc drawn)

  -- the device and the buckets are as before
  pub kept_same : (kept kept2 : Contents) (bucket bucket2 : ℕ → Option ℕ) (log : List (Event K V)) → AreStored ek ev AK AV l kept bucket log → kept2 ≡ kept → ((n : ℕ) → bucket2 n ≡ bucket n)
      → AreStored ek ev AK AV l kept2 bucket2 log
  kept_same kept kept2 bucket bucket2 log are is same n b found =
      let s = are n b (sym (same n) ∙ found) in
      record { own = s.own; bytes = s.bytes; there = ap (λ m. get m n) is ∙ s.there; spelled = s.spelled }

  -- what a lane's type keeps of it
  abbrev pub IsSound : Contents → Labels → List (ℕ × ℕ) → List (Event K V) → Bool → Type 0
  IsSound kept labels buckets log labelled = AreStored ek ev AK AV l kept (bucket_of labels buckets) log × (labelled ≡ false → AreNone labels)

  -- a reading changes nothing
  pub sound_same : (kept kept2 : Contents) (ls ms : Labels) (bs : List (ℕ × ℕ)) (log : List (Event K V)) (labelled : Bool)
      → IsSound kept ls bs log labelled → kept2 ≡ kept → AreSame ls ms → IsSound kept2 ms bs log labelled
  sound_same kept kept2 ls ms bs log labelled sound is same =
      (kept_same kept kept2 (bucket_of ls bs) (bucket_of ms bs) log sound.0 is (bucket_same ls ms bs same), λ un n. same n ∙ sound.1 un n)

  -- one receipt went, and the device changed there alone
  pub dropped : (kept kept2 : Contents) (bucket bucket2 : ℕ → Option ℕ) (log : List (Event K V)) (n : ℕ) → AreStored ek ev AK AV l kept bucket log
      → bucket2 n ≡ None → ((other : ℕ) → other ≢ n → bucket2 other ≡ bucket other) → SameExceptAt kept kept2 n → AreStored ek ev AK AV l kept2 bucket2 log
  dropped kept kept2 bucket bucket2 log n are none others same m b found = at (nat_eq m n) refl
    where
      at : (t : Bool) → nat_eq m n ≡ t → IsStored ek ev AK AV l kept2 (name_of_parts m b log)
      at true e = absurd (let here : m ≡ n = grind (arith, nat_tests) in let gone : bucket2 m ≡ None = ap bucket2 here ∙ none in cc (gone, found))
      at false e =
          let ne : m ≢ n = grind (arith, nat_tests) in
          let s = are m b (sym (others m ne) ∙ found) in
          record { own = s.own; bytes = s.bytes; there = same m ne ∙ s.there; spelled = s.spelled }

  -- one receipt came, for what the device has there
  pub added : (kept kept2 : Contents) (bucket bucket2 : ℕ → Option ℕ) (log : List (Event K V)) (n b : ℕ) → AreStored ek ev AK AV l kept bucket log
      → bucket2 n ≡ Some b → ((other : ℕ) → other ≢ n → bucket2 other ≡ bucket other) → SameExceptAt kept kept2 n → IsStored ek ev AK AV l kept2 (name_of_parts n b log)
      → AreStored ek ev AK AV l kept2 bucket2 log
  added kept kept2 bucket bucket2 log n b are came others same new m c found = at (nat_eq m n) refl
    where
      at : (t : Bool) → nat_eq m n ≡ t → IsStored ek ev AK AV l kept2 (name_of_parts m c log)
      at true e =
          let here : n ≡ m = grind (arith, nat_tests) in
          let two : Some b ≡ Some c = sym came ∙ (ap bucket2 here ∙ found) in
          let is : b ≡ c = cc two in
          subst (λ k. IsStored ek ev AK AV l kept2 (name_of_parts m k log)) is (subst (λ k. IsStored ek ev AK AV l kept2 (name_of_parts k b log)) here new)
      at false e =
          let ne : m ≢ n = grind (arith, nat_tests) in
          let s = are m c (sym (others m ne) ∙ found) in
          record { own = s.own; bytes = s.bytes; there = same m ne ∙ s.there; spelled = s.spelled }

  pub sound_longer : (kept : Contents) (ls : Labels) (bs : List (ℕ × ℕ)) (front log : List (Event K V)) (labelled : Bool) → IsSound kept ls bs front labelled
      → IsPrefix front log → IsLawful ek ev l log → IsSound kept ls bs log labelled
  sound_longer kept ls bs front log labelled sound pre lawful = (all_longer kept (bucket_of ls bs) front log pre lawful sound.0, sound.1)

  pub sound_dropped : (kept kept2 : Contents) (ls ms : Labels) (bs cs : List (ℕ × ℕ)) (log : List (Event K V)) (labelled : Bool) (n : ℕ) → IsSound kept ls bs log labelled
      → Relabels ls ms n None → ChangedAt bs cs n None → SameExceptAt kept kept2 n → IsSound kept2 ms cs log labelled
  sound_dropped kept kept2 ls ms bs cs log labelled n sound gone forgotten same = (
    dropped kept kept2 (bucket_of ls bs) (bucket_of ms cs) log n sound.0 (bucket_here ls ms bs cs n None None gone forgotten) (bucket_elsewhere ls ms bs cs n None None gone forgotten) same,
    λ un. still_none ls ms n (sound.1 un) gone,
  )

  pub stored_added : (kept kept2 : Contents) (ls ms : Labels) (bs cs : List (ℕ × ℕ)) (log : List (Event K V)) (labelled : Bool) (n b : ℕ) (label r : Option ℕ) → IsSound kept ls bs log labelled
      → Relabels ls ms n label → ChangedAt bs cs n r → either label r ≡ Some b → SameExceptAt kept kept2 n → IsStored ek ev AK AV l kept2 (name_of_parts n b log)
      → AreStored ek ev AK AV l kept2 (bucket_of ms cs) log
  stored_added kept kept2 ls ms bs cs log labelled n b label r sound labels changed is same new =
      added kept kept2 (bucket_of ls bs) (bucket_of ms cs) log n b sound.0 (bucket_here ls ms bs cs n label r labels changed ∙ is) (bucket_elsewhere ls ms bs cs n label r labels changed) same new

  -- what was written for a name that was drawn in a beginning of the log
  pub stored_new : (kept kept2 : Contents) (name : NameView K V) (log : List (Event K V)) (format : Format) (object : List (K × V)) → IsName ek ev l name → IsPrefix name.front log → IsLawful ek ev l log
      → contents name.front name.number ≡ object → kept2 ≡ insert kept name.number (spelling ek ev format name.bucket name.number object) → IsMap ek AK AV object
      → IsStored ek ev AK AV l kept2 (name_of_parts name.number name.bucket log)
  stored_new kept kept2 name log format object named pre lawful same is map =
      longer kept2 name.number name.bucket name.front log pre lawful
      (record {
        own = record { drawn = named.drawn; here = named.here; same = refl; lawful = named.lawful };
        bytes = spelling ek ev format name.bucket name.number object;
        there = inserted kept kept2 name.number (spelling ek ev format name.bucket name.number object) is;
        spelled = record { format = format; is = ap (spelling ek ev format name.bucket name.number) (sym same); map = subst (IsMap ek AK AV) (sym same) map };
      })
