-- Holders of passes: that their passes are all that were drawn, and that all are at one front.
use Rattle.std.proofs.Common.{◌≡◌, ◌≢◌, ℕ, suc, ◌+◌, ◌-◌, ◌<◌, ◌≤◌, ◌==◌, Bool, true, false, List, [], ◌∷◌, Option, Some, None, length, map, slice_index_or, slice_set, refl, ap, sym, ◌∙◌, subst, arith}
use Rattle.std.proofs.lemmas.Bool.Decides.{nat_tests}
use Rattle.std.proofs.lemmas.List.{length-map, get_or_default, get_or-set_other, get_or-set_same, length-set}
use Rattle.std.proofs.lemmas.Map.Steps.{length-le_from_distinct_below}
use Rattle.std.specs.List.{IsDistinct, AllByRecursion, list_any}
use mathlib.Core.List.{IsPrefix}
use Rattle.table_core.specs.Logs.{passes_of}
use Rattle.table_core.specs.declared.event.Event.{Event}
use Rattle.version_words.specs.Views.{PassView, Goes, IsWhole, IsNumbered, AreApart, AreNone, calls_of}
use Rattle.version_words.proofs.Calling.{calls_between}
use Rattle.version_words.proofs.Fronts.{prefix_self, prefix_trans, passes_grow}

module _ {K V : Type 0} where
  pub goes_self : (pass : PassView K V) → Goes pass pass
  goes_self pass = record { number = refl; grows = prefix_self pass.front; calls_stay = refl }

  -- the log begins with the pass's front
  pub record IsHeard (log : List (Event K V)) (pass : PassView K V) : Type 0 where
    pub first : 0 < pass.number
    pub last : pass.number ≤ passes_of log
    pub seen : IsPrefix pass.front log

  pub heard_later : (xs ys : List (Event K V)) (p : PassView K V) → IsHeard xs p → IsPrefix xs ys → IsHeard ys p
  heard_later xs ys p h pre = record { first = h.first; last = omega (arith, h.last, passes_grow xs ys pre); seen = prefix_trans p.front xs ys h.seen pre }

  pub heard_now : (xs ys : List (Event K V)) (p : PassView K V) → 0 < p.number → p.number ≤ passes_of p.front → IsPrefix p.front ys → IsHeard ys p
  heard_now xs ys p first last pre = record { first = first; last = omega (arith, last, passes_grow p.front ys pre); seen = pre }

  -- a pass that has learned a log beyond its front has all its calls there
  pub whole_now : (log : List (Event K V)) (old new : PassView K V) → IsHeard log old → Goes old new → IsPrefix log new.front → IsWhole log old
  whole_now log old new heard goes told = record {
    seen = heard.seen;
    all = calls_between old.number old.front log new.front heard.seen told (ap (λ (n : ℕ). calls_of n new.front) (sym goes.number) ∙ goes.calls_stay);
  }

  -- ---- passes that are apart are no more than were drawn

  abbrev pub Bounded : ℕ → List (PassView K V) → Type 0
  Bounded n ps = AllByRecursion (λ p. IsNumbered n p) ps

  abbrev keys : List (PassView K V) → List ℕ
  keys ps = map (λ p. p.number - 1) ps

  one_apart : (n : ℕ) (p : PassView K V) (ps : List (PassView K V)) → 0 < p.number → AreNone p ps → Bounded n ps → AllByRecursion (λ y. ((p.number - 1) == y) ≡ false) (keys ps)
  one_apart n p [] some none within = tt
  one_apart n p (q ∷ ps) some none within =
      (let other : (p.number - 1) ≢ (q.number - 1) = λ same. none.0 (let w = within.0 in omega (arith, same, some, w.0)) in grind (arith, nat_tests, other), one_apart n p ps some none.1 within.1)

  all_apart : (n : ℕ) (ps : List (PassView K V)) → AreApart ps → Bounded n ps → IsDistinct (λ x y. x == y) (keys ps)
  unfolding IsDistinct
  all_apart n [] apart within = tt
  all_apart n (p ∷ ps) apart within = (let w = within.0 in one_apart n p ps w.0 apart.0 within.1, all_apart n ps apart.1 within.1)

  all_below : (n : ℕ) (ps : List (PassView K V)) → Bounded n ps → (q : ℕ) → list_any (λ y. q == y) (keys ps) ≡ true → q < n
  all_below n [] within q is = absurd (cc is)
  all_below n (p ∷ ps) within q is = by (q == (p.number - 1)) refl is (all_below n ps within.1 q)
    where
      by : (b : Bool) → (q == (p.number - 1)) ≡ b → Rattle.std.specs.Prelude.◌||◌ b (list_any (λ y. q == y) (keys ps)) ≡ true → (list_any (λ y. q == y) (keys ps) ≡ true → q < n) → q < n
      by true same is rest = let here : q ≡ p.number - 1 = grind (arith, nat_tests) in let w = within.0 in omega (arith, here, w.0, w.1)
      by false same is rest = rest is

  pub no_more : (n : ℕ) (ps : List (PassView K V)) → AreApart ps → Bounded n ps → length ps ≤ n
  no_more n ps apart within =
      let le = length-le_from_distinct_below (keys ps) n (all_apart n ps apart within) (all_below n ps within) in
      omega (arith, le, length-map ps (λ (p : PassView K V). p.number - 1))

-- what is read in the table
pub value_at : (table : List (Option ℕ)) (m : ℕ) (r v : Option ℕ) → r ≡ slice_index_or table m r → m < length table → r ≡ v → slice_index_or table m None ≡ v
value_at table m r v is within same = sym (get_or_default table m r None within) ∙ (sym is ∙ same)

module _ {K V H : Type 0} (pass_of : H → PassView K V) where
  -- ---- what holds of each holder, read at its place

  pub all_bounded : (n : ℕ) (hs : List H) → ((k : ℕ) (d : H) → k < length hs → IsNumbered n (pass_of (slice_index_or hs k d))) → Bounded n (map pass_of hs)
  all_bounded n [] each = tt
  all_bounded n (h ∷ hs) each = (each 0 h (omega arith), all_bounded n hs (λ k d lt. each (suc k) d (omega (arith, lt))))

  none_of : (p : PassView K V) (hs : List H) → ((k : ℕ) (d : H) → k < length hs → p.number ≢ (pass_of (slice_index_or hs k d)).number) → AreNone p (map pass_of hs)
  none_of p [] each = tt
  none_of p (h ∷ hs) each = (each 0 h (omega arith), none_of p hs (λ k d lt. each (suc k) d (omega (arith, lt))))

  apart_from : (hs : List H) → ((i j : ℕ) (d : H) → i < j → j < length hs → (pass_of (slice_index_or hs i d)).number ≢ (pass_of (slice_index_or hs j d)).number) → AreApart (map pass_of hs)
  apart_from [] each = tt
  apart_from (h ∷ hs) each = (none_of (pass_of h) hs (λ k d lt. each 0 (suc k) d (omega arith) (omega (arith, lt))), apart_from hs (λ i j d less lt. each (suc i) (suc j) d (omega (arith, less)) (omega (arith, lt))))

  -- what holds of those before a place and of the one there holds of those before the next
  pub heard_more : (xs ys : List (Event K V)) (hs : List H) (k : ℕ) (x : H) → k < length hs → IsPrefix xs ys → IsHeard ys (pass_of (slice_index_or hs k x))
      → ((j : ℕ) (d : H) → j < k → IsHeard xs (pass_of (slice_index_or hs j d))) → (j : ℕ) (d : H) → j < k + 1 → IsHeard ys (pass_of (slice_index_or hs j d))
  heard_more xs ys hs k x within pre heard before j d lt = by (j == k) refl
    where
      by : (b : Bool) → (j == k) ≡ b → IsHeard ys (pass_of (slice_index_or hs j d))
      by true at = let same : j ≡ k = grind (arith, nat_tests) in subst (λ (i : ℕ). IsHeard ys (pass_of (slice_index_or hs i d))) (sym same) (subst (λ (h : H). IsHeard ys (pass_of h)) (get_or_default hs k x d within) heard)
      by false at = let other : j ≢ k = grind (arith, nat_tests) in heard_later xs ys (pass_of (slice_index_or hs j d)) (before j d (omega (arith, lt, other))) pre

  -- passes that are apart and all drawn, where no more were drawn, are all
  pub all_there : (n : ℕ) (hs : List H) → AreApart (map pass_of hs) → ((k : ℕ) (d : H) → k < length hs → IsNumbered n (pass_of (slice_index_or hs k d))) → n ≤ length hs → n ≡ length hs
  all_there n hs apart each few = omega (arith, no_more n (map pass_of hs) apart (all_bounded n hs each), length-map hs pass_of, few)

  -- ---- a table that says by number which holder has it

  abbrev number_at : List H → ℕ → H → ℕ
  number_at hs k d = (pass_of (slice_index_or hs k d)).number

  -- the number that is read of the holder at a place
  pub number_is : (hs : List H) (k : ℕ) (x : H) (p : PassView K V) (n : ℕ) → k < length hs → p ≡ pass_of (slice_index_or hs k x) → n ≡ p.number → (d : H) → number_at hs k d ≡ n
  number_is hs k x p n within pass number d = ap (λ (h : H). (pass_of h).number) (sym (get_or_default hs k x d within)) ∙ (ap (λ (q : PassView K V). q.number) (sym pass) ∙ sym number)

  -- the holders before the place k stand in the table, and nobody else
  pub record AreListed (table : List (Option ℕ)) (hs : List H) (k : ℕ) : Type 0 where
    pub listed : (j : ℕ) (d : H) → j < k → slice_index_or table (number_at hs j d - 1) None ≡ Some j
    pub found : (m i : ℕ) (d : H) → slice_index_or table m None ≡ Some i → (i < k) × (number_at hs i d ≡ m + 1)

  pub listed_none : (table : List (Option ℕ)) (hs : List H) → ((m : ℕ) → slice_index_or table m None ≡ None) → AreListed table hs 0
  listed_none table hs none = record { listed = λ j d lt. absurd (omega (arith, lt)); found = λ m i d is. absurd (cc (is, none m)) }

  pub listed_more : (table : List (Option ℕ)) (hs : List H) (k n : ℕ) → AreListed table hs k → 0 < n → n - 1 < length table → ((d : H) → number_at hs k d ≡ n)
      → ((j : ℕ) (d : H) → j < k → 0 < number_at hs j d) → slice_index_or table (n - 1) None ≡ None
      → AreListed (slice_set table (n - 1) (Some k)) hs (k + 1)
  listed_more table hs k n so some within number positive free = record {
    listed = λ j d lt. listed_by j d lt (j == k) refl;
    found = λ m i d is. found_by m i d is (m == (n - 1)) refl;
  }
    where
      listed_by : (j : ℕ) (d : H) → j < k + 1 → (b : Bool) → (j == k) ≡ b → slice_index_or (slice_set table (n - 1) (Some k)) (number_at hs j d - 1) None ≡ Some j
      listed_by j d lt true at =
          let same : j ≡ k = grind (arith, nat_tests) in
          subst (λ (i : ℕ). slice_index_or (slice_set table (n - 1) (Some k)) (number_at hs i d - 1) None ≡ Some i) (sym same)
          (ap (λ (x : ℕ). slice_index_or (slice_set table (n - 1) (Some k)) (x - 1) None) (number d) ∙ get_or-set_same table (n - 1) (Some k) None within)
      listed_by j d lt false at =
          let before : j < k = let other : j ≢ k = grind (arith, nat_tests) in omega (arith, lt, other) in
          let is : slice_index_or table (number_at hs j d - 1) None ≡ Some j = so.listed j d before in
          let other : (number_at hs j d - 1) ≢ (n - 1) = λ e. absurd (cc (is, ap (λ (x : ℕ). slice_index_or table x None) e, free)) in
          get_or-set_other table (n - 1) (number_at hs j d - 1) (Some k) None other ∙ is

      found_by : (m i : ℕ) (d : H) → slice_index_or (slice_set table (n - 1) (Some k)) m None ≡ Some i → (b : Bool) → (m == (n - 1)) ≡ b → (i < k + 1) × (number_at hs i d ≡ m + 1)
      found_by m i d is true at =
          let same : m ≡ n - 1 = grind (arith, nat_tests) in
          let here : Some k ≡ Some i = sym (get_or-set_same table (n - 1) (Some k) None within) ∙ (ap (λ (x : ℕ). slice_index_or (slice_set table (n - 1) (Some k)) x None) (sym same) ∙ is) in
          let who : k ≡ i = cc here in
          (omega (arith, who), subst (λ (x : ℕ). number_at hs x d ≡ m + 1) who (number d ∙ omega (arith, same, some)))
      found_by m i d is false at =
          let other : m ≢ (n - 1) = grind (arith, nat_tests) in
          let before = so.found m i d (sym (get_or-set_other table (n - 1) m (Some k) None other) ∙ is) in
          (omega (arith, before.0), before.1)

  pub listed_apart : (table : List (Option ℕ)) (hs : List H) → AreListed table hs (length hs) → AreApart (map pass_of hs)
  listed_apart table hs so = apart_from hs (λ i j d less lt same.
      let one : slice_index_or table (number_at hs i d - 1) None ≡ Some i = so.listed i d (omega (arith, less, lt)) in
      let two : slice_index_or table (number_at hs j d - 1) None ≡ Some j = so.listed j d lt in
      let both : Some i ≡ Some j = sym one ∙ (ap (λ (x : ℕ). slice_index_or table (x - 1) None) same ∙ two) in
      let who : i ≡ j = cc both in
      omega (arith, who, less))

  -- ---- the holders learn a log, one after another

  module _ (with_pass : H → PassView K V → H) where
    -- the pass has learned the log and made no call, and all else stays
    pub record HasLearned (log : List (Event K V)) (old now : H) : Type 0 where
      pub whole : IsWhole log (pass_of old)
      pub told : IsPrefix log (pass_of now).front
      pub goes : Goes (pass_of old) (pass_of now)
      pub rest : now ≡ with_pass old (pass_of now)

    -- those before the place k have learned the log, and the others stand as they were
    pub record Learned (log : List (Event K V)) (old now : List H) (k : ℕ) : Type 0 where
      pub count : length now ≡ length old
      pub done : (j : ℕ) (d : H) → j < k → HasLearned log (slice_index_or old j d) (slice_index_or now j d)
      pub rest : (j : ℕ) (d : H) → k ≤ j → slice_index_or now j d ≡ slice_index_or old j d

    pub learned_none : (log : List (Event K V)) (old : List H) → Learned log old old 0
    learned_none log old = record { count = refl; done = λ j d lt. absurd (omega (arith, lt)); rest = λ j d le. refl }

    pub learned_more : (log : List (Event K V)) (old now : List H) (k : ℕ) (d₀ new : H) → Learned log old now k → k < length old
        → ((d : H) → IsHeard log (pass_of (slice_index_or old k d))) → Goes (pass_of (slice_index_or now k d₀)) (pass_of new) → IsPrefix log (pass_of new).front → new ≡ with_pass (slice_index_or now k d₀) (pass_of new)
        → Learned log old (slice_set now k new) (k + 1)
    learned_more log old now k d₀ new so within heard goes told rest = record {
      count = length-set now k new ∙ so.count;
      done = λ j d lt. by j d lt (j == k) refl;
      rest = λ j d le. let other : j ≢ k = omega arith in get_or-set_other now k j new d other ∙ so.rest j d (omega (arith, le));
    }
      where
        by : (j : ℕ) (d : H) → j < k + 1 → (b : Bool) → (j == k) ≡ b → HasLearned log (slice_index_or old j d) (slice_index_or (slice_set now k new) j d)
        by j d lt true at =
            let same : j ≡ k = grind (arith, nat_tests) in
            let here : k < length now = omega (arith, so.count, within) in
            let x : H = slice_index_or now k d₀ in
            let was : x ≡ slice_index_or old k d = get_or_default now k d₀ d here ∙ so.rest k d (omega arith) in
            let one : HasLearned log x new = record { whole = whole_now log (pass_of x) (pass_of new) (subst (λ (h : H). IsHeard log (pass_of h)) (sym was) (heard d)) goes told; told = told; goes = goes; rest = rest } in
            let two : HasLearned log x (slice_index_or (slice_set now k new) k d) = subst (λ (h : H). HasLearned log x h) (sym (get_or-set_same now k new d here)) one in
            subst (λ (i : ℕ). HasLearned log (slice_index_or old i d) (slice_index_or (slice_set now k new) i d)) (sym same)
            (subst (λ (h : H). HasLearned log h (slice_index_or (slice_set now k new) k d)) was two)
        by j d lt false at =
            let other : j ≢ k = grind (arith, nat_tests) in
            subst (λ (h : H). HasLearned log (slice_index_or old j d) h) (sym (get_or-set_other now k j new d other)) (so.done j d (omega (arith, lt, other)))
