-- The pairs of all buckets at one front of all passes.
use Rattle.std.proofs.Common.{◌≡◌, ℕ, zero, suc, ◌+◌, ◌<◌, Bool, IsTrue, List, [], ◌∷◌, ◌++◌, length, slice_index_or, slice_set, refl, ap, sym, ◌∙◌, subst, arith}
use Rattle.std.proofs.lemmas.List.{get_or_append_left, get_or-append-add, append-nil, append_assoc, length-append, length-map}
use Rattle.std.proofs.lemmas.List.Sorted.{length_permutation, IsPermutation-refl, IsPermutation-trans, IsPermutation-append_left, IsPermutation-append_right}
use Rattle.std.specs.List.Sorted.{IsPermutation}
use mathlib.Core.List.{IsPrefix}
use Rattle.far_pairs.specs.Bundles.{all_of}
use Rattle.table_core.specs.Laws.{BucketsMakeMap}
use Rattle.table_core.specs.declared.event.Event.{Event}
use Rattle.table_core.specs.declared.limits.Limits.{Limits}
use Rattle.table_core.specs.declared.operation.Operation.{Operation}
use Rattle.table_core.specs.Maps.{at_bucket, joined, map_of}
use Rattle.table_core.specs.Logs.{history}
use Rattle.table_core.proofs.Gathering.{joined_more}
use Rattle.version_words.specs.Laws.{SameHistory}
use Rattle.version_words.specs.Views.{PassView, Goes, IsWhole, AreNone, calls_of}
use Rattle.version_words.proofs.Fronts.{prefix_self, prefix_trans}
use Rattle.hash_table.specs.declared.caller.Caller.{Caller}
use Rattle.hash_table.specs.Closes.{ClosesSorted, ClosesInOrder, IsFrontOf, AreBack, AreTold, AllSeen, ArePairs, AreInOrder, HistoryStays, pairs_from, passes}
use Rattle.hash_table.proofs.Fronts.{goes_self, goes_trans}

-- ---- parts of joined lists

both_moved : {X : Type 0} (xs xs2 ys ys2 : List X) → IsPermutation xs xs2 → IsPermutation ys ys2 → IsPermutation (xs ++ ys) (xs2 ++ ys2)
both_moved xs xs2 ys ys2 one other = IsPermutation-trans (xs ++ ys) (xs2 ++ ys) (xs2 ++ ys2) (IsPermutation-append_left ys xs xs2 one) (IsPermutation-append_right xs2 ys ys2 other)

pub joined_same : {X : Type 0} (f g : ℕ → List X) (n : ℕ) → ((i : ℕ) → f i ≡ g i) → joined f n ≡ joined g n
joined_same f g zero same = refl
joined_same f g (suc n) same = ap (λ z. z ++ f n) (joined_same f g n same) ∙ ap (λ z. joined g n ++ z) (same n)

joined_both : {X : Type 0} (f g : ℕ → List X) (m n : ℕ) → ((i : ℕ) → g i ≡ f (m + i)) → joined f m ++ joined g n ≡ joined f (m + n)
joined_both {X} f g m zero same = append-nil (joined f m) ∙ ap (λ i. joined f i) (let e : m ≡ m + zero = omega arith in e)
joined_both {X} f g m (suc n) same =
    sym (append_assoc (joined f m) (joined g n) (g n))
    ∙ (ap (λ (z : List X). z ++ g n) (joined_both f g m n same)
    ∙ (ap (λ (z : List X). joined f (m + n) ++ z) (same n)
    ∙ ap (λ i. joined f i) (let e : suc (m + n) ≡ m + suc n = omega arith in e)))

module _ {K V : Type 0} (ek : K → List ℕ) (ev : V → List ℕ) (l : Limits) where
  -- ---- one bucket after another

  abbrev pub part : List (Event K V) → ℕ → List (K × V)
  part log b = at_bucket ek l.buckets b (map_of ek ev (history log))

  -- the pairs of n buckets are gathered, for each later log to which no call was added since the mark
  pub record Gathered (is_honest : Bool) (mark : List (Event K V)) (start now : PassView K V) (items : List (K × V)) (from n : ℕ) : Type 0 where
    pub goes : Goes start now
    pub told : IsPrefix mark now.front
    pub pairs : IsTrue is_honest → (log : List (Event K V)) → IsPrefix now.front log → HistoryStays mark log → items ≡ pairs_from ek ev l log from n

  pub gathered_none : (is_honest : Bool) (mark : List (Event K V)) (start : PassView K V) (from : ℕ) → IsPrefix mark start.front → Gathered is_honest mark start start [] from 0
  gathered_none is_honest mark start from told = record { goes = goes_self start; told = told; pairs = λ _ _ _ _. refl }

  pub gathered_next : (is_honest : Bool) (mark : List (Event K V)) (start now next : PassView K V) (items all : List (K × V)) (from n : ℕ) → Gathered is_honest mark start now items from n → Goes now next
      → (IsTrue is_honest → all ≡ items ++ part next.front (from + n)) → Gathered is_honest mark start next all from (n + 1)
  gathered_next is_honest mark start now next items all from n so goes seen = record {
    goes = goes_trans so.goes goes;
    told = prefix_trans mark now.front next.front so.told goes.grows;
    pairs = λ honest log later stays.
        let told : IsPrefix mark next.front = prefix_trans mark now.front next.front so.told goes.grows in
        let old : items ≡ pairs_from ek ev l log from n = so.pairs honest log (prefix_trans now.front next.front log goes.grows later) stays in
        let at : history next.front ≡ history log = stays next.front told later ∙ sym (stays log (prefix_trans mark next.front log told later) (prefix_self log)) in
        let new : part next.front (from + n) ≡ part log (from + n) = ap (λ (h : List (ℕ × Operation K V)). at_bucket ek l.buckets (from + n) (map_of ek ev h)) at in
        seen honest ∙ (ap (λ (z : List (K × V)). z ++ part next.front (from + n)) old ∙ (ap (λ (z : List (K × V)). pairs_from ek ev l log from n ++ z) new ∙ sym (joined_more (λ i. part log (from + i)) n)));
  }

  whole_from : (log : List (Event K V)) (old new : PassView K V) → Goes old new → IsWhole log new → IsWhole log old
  whole_from log old new goes whole = record {
    seen = prefix_trans old.front new.front log goes.grows whole.seen;
    all = ap (λ (p : ℕ). calls_of p log) (sym goes.number) ∙ (whole.all ∙ goes.calls_stay);
  }

  -- where there is no history there are none
  no_pairs : (log : List (Event K V)) (count : ℕ) → history log ≡ [] → pairs_from ek ev l log 0 count ≡ []
  no_pairs log zero none = refl
  no_pairs log (suc n) none =
      ap (λ (z : List (K × V)). z ++ part log (0 + n)) (no_pairs log n none) ∙ ap (λ (h : List (ℕ × Operation K V)). at_bucket ek l.buckets (0 + n) (map_of ek ev h)) none

  -- ---- callers that come back

  module _ {J : Type 0} where
    -- what is so of each caller is so of each of a part
    pub each_left : (P : Caller K V J → Type 0) (xs ys : List (Caller K V J)) → ((k : ℕ) (d : Caller K V J) → k < length (xs ++ ys) → P (slice_index_or (xs ++ ys) k d)) → (k : ℕ) (d : Caller K V J) → k < length xs → P (slice_index_or xs k d)
    each_left P xs ys each k d lt = subst P (get_or_append_left xs ys d k lt) (each k d (let e = length-append xs ys in omega (arith, e, lt)))

    pub each_right : (P : Caller K V J → Type 0) (xs ys : List (Caller K V J)) → ((k : ℕ) (d : Caller K V J) → k < length (xs ++ ys) → P (slice_index_or (xs ++ ys) k d)) → (k : ℕ) (d : Caller K V J) → k < length ys → P (slice_index_or ys k d)
    each_right P xs ys each k d lt = subst P (get_or-append-add xs ys k d) (each (length xs + k) d (let e = length-append xs ys in omega (arith, e, lt)))

    back_tail : (x y : Caller K V J) (xs ys : List (Caller K V J)) → AreBack (x ∷ xs) (y ∷ ys) → AreBack xs ys
    back_tail x y xs ys back = record {
      count = let e = back.count in omega (arith, e);
      goes = λ k d lt. back.goes (suc k) d (omega (arith, lt));
      limbos = λ k d lt. back.limbos (suc k) d (omega (arith, lt));
    }

    back_cons : (x y : Caller K V J) (xs ys : List (Caller K V J)) → Goes x.pass y.pass → y.limbo ≡ x.limbo → AreBack xs ys → AreBack (x ∷ xs) (y ∷ ys)
    back_cons x y xs ys goes limbo back = record {
      count = ap suc back.count;
      goes = to;
      limbos = same;
    }
      where
        to : (k : ℕ) (d : Caller K V J) → k < length (x ∷ xs) → Goes (slice_index_or (x ∷ xs) k d).pass (slice_index_or (y ∷ ys) k d).pass
        to zero d lt = goes
        to (suc k) d lt = back.goes k d (omega (arith, lt))

        same : (k : ℕ) (d : Caller K V J) → k < length (x ∷ xs) → (slice_index_or (y ∷ ys) k d).limbo ≡ (slice_index_or (x ∷ xs) k d).limbo
        same zero d lt = limbo
        same (suc k) d lt = back.limbos k d (omega (arith, lt))

    -- two parts of them
    pub back_both : (xs xs2 ys ys2 : List (Caller K V J)) → AreBack xs xs2 → AreBack ys ys2 → AreBack (xs ++ ys) (xs2 ++ ys2)
    back_both [] [] ys ys2 one other = other
    back_both [] (y ∷ xs2) ys ys2 one other = absurd (let e = one.count in omega (arith, e))
    back_both (x ∷ xs) [] ys ys2 one other = absurd (let e = one.count in omega (arith, e))
    back_both (x ∷ xs) (y ∷ xs2) ys ys2 one other = back_cons x y (xs ++ ys) (xs2 ++ ys2) (one.goes 0 x (omega arith)) (one.limbos 0 x (omega arith)) (back_both xs xs2 ys ys2 (back_tail x y xs xs2 one) other)

    -- one call after another
    pub back_trans : (olds mids news : List (Caller K V J)) → AreBack olds mids → AreBack mids news → AreBack olds news
    back_trans olds mids news first last = record {
      count = last.count ∙ first.count;
      goes = λ k d lt. goes_trans (first.goes k d lt) (last.goes k d (let e = first.count in omega (arith, lt, e)));
      limbos = λ k d lt. last.limbos k d (let e = first.count in omega (arith, lt, e)) ∙ first.limbos k d lt;
    }

    -- the first alone
    pub back_first : (olds : List (Caller K V J)) (was now : Caller K V J) → 0 < length olds → was ≡ slice_index_or olds 0 was → Goes was.pass now.pass → now.limbo ≡ was.limbo → AreBack olds (slice_set olds 0 now)
    back_first [] was now some is goes limbo = absurd (omega (arith, some))
    back_first (c ∷ cs) was now some is goes limbo = back_cons c now cs cs (subst (λ (x : Caller K V J). Goes x.pass now.pass) is goes) (limbo ∙ ap (λ (x : Caller K V J). x.limbo) is)
        (record { count = refl; goes = λ k d lt. goes_self (slice_index_or cs k d).pass; limbos = λ k d lt. refl })

    pub told_back : (mark : List (Event K V)) (olds news : List (Caller K V J)) → AreBack olds news → AreTold mark olds → AreTold mark news
    told_back mark olds news back told k d lt =
        let there : k < length olds = let e = back.count in omega (arith, lt, e) in
        let goes = back.goes k d there in
        prefix_trans mark (slice_index_or olds k d).pass.front (slice_index_or news k d).pass.front (told k d there) goes.grows

    pub told_mids : (mark : List (Event K V)) (olds mids : List (Caller K V J)) → length mids ≡ length olds → ((k : ℕ) (d : Caller K V J) → k < length olds → IsPrefix mark (slice_index_or mids k d).pass.front) → AreTold mark mids
    told_mids mark olds mids count told k d lt = told k d (omega (arith, lt, count))

    -- ---- the pairs of a part of the buckets, and of two

    pub pairs_by_first : (mark : List (Event K V)) (olds : List (Caller K V J)) (now : Caller K V J) (from count : ℕ) (items : List (K × V)) → 0 < length olds
        → (IsTrue l.honest → (log : List (Event K V)) → IsPrefix now.pass.front log → HistoryStays mark log → items ≡ pairs_from ek ev l log from count) → ArePairs ek ev l mark (slice_set olds 0 now) from count items
    pairs_by_first mark [] now from count items some so = absurd (omega (arith, some))
    pairs_by_first mark (c ∷ cs) now from count items some so = record { are = λ honest log seen stays. subst (λ (z : List (K × V)). IsPermutation z items) (so honest log (seen.each 0 now (omega arith)) stays) (IsPermutation-refl items) }

    pub in_order_by_first : (mark : List (Event K V)) (olds : List (Caller K V J)) (now : Caller K V J) (items : List (K × V)) → 0 < length olds
        → (IsTrue l.honest → (log : List (Event K V)) → IsPrefix now.pass.front log → HistoryStays mark log → items ≡ pairs_from ek ev l log 0 l.buckets) → AreInOrder ek ev l mark (slice_set olds 0 now) items
    in_order_by_first mark [] now items some so = absurd (omega (arith, some))
    in_order_by_first mark (c ∷ cs) now items some so = record { are = λ honest log seen stays. so honest log (seen.each 0 now (omega arith)) stays }

    in_any_order : (mark : List (Event K V)) (callers : List (Caller K V J)) (items : List (K × V)) → AreInOrder ek ev l mark callers items → ArePairs ek ev l mark callers 0 l.buckets items
    in_any_order mark callers items so = record { are = λ honest log seen stays. subst (λ (z : List (K × V)). IsPermutation z items) (so.are honest log seen stays) (IsPermutation-refl items) }

    -- the same of the one bundle of a list, whose pairs were put in another order
    pub pairs_alone : (mark : List (Event K V)) (callers : List (Caller K V J)) (from count : ℕ) (none bundles : List (List (K × V))) (bundle sorted : List (K × V)) → none ≡ [] → bundles ≡ none ++ sorted ∷ [] → IsPermutation bundle sorted
        → ArePairs ek ev l mark callers from count bundle → ArePairs ek ev l mark callers from count (all_of bundles)
    pairs_alone mark callers from count none bundles bundle sorted empty is moved so =
        let alone : all_of bundles ≡ sorted =
        ap (λ (z : List (List (K × V))). all_of z) is ∙ (ap (λ (z : List (List (K × V))). all_of (z ++ sorted ∷ [])) empty ∙ append-nil sorted) in
        record { are = λ honest log seen stays. IsPermutation-trans (pairs_from ek ev l log from count) bundle (all_of bundles) (so.are honest log seen stays) (subst (λ (z : List (K × V)). IsPermutation bundle z) (sym alone) moved) }

    pub pairs_by_both : (mark : List (Event K V)) (xs ys : List (Caller K V J)) (from half rest : ℕ) (one more all : List (K × V)) → ArePairs ek ev l mark xs from half one → ArePairs ek ev l mark ys (from + half) rest more → all ≡ one ++ more
        → ArePairs ek ev l mark (xs ++ ys) from (half + rest) all
    pairs_by_both mark xs ys from half rest one more all first second is = record {
      are = λ honest log seen stays.
          let near = first.are honest log (record { each = each_left (λ (c : Caller K V J). IsPrefix c.pass.front log) xs ys seen.each }) stays in
          let far = second.are honest log (record { each = each_right (λ (c : Caller K V J). IsPrefix c.pass.front log) xs ys seen.each }) stays in
          let parts : pairs_from ek ev l log from half ++ pairs_from ek ev l log (from + half) rest ≡ pairs_from ek ev l log from (half + rest) =
          joined_both (λ i. part log (from + i)) (λ i. part log (from + half + i)) half rest (λ i. ap (λ b. part log b) (let e : from + half + i ≡ from + (half + i) = omega arith in e)) in
          subst (λ (z : List (K × V)). IsPermutation z all) parts (subst (λ (z : List (K × V)). IsPermutation (pairs_from ek ev l log from half ++ pairs_from ek ev l log (from + half) rest) z) (sym is)
          (both_moved (pairs_from ek ev l log from half) one (pairs_from ek ev l log (from + half) rest) more near far));
    }

    -- ---- all passes at a front behind all looks

    at_each : (P : PassView K V → Type 0) (callers : List (Caller K V J)) → ((k : ℕ) (d : Caller K V J) → k < length callers → P (slice_index_or callers k d).pass) → (k : ℕ) (d : PassView K V) → k < length (passes callers) → P (slice_index_or (passes callers) k d)
    at_each P [] each k d lt = absurd (omega (arith, lt))
    at_each P (c ∷ cs) each zero d lt = each 0 c (omega arith)
    at_each P (c ∷ cs) each (suc k) d lt = at_each P cs (λ j e le. each (suc j) e (omega (arith, le))) k d (omega (arith, lt))

    none_of : (p : PassView K V) (olds news : List (Caller K V J)) → length news ≡ length olds
        → ((k : ℕ) (d : Caller K V J) → k < length olds → (slice_index_or news k d).pass.number ≡ (slice_index_or olds k d).pass.number) → AreNone p (passes olds) → AreNone p (passes news)
    none_of p [] [] same numbers none = tt
    none_of p [] (c ∷ cs) same numbers none = absurd (omega (arith, same))
    none_of p (o ∷ os) [] same numbers none = absurd (omega (arith, same))
    none_of p (o ∷ os) (c ∷ cs) same numbers none =
        (λ is. none.0 (is ∙ numbers 0 c (omega arith)), none_of p os cs (omega (arith, same)) (λ k d lt. numbers (suc k) d (omega (arith, lt))) none.1)

    -- with no pass drawn there is no history
    pub no_history : (callers : List (Caller K V J)) (log : List (Event K V)) → SameHistory K V → length callers ≡ 0 → IsFrontOf ek ev l callers log → history log ≡ []
    no_history callers log law none front =
        law [] log (passes callers) (log, refl) (λ k d lt. absurd (omega (arith, lt, none, length-map callers (λ (c : Caller K V J). c.pass)))) front.no_other log (log, refl) (prefix_self log)

    pub closed_none : (callers : List (Caller K V J)) (log : List (Event K V)) → SameHistory K V → length callers ≡ 0 → IsFrontOf ek ev l callers log → ClosesSorted ek ev l callers []
    closed_none callers log law none front sorted moved up = record {
      log = log;
      lawful = front.lawful;
      all = front.all;
      apart = front.apart;
      whole = front.whole;
      no_other = front.no_other;
      pairs_are = λ honest. none_moved sorted moved ∙ sym (ap (λ (h : List (ℕ × Operation K V)). map_of ek ev h) (no_history callers log law none front));
    }
      where
        no_pair : (all : List (K × V)) → length all ≡ 0 → all ≡ []
        no_pair [] none = refl
        no_pair (x ∷ xs) none = absurd (omega (arith, none))

        none_moved : (all : List (K × V)) → IsPermutation [] all → all ≡ []
        none_moved all moved = no_pair all (length_permutation [] all moved)

    pub closed_none_in_order : (callers : List (Caller K V J)) (log : List (Event K V)) → SameHistory K V → length callers ≡ 0 → IsFrontOf ek ev l callers log → ClosesInOrder ek ev l callers []
    closed_none_in_order callers log law none front = record {
      log = log;
      front = front;
      in_order = λ honest. sym (no_pairs log l.buckets (no_history callers log law none front));
      closes = closed_none callers log law none front;
    }

    -- at a second front behind all looks: it is one of the callers as they were, and no call was added since the first
    pub record IsLast (olds reads : List (Caller K V J)) (first second : List (Event K V)) : Type 0 where
      pub front : IsFrontOf ek ev l olds second
      pub seen : AllSeen reads second
      pub stays : HistoryStays first second

    head_of : (cs : List (Caller K V J)) → 0 < length cs → Caller K V J
    head_of [] some = absurd (omega (arith, some))
    head_of (c ∷ cs) some = c

    -- the callers as they were, with their passes at a first front, after all looks, and with their passes at a second front
    pub last_front : (olds mids reads : List (Caller K V J)) (first second : List (Event K V)) → IsFrontOf ek ev l olds first → AreBack olds mids → AreTold first mids → AreBack mids reads → IsFrontOf ek ev l reads second → 0 < length olds
        → SameHistory K V → IsLast olds reads first second
    last_front olds mids reads first second start gathered told read end some same_law =
        let back : AreBack olds reads = back_trans olds mids reads gathered read in
        let long : length reads ≡ length olds = back.count in
        let whole : (k : ℕ) (d : Caller K V J) → k < length olds → IsWhole second (slice_index_or olds k d).pass = λ k d lt. whole_from second (slice_index_or olds k d).pass (slice_index_or reads k d).pass (back.goes k d lt) (end.whole k d (omega (arith, lt, long))) in
        let no_other : (pass : PassView K V) → AreNone pass (passes olds) → calls_of pass.number second ≡ [] = λ pass none. end.no_other pass (none_of pass olds reads long (λ k d lt. let g = back.goes k d lt in g.number) none) in
        let seen : AllSeen reads second = record { each = λ k d lt. let w = end.whole k d lt in w.seen } in
        let told_all : AreTold first reads = told_back first mids reads read told in
        let head : Caller K V J = head_of reads (omega (arith, long, some)) in
        let pre : IsPrefix first second = prefix_trans first (slice_index_or reads 0 head).pass.front second (told_all 0 head (omega (arith, long, some))) (seen.each 0 head (omega (arith, long, some))) in
        record {
          front = record { lawful = end.lawful; all = end.all ∙ long; apart = start.apart; whole = whole; no_other = no_other };
          seen = seen;
          stays = same_law first second (passes olds) pre
              (at_each (λ p. calls_of p.number second ≡ calls_of p.number first) olds (λ k d lt. let a = whole k d lt in let b = start.whole k d lt in a.all ∙ sym b.all)) no_other;
        }

    pub closed : (olds mids reads : List (Caller K V J)) (first second : List (Event K V)) (pairs : List (K × V)) → IsFrontOf ek ev l olds first → AreBack olds mids → AreTold first mids → AreBack mids reads → IsFrontOf ek ev l reads second → 0 < length olds
        → ArePairs ek ev l first reads 0 l.buckets pairs → SameHistory K V → BucketsMakeMap K V ek ev → 0 < l.buckets → ClosesSorted ek ev l olds pairs
    closed olds mids reads first second pairs start gathered told read end some are same_law law buckets sorted moved up =
        let last = last_front olds mids reads first second start gathered told read end some same_law in
        record {
          log = second;
          lawful = last.front.lawful;
          all = last.front.all;
          apart = last.front.apart;
          whole = last.front.whole;
          no_other = last.front.no_other;
          pairs_are = λ honest. law (history second) l.buckets sorted buckets (IsPermutation-trans _ pairs sorted (subst (λ (z : List (K × V)). IsPermutation z pairs) (joined_same (λ i. part second (0 + i)) (λ b. part second b) l.buckets (λ i. ap (λ b. part second b) (let e : 0 + i ≡ i = omega arith in e))) (are.are honest second last.seen last.stays)) moved) up;
        }

    pub closed_in_order : (olds mids reads : List (Caller K V J)) (first second : List (Event K V)) (pairs : List (K × V)) → IsFrontOf ek ev l olds first → AreBack olds mids → AreTold first mids → AreBack mids reads → IsFrontOf ek ev l reads second → 0 < length olds
        → AreInOrder ek ev l first reads pairs → SameHistory K V → BucketsMakeMap K V ek ev → 0 < l.buckets → ClosesInOrder ek ev l olds pairs
    closed_in_order olds mids reads first second pairs start gathered told read end some are same_law law buckets =
        let last = last_front olds mids reads first second start gathered told read end some same_law in
        record {
          log = second;
          front = last.front;
          in_order = λ honest. are.are honest second last.seen last.stays;
          closes = closed olds mids reads first second pairs start gathered told read end some (in_any_order first reads pairs are) same_law law buckets;
        }
