-- Pairs that are cut at a key, and made one list in key order.
use Rattle.std.proofs.Common.{◌≡◌, ℕ, ◌+◌, ◌-◌, ◌<◌, ◌≤◌, Bool, true, false, List, [], ◌∷◌, ◌++◌, length, map, take, drop, refl, ap, sym, ◌∙◌, subst, arith, append_assoc, length-append}
use mathlib.Core.Logic.{⊎_elim}
use Rattle.std.specs.Prelude.{All, slice_index_or}
use Rattle.std.specs.List.Sorted.{IsPermutation, IsSortedBy, IsPartitionPoint, IsPartitionedBy}
use Rattle.std.specs.Ordering.{is_lt, nat_cmp}
use Rattle.std.specs.Cmp.Lexicographic.{slice_cmp}
use Rattle.std.specs.Cmp.{IsStrictWeakOrder}
use Rattle.std.proofs.lemmas.Bool.{cases_lt, true≢false}
use Rattle.std.proofs.lemmas.Cmp.{nat_list_cmp_total}
use Rattle.std.proofs.lemmas.List.{append-nil, map-append, take_more, take_all, get_or_append_left, get_or-append-add, get_or-take, get_or-drop, take-append-drop, length-take-le}
use Rattle.std.proofs.lemmas.List.Elements.{All-append}
use Rattle.std.proofs.lemmas.List.Sorted.{IsPermutation-refl, IsPermutation-trans, IsPermutation-append, IsPermutation-append_left, IsPermutation-append_right, IsPermutation-append_comm, All-permutation, ranks_by, sorted_far}
use Rattle.far_pairs.specs.Bundles.{all_of, written, AreInOrder}
use Rattle.far_pairs.specs.Ranges.{is_before, key_before, AreRising, AreMerged, AreCut}
use Rattle.std.specs.Borrow.{Bor}
use Rattle.far_pairs.proofs.Ordering.{all_both, lent_both, lent_more, in_order}

abbrev pub Pairs : Type 0
Pairs = List (List ℕ × List ℕ)

-- ---- lists that rise

module _ {X : Type 0} (lt : X → X → Bool) where
  pub rising_left : (xs ys : List X) → IsSortedBy lt (xs ++ ys) → IsSortedBy lt xs
  rising_left xs ys up k d low high =
      let a = get_or_append_left xs ys d (k + 1) high in
      let b = get_or_append_left xs ys d k (omega (arith, high)) in
      sym (ap (λ z. lt z (slice_index_or (xs ++ ys) k d)) a ∙ ap (λ z. lt (slice_index_or xs (k + 1) d) z) b) ∙ up k d low (let l = length-append xs ys in omega (arith, high, l))

  at_right : (xs ys : List X) (k i : ℕ) (d : X) → i ≡ length xs + k → slice_index_or (xs ++ ys) i d ≡ slice_index_or ys k d
  at_right xs ys k i d e = ap (λ n. slice_index_or (xs ++ ys) n d) e ∙ get_or-append-add xs ys k d

  pub rising_right : (xs ys : List X) → IsSortedBy lt (xs ++ ys) → IsSortedBy lt ys
  rising_right xs ys up k d low high =
      let a = at_right xs ys (k + 1) (length xs + k + 1) d (omega arith) in
      let b = at_right xs ys k (length xs + k) d refl in
      sym (ap (λ z. lt z (slice_index_or (xs ++ ys) (length xs + k) d)) a ∙ ap (λ z. lt (slice_index_or ys (k + 1) d) z) b) ∙ up (length xs + k) d (omega arith) (let l = length-append xs ys in omega (arith, high, l))

  -- two lists that rise, of which the second begins no lower than the first ends
  pub rising_both : (xs ys : List X) → IsSortedBy lt xs → IsSortedBy lt ys → ((i j : ℕ) (d : X) → i < length xs → j < length ys → lt (slice_index_or ys j d) (slice_index_or xs i d) ≡ false) → IsSortedBy lt (xs ++ ys)
  rising_both xs ys one other seam k d low high =
      let l = length-append xs ys in
      ⊎_elim
      (λ (inside : k + 1 < length xs).
      let a = get_or_append_left xs ys d (k + 1) inside in
      let b = get_or_append_left xs ys d k (omega (arith, inside)) in
      ap (λ z. lt z (slice_index_or (xs ++ ys) k d)) a ∙ (ap (λ z. lt (slice_index_or xs (k + 1) d) z) b ∙ one k d low inside))
      (λ (past : length xs ≤ k + 1).
      ⊎_elim
      (λ (last : k < length xs).
      let a = at_right xs ys 0 (k + 1) d (omega (arith, past, last)) in
      let b = get_or_append_left xs ys d k last in
      ap (λ z. lt z (slice_index_or (xs ++ ys) k d)) a ∙ (ap (λ z. lt (slice_index_or ys 0 d) z) b ∙ seam k 0 d last (omega (arith, l, high, past, last))))
      (λ (beyond : length xs ≤ k).
      let a = at_right xs ys (k - length xs + 1) (k + 1) d (omega (arith, beyond)) in
      let b = at_right xs ys (k - length xs) k d (omega (arith, beyond)) in
      ap (λ z. lt z (slice_index_or (xs ++ ys) k d)) a ∙ (ap (λ z. lt (slice_index_or ys (k - length xs + 1) d) z) b ∙ other (k - length xs) d (omega arith) (omega (arith, l, high, beyond))))
      (cases_lt k (length xs)))
      (cases_lt (k + 1) (length xs))

-- ---- what is cut at a key

-- what does not come before a key does not come before what does
behind_before : (key : List ℕ) (a b : List ℕ × List ℕ) → is_before key a ≡ true → is_before key b ≡ false → key_before b a ≡ false
behind_before key a b before behind =
    let o = ranks_by nat_list_cmp_total (λ (x : List ℕ). x) in
    o.chain b.0 key a.0 behind (o.one_way a.0 key before)

-- the parts of a list that rises
pub cut_one : (key : List ℕ) (pairs low high : Pairs) → pairs ≡ low ++ high → All (λ e. is_before key e ≡ true) low → All (λ e. is_before key e ≡ false) high → AreCut key pairs low high
cut_one key pairs low high is before behind = record {
  same = subst (λ (z : Pairs). IsPermutation pairs z) is (IsPermutation-refl pairs);
  before = before;
  behind = behind;
}

-- a list that rises has what comes before a key in front
pub parted : (key : List ℕ) (xs : Pairs) → AreRising xs → IsPartitionedBy (is_before key) xs
parted key xs up i j d le lt before =
    let o = ranks_by nat_list_cmp_total (λ (x : List ℕ). x) in
    let far = sorted_far key_before (ranks_by nat_list_cmp_total (λ (x : List ℕ × List ℕ). x.0)) xs up i j d le lt in
    by (is_before key (slice_index_or xs i d)) refl far o
  where
    by : (b : Bool) → b ≡ is_before key (slice_index_or xs i d) → key_before (slice_index_or xs j d) (slice_index_or xs i d) ≡ false → IsStrictWeakOrder (λ (x y : List ℕ). is_lt (slice_cmp nat_cmp x y)) → is_before key (slice_index_or xs i d) ≡ true
    by true e far o = sym e
    by false e far o = absurd (true≢false (sym before ∙ o.chain (slice_index_or xs j d).0 (slice_index_or xs i d).0 key far (sym e)))

-- the parts of a run
pub record Parts (key : List ℕ) (xs low high : Pairs) : Type 0 where
  pub one : AreRising low
  pub other : AreRising high
  pub cut : AreCut key xs low high

pub parts : (key : List ℕ) (run xs low high : Pairs) (place : ℕ) → run ≡ xs → AreRising xs → place ≤ length xs → IsPartitionPoint (λ e. is_before key e ≡ true) (λ e. is_before key e ≡ false) xs place → low ≡ take place xs → high ≡ drop place xs → Parts key run low high
parts key run xs low high place view up within point front back =
    let is : low ++ high ≡ xs = ap (λ (z : Pairs). z ++ high) front ∙ (ap (λ (z : Pairs). take place xs ++ z) back ∙ take-append-drop place xs) in
    let rises = subst (λ (z : Pairs). AreRising z) (sym is) up in
    let long : length low ≡ place = ap (λ (z : Pairs). length z) front ∙ length-take-le place xs within in
    let all = length-append low high in
    let total = ap (λ (z : Pairs). length z) is in
    record {
      one = rising_left key_before low high rises;
      other = rising_right key_before low high rises;
      cut = cut_one key run low high (view ∙ sym is)
          (λ k d lt. subst (λ e. is_before key e ≡ true) (sym (ap (λ (z : Pairs). slice_index_or z k d) front ∙ get_or-take place xs k d (omega (arith, lt, long)))) (point.0 k d (omega arith) (omega (arith, lt, long))))
          (λ k d lt. subst (λ e. is_before key e ≡ false) (sym (ap (λ (z : Pairs). slice_index_or z k d) back ∙ get_or-drop place xs k d)) (point.1 (place + k) d (omega arith) (omega (arith, lt, long, all, total))));
    }

pub cut_none : (key : List ℕ) (pairs low high : Pairs) → pairs ≡ [] → low ≡ [] → high ≡ [] → AreCut key pairs low high
cut_none key pairs low high a b c =
    subst (λ (z : Pairs). AreCut key z low high) (sym a) (subst (λ (z : Pairs). AreCut key [] z high) (sym b) (subst (λ (z : Pairs). AreCut key [] [] z) (sym c)
    (cut_one key [] [] [] refl (λ k d lt. absurd (omega (arith, lt))) (λ k d lt. absurd (omega (arith, lt))))))

-- of four lists those in the middle change places
middle : {X : Type 0} (xs ys us vs : List X) → IsPermutation ((xs ++ ys) ++ (us ++ vs)) ((xs ++ us) ++ (ys ++ vs))
middle {X} xs ys us vs =
    let from : (xs ++ ys) ++ (us ++ vs) ≡ xs ++ ((ys ++ us) ++ vs) = append_assoc xs ys (us ++ vs) ∙ ap (λ (z : List X). xs ++ z) (sym (append_assoc ys us vs)) in
    let to : xs ++ ((us ++ ys) ++ vs) ≡ (xs ++ us) ++ (ys ++ vs) = ap (λ (z : List X). xs ++ z) (append_assoc us ys vs) ∙ sym (append_assoc xs us (ys ++ vs)) in
    let moved = IsPermutation-append_right xs ((ys ++ us) ++ vs) ((us ++ ys) ++ vs) (IsPermutation-append_left vs (ys ++ us) (us ++ ys) (IsPermutation-append_comm ys us)) in
    subst (λ (z : List X). IsPermutation z ((xs ++ us) ++ (ys ++ vs))) (sym from) (subst (λ (z : List X). IsPermutation (xs ++ ((ys ++ us) ++ vs)) z) to moved)

cut_both : (key : List ℕ) (xs low high ys more rest : Pairs) → AreCut key xs low high → AreCut key ys more rest → AreCut key (xs ++ ys) (low ++ more) (high ++ rest)
cut_both key xs low high ys more rest one other = record {
  same = IsPermutation-trans (xs ++ ys) ((low ++ high) ++ (more ++ rest)) ((low ++ more) ++ (high ++ rest)) (IsPermutation-append xs (low ++ high) ys (more ++ rest) one.same other.same) (middle low high more rest);
  before = All-append (λ e. is_before key e ≡ true) low more one.before other.before;
  behind = All-append (λ e. is_before key e ≡ false) high rest one.behind other.behind;
}

pub all_more : {X : Type 0} (xs : List (List X)) (x : List X) → all_of (xs ++ x ∷ []) ≡ all_of xs ++ x
all_more {X} xs x = all_both xs (x ∷ []) ∙ ap (λ (z : List X). all_of xs ++ z) (append-nil x)

-- one run more is cut
pub cut_more : (key : List ℕ) (runs low high later_low later_high : List Pairs) (i : ℕ) (run before behind : Pairs) → i < length runs → run ≡ slice_index_or runs i run → AreCut key (all_of (take i runs)) (all_of low) (all_of high) → AreCut key run before behind
    → later_low ≡ low ++ before ∷ [] → later_high ≡ high ++ behind ∷ [] → AreCut key (all_of (take (i + 1) runs)) (all_of later_low) (all_of later_high)
cut_more key runs low high later_low later_high i run before behind lt at old new lows highs =
    let runs_is : all_of (take (i + 1) runs) ≡ all_of (take i runs) ++ run = ap (λ (z : List Pairs). all_of z) (take_more runs i run lt ∙ ap (λ (z : Pairs). take i runs ++ z ∷ []) (sym at)) ∙ all_more (take i runs) run in
    let low_is : all_of later_low ≡ all_of low ++ before = ap (λ (z : List Pairs). all_of z) lows ∙ all_more low before in
    let high_is : all_of later_high ≡ all_of high ++ behind = ap (λ (z : List Pairs). all_of z) highs ∙ all_more high behind in
    subst (λ (z : Pairs). AreCut key z (all_of later_low) (all_of later_high)) (sym runs_is) (subst (λ (z : Pairs). AreCut key (all_of (take i runs) ++ run) z (all_of later_high)) (sym low_is)
    (subst (λ (z : Pairs). AreCut key (all_of (take i runs) ++ run) (all_of low ++ before) z) (sym high_is) (cut_both key (all_of (take i runs)) (all_of low) (all_of high) run before behind old new)))

-- all runs are cut
pub cut_all : (key : List ℕ) (runs : List Pairs) (low high : Pairs) (i : ℕ) → length runs ≤ i → AreCut key (all_of (take i runs)) low high → AreCut key (all_of runs) low high
cut_all key runs low high i past cut = subst (λ (z : List Pairs). AreCut key (all_of z) low high) (take_all i runs past) cut

-- ---- what is made one list

-- one run more is lent
pub lent_run : (runs : List Pairs) (i : ℕ) (run now later : Pairs) → i < length runs → run ≡ slice_index_or runs i run → now ≡ all_of (take i runs) → later ≡ now ++ run → later ≡ all_of (take (i + 1) runs)
lent_run runs i run now later lt at old is =
    is ∙ (ap (λ (z : Pairs). z ++ run) old ∙ (sym (all_more (take i runs) run) ∙ ap (λ (z : List Pairs). all_of z) (ap (λ (z : Pairs). take i runs ++ z ∷ []) at ∙ sym (take_more runs i run lt))))

-- all runs are lent and sorted
pub merged_all : (runs : List Pairs) (i : ℕ) (pairs sorted : Pairs) → length runs ≤ i → pairs ≡ all_of (take i runs) → IsPermutation pairs sorted → AreRising sorted → AreMerged (all_of runs) sorted
merged_all runs i pairs sorted past is moved up = record {
  same = subst (λ (z : Pairs). IsPermutation z sorted) (is ∙ ap (λ (z : List Pairs). all_of z) (take_all i runs past)) moved;
  rising = up;
}

-- the parts of what was cut, each made one list
pub merged_both : (key : List ℕ) (pairs low high before behind : Pairs) → AreCut key pairs low high → AreMerged low before → AreMerged high behind → AreMerged pairs (before ++ behind)
merged_both key pairs low high before behind cut one other =
    let befores = All-permutation (λ e. is_before key e ≡ true) low before one.same cut.before in
    let behinds = All-permutation (λ e. is_before key e ≡ false) high behind other.same cut.behind in
    record {
      same = IsPermutation-trans pairs (low ++ high) (before ++ behind) cut.same (IsPermutation-append low before high behind one.same other.same);
      rising = rising_both key_before before behind one.rising other.rising (λ i j d a b. behind_before key (slice_index_or before i d) (slice_index_or behind j d) (befores i d a) (behinds j d b));
    }

-- the same of lists of lists
pub merged_append : {Y : Type 0} (items : Y → Pairs) (key : List ℕ) (runs cut : List Pairs) (low high : Pairs) (xs ys all : List Y) → cut ≡ runs → AreCut key (all_of cut) low high → AreMerged low (all_of (map items xs)) → AreMerged high (all_of (map items ys)) → all ≡ xs ++ ys
    → AreMerged (all_of runs) (all_of (map items all))
merged_append items key runs cut low high xs ys all same parts one other is =
    let both = merged_both key (all_of cut) low high (all_of (map items xs)) (all_of (map items ys)) parts one other in
    let all_is : all_of (map items all) ≡ all_of (map items xs) ++ all_of (map items ys) = ap (λ z. all_of (map items z)) is ∙ (ap (λ (z : List Pairs). all_of z) (map-append items xs ys) ∙ all_both (map items xs) (map items ys)) in
    subst (λ (z : List Pairs). AreMerged (all_of z) (all_of (map items all))) same (subst (λ (z : Pairs). AreMerged (all_of cut) z) (sym all_is) both)

-- ---- the pairs of bundles

module _ {K V : Type 0} (ek : K → List ℕ) (ev : V → List ℕ) where
  -- those of one bundle more
  pub ordered_more : (xs : List (Bor (List (K × V)))) (x : Bor (List (K × V))) (lists later : List Pairs) (one : Pairs) → IsPermutation (map (written ek ev) (all_of (map (λ x. x.now) xs))) (all_of lists) → IsPermutation (map (written ek ev) x.now) one → later ≡ lists ++ one ∷ []
      → IsPermutation (map (written ek ev) (all_of (map (λ x. x.now) (xs ++ x ∷ [])))) (all_of later)
  ordered_more xs x lists later one old new is =
      let pairs = map (written ek ev) (all_of (map (λ x. x.now) xs)) in
      subst (λ (z : Pairs). IsPermutation z (all_of later)) (lent_more ek ev xs x pairs (pairs ++ map (written ek ev) x.now) refl refl)
      (subst (λ (z : Pairs). IsPermutation (pairs ++ map (written ek ev) x.now) z) (sym (ap (λ (z : List Pairs). all_of z) is ∙ all_more lists one)) (IsPermutation-append pairs (all_of lists) (map (written ek ev) x.now) one old new))

  -- those of some bundles and of others
  pub ordered_both : (xs ys : List (Bor (List (K × V)))) (low high all : List Pairs) → IsPermutation (map (written ek ev) (all_of (map (λ x. x.now) xs))) (all_of low) → IsPermutation (map (written ek ev) (all_of (map (λ x. x.now) ys))) (all_of high) → all ≡ low ++ high
      → IsPermutation (map (written ek ev) (all_of (map (λ x. x.now) (xs ++ ys)))) (all_of all)
  ordered_both xs ys low high all one other is =
      let first = map (written ek ev) (all_of (map (λ x. x.now) xs)) in
      let second = map (written ek ev) (all_of (map (λ x. x.now) ys)) in
      subst (λ (z : Pairs). IsPermutation z (all_of all)) (lent_both ek ev xs ys first second (first ++ second) refl refl refl)
      (subst (λ (z : Pairs). IsPermutation (first ++ second) z) (sym (ap (λ (z : List Pairs). all_of z) is ∙ all_both low high)) (IsPermutation-append first (all_of low) second (all_of high) one other))

  -- what was made one list is the pairs of all bundles in key order
  pub in_one_order : (pairs : List (K × V)) (lists runs : List Pairs) (merged : Pairs) → IsPermutation (map (written ek ev) pairs) (all_of lists) → runs ≡ lists → AreMerged (all_of runs) merged → AreInOrder ek ev pairs merged
  in_one_order pairs lists runs merged moved same is =
      let from = subst (λ (z : List Pairs). AreMerged (all_of z) merged) same is in
      in_order ek ev pairs (map (written ek ev) pairs) merged refl (IsPermutation-trans (map (written ek ev) pairs) (all_of lists) merged moved from.same) from.rising
