-- Pairs that are handed over bucket by bucket, where some may be passed over.
use Rattle.std.proofs.Common.{◌≡◌, ℕ, ◌+◌, ◌-◌, ◌^◌, ◌<◌, min, Bool, IsTrue, List, [], ◌∷◌, ◌++◌, length, slice_set, refl, ap, sym, ◌∙◌, subst, arith}
use Rattle.std.proofs.lemmas.List.{append-nil, append_assoc}
use Rattle.std.proofs.lemmas.List.Sorted.{IsPermutation-refl, IsPermutation-trans, IsPermutation-append_left, IsPermutation-append_right, IsPermutation-append_comm}
use Rattle.std.specs.List.Sorted.{IsPermutation}
use mathlib.Core.List.{IsPrefix}
use Rattle.table_core.specs.declared.event.Event.{Event}
use Rattle.table_core.specs.declared.limits.Limits.{Limits}
use Rattle.table_core.specs.declared.operation.Operation.{Operation}
use Rattle.table_core.specs.Maps.{at_bucket, map_of}
use Rattle.table_core.specs.Logs.{history}
use Rattle.table_core.proofs.Gathering.{joined_is, joined_more}
use Rattle.version_words.specs.Laws.{SameHistory}
use Rattle.version_words.specs.Views.{PassView, Goes}
use Rattle.version_words.proofs.Fronts.{prefix_self, prefix_trans}
use Rattle.hash_table.specs.declared.caller.Caller.{Caller}
use Rattle.hash_table.specs.Closes.{IsFrontOf, AreBack, AreTold, AllSeen, HistoryStays, pairs_from}
use Rattle.hash_table.specs.Drains.{Adds, AreDrained, Drains}
use Rattle.hash_table.proofs.Fronts.{goes_self, goes_trans}
use Rattle.hash_table.proofs.Ends.{joined_same, last_front, no_history, part}

-- ---- lists in any order

-- more behind what was added
behind : {X : Type 0} (old carried pairs mid new : List X) → IsPermutation (old ++ carried) mid → IsPermutation (mid ++ pairs) new → IsPermutation (old ++ (carried ++ pairs)) new
behind {X} old carried pairs mid new one other =
    subst (λ (z : List X). IsPermutation z new) (append_assoc old carried pairs)
    (IsPermutation-trans ((old ++ carried) ++ pairs) (mid ++ pairs) new (IsPermutation-append_left pairs (old ++ carried) mid one) other)

-- more behind the second part
second_more : {X : Type 0} (all carried others pairs : List X) → IsPermutation all (carried ++ others) → IsPermutation (all ++ pairs) (carried ++ (others ++ pairs))
second_more {X} all carried others pairs so =
    subst (λ (z : List X). IsPermutation (all ++ pairs) z) (append_assoc carried others pairs) (IsPermutation-append_left pairs all (carried ++ others) so)

-- more behind the first
first_more : {X : Type 0} (all carried others pairs : List X) → IsPermutation all (carried ++ others) → IsPermutation (all ++ pairs) ((carried ++ pairs) ++ others)
first_more {X} all carried others pairs so =
    subst (λ (z : List X). IsPermutation (all ++ pairs) z) (sym (append_assoc carried pairs others))
    (IsPermutation-trans (all ++ pairs) (carried ++ (others ++ pairs)) (carried ++ (pairs ++ others)) (second_more all carried others pairs so)
    (IsPermutation-append_right carried (others ++ pairs) (pairs ++ others) (IsPermutation-append_comm others pairs)))

-- ---- the pairs of one bucket

module _ {K V : Type 0} (is_honest : Bool) where
  pub adds_none : (wanted old : List (K × V)) → (IsTrue is_honest → [] ≡ wanted) → Adds is_honest wanted old old
  adds_none wanted old so = ([], subst (λ (z : List (K × V)). IsPermutation z old) (sym (append-nil old)) (IsPermutation-refl old), so)

  pub adds_these : (pairs wanted old new : List (K × V)) → IsPermutation (old ++ pairs) new → (IsTrue is_honest → pairs ≡ wanted) → Adds is_honest wanted old new
  adds_these pairs wanted old new moved so = (pairs, moved, so)

  pub adds_as : (seen wanted old new : List (K × V)) → (IsTrue is_honest → seen ≡ wanted) → Adds is_honest seen old new → Adds is_honest wanted old new
  adds_as seen wanted old new same added = (added.0, added.1, λ honest. added.2 honest ∙ same honest)

module _ {K V : Type 0} (ek : K → List ℕ) (ev : V → List ℕ) (l : Limits) where
  -- ---- one bucket after another

  -- the pairs of n buckets were handed over or passed over, behind a mark
  pub record Draining (mark : List (Event K V)) (start now : PassView K V) (n : ℕ) (old new : List (K × V)) (lost : ℕ) : Type 0 where
    pub goes : Goes start now
    pub told : IsPrefix mark now.front
    pub so : AreDrained ek ev l mark (λ log. IsPrefix now.front log) n old new lost

  pub draining_none : (mark : List (Event K V)) (start : PassView K V) (old : List (K × V)) → IsPrefix mark start.front → Draining mark start start 0 old old 0
  draining_none mark start old told = record {
    goes = goes_self start;
    told = told;
    so = record {
      carried = [];
      others = [];
      kept = subst (λ (z : List (K × V)). IsPermutation z old) (sym (append-nil old)) (IsPermutation-refl old);
      are = λ honest log later stays. IsPermutation-refl [];
      all = λ none. refl;
    };
  }

  -- the pairs of one bucket more
  one_more : (mark log : List (Event K V)) (next : PassView K V) (n : ℕ) → IsPrefix mark next.front → IsPrefix next.front log → HistoryStays mark log → pairs_from ek ev l log 0 n ++ part ek ev l next.front n ≡ pairs_from ek ev l log 0 (n + 1)
  one_more mark log next n told later stays =
      let at : history next.front ≡ history log = stays next.front told later ∙ sym (stays log (prefix_trans mark next.front log told later) (prefix_self log)) in
      let same : part ek ev l next.front n ≡ part ek ev l log n = ap (λ (h : List (ℕ × Operation K V)). at_bucket ek l.buckets n (map_of ek ev h)) at in
      let here : part ek ev l log n ≡ part ek ev l log (0 + n) = ap (λ b. part ek ev l log b) (let e : n ≡ 0 + n = omega arith in e) in
      ap (λ (z : List (K × V)). pairs_from ek ev l log 0 n ++ z) (same ∙ here) ∙ sym (joined_more (λ i. part ek ev l log (0 + i)) n)

  pub draining_added : (mark : List (Event K V)) (start now next : PassView K V) (n : ℕ) (old mid new : List (K × V)) (lost same : ℕ) → Draining mark start now n old mid lost → Goes now next
      → Adds l.honest (part ek ev l next.front n) mid new → same ≡ lost → Draining mark start next (n + 1) old new same
  draining_added mark start now next n old mid new lost same d goes added is =
      let so = d.so in
      let pairs = added.0 in
      let told : IsPrefix mark next.front = prefix_trans mark now.front next.front d.told goes.grows in
      record {
        goes = goes_trans d.goes goes;
        told = told;
        so = record {
          carried = so.carried ++ pairs;
          others = so.others;
          kept = behind old so.carried pairs mid new so.kept added.1;
          are = λ honest log later stays.
              let before = pairs_from ek ev l log 0 n in
              let grown = first_more before so.carried so.others pairs (so.are honest log (prefix_trans now.front next.front log goes.grows later) stays) in
              subst (λ (z : List (K × V)). IsPermutation z ((so.carried ++ pairs) ++ so.others)) (ap (λ (z : List (K × V)). before ++ z) (added.2 honest) ∙ one_more mark log next n told later stays) grown;
          all = λ none. so.all (sym is ∙ none);
        };
      }

  pub draining_passed : (mark : List (Event K V)) (start now next : PassView K V) (n : ℕ) (old mid new : List (K × V)) (lost more : ℕ) → Draining mark start now n old mid lost → Goes now next
      → new ≡ mid → more ≡ min (lost + 1) (2 ^ 64 - 1) → Draining mark start next (n + 1) old new more
  draining_passed mark start now next n old mid new lost more d goes same is =
      let so = d.so in
      let pairs = part ek ev l next.front n in
      let told : IsPrefix mark next.front = prefix_trans mark now.front next.front d.told goes.grows in
      record {
        goes = goes_trans d.goes goes;
        told = told;
        so = record {
          carried = so.carried;
          others = so.others ++ pairs;
          kept = subst (λ (z : List (K × V)). IsPermutation (old ++ so.carried) z) (sym same) so.kept;
          are = λ honest log later stays.
              subst (λ (z : List (K × V)). IsPermutation z (so.carried ++ (so.others ++ pairs))) (one_more mark log next n told later stays)
              (second_more (pairs_from ek ev l log 0 n) so.carried so.others pairs (so.are honest log (prefix_trans now.front next.front log goes.grows later) stays));
          all = λ none. absurd (omega (arith, none, is));
        };
      }

  pub draining_all : (mark : List (Event K V)) (start now : PassView K V) (n : ℕ) (old new : List (K × V)) (lost : ℕ) → n ≡ l.buckets → Draining mark start now n old new lost
      → AreDrained ek ev l mark (λ log. IsPrefix now.front log) l.buckets old new lost
  draining_all mark start now n old new lost is d = subst (λ (b : ℕ). AreDrained ek ev l mark (λ log. IsPrefix now.front log) b old new lost) is d.so

  -- ---- all buckets

  in_buckets : (log : List (Event K V)) → 0 < l.buckets → IsPermutation (map_of ek ev (history log)) (pairs_from ek ev l log 0 l.buckets)
  in_buckets log some =
      subst (λ (z : List (K × V)). IsPermutation (map_of ek ev (history log)) z)
      (joined_same (λ b. part ek ev l log b) (λ i. part ek ev l log (0 + i)) l.buckets (λ i. ap (λ b. part ek ev l log b) (let e : i ≡ 0 + i = omega arith in e)))
      (joined_is ek l.buckets (map_of ek ev (history log)) some)

  module _ {J : Type 0} where
    pub drained_by_first : (mark : List (Event K V)) (olds : List (Caller K V J)) (now : Caller K V J) (n : ℕ) (old new : List (K × V)) (lost : ℕ) → 0 < length olds
        → AreDrained ek ev l mark (λ log. IsPrefix now.pass.front log) n old new lost → AreDrained ek ev l mark (AllSeen (slice_set olds 0 now)) n old new lost
    drained_by_first mark [] now n old new lost some so = absurd (omega (arith, some))
    drained_by_first mark (c ∷ cs) now n old new lost some so = record {
      carried = so.carried;
      others = so.others;
      kept = so.kept;
      are = λ honest log seen stays. so.are honest log (seen.each 0 now (omega arith)) stays;
      all = so.all;
    }

    pub drains_none : (callers : List (Caller K V J)) (log : List (Event K V)) (old : List (K × V)) → SameHistory K V → length callers ≡ 0 → IsFrontOf ek ev l callers log → Drains ek ev l callers old old 0
    drains_none callers log old law none front = record {
      log = log;
      front = front;
      carried = [];
      others = [];
      kept = subst (λ (z : List (K × V)). IsPermutation z old) (sym (append-nil old)) (IsPermutation-refl old);
      whole = λ honest. subst (λ (h : List (ℕ × Operation K V)). IsPermutation (map_of ek ev h) []) (sym (no_history ek ev l callers log law none front)) (IsPermutation-refl []);
      all = λ none. refl;
    }

    pub drains : (olds mids reads : List (Caller K V J)) (first second : List (Event K V)) (old new : List (K × V)) (lost : ℕ) → IsFrontOf ek ev l olds first → AreBack olds mids → AreTold first mids → AreBack mids reads
        → IsFrontOf ek ev l reads second → 0 < length olds → AreDrained ek ev l first (AllSeen reads) l.buckets old new lost → SameHistory K V → 0 < l.buckets → Drains ek ev l olds old new lost
    drains olds mids reads first second old new lost start gathered told read end some so same_law buckets =
        let last = last_front ek ev l olds mids reads first second start gathered told read end some same_law in
        record {
          log = second;
          front = last.front;
          carried = so.carried;
          others = so.others;
          kept = so.kept;
          whole = λ honest. IsPermutation-trans (map_of ek ev (history second)) (pairs_from ek ev l second 0 l.buckets) (so.carried ++ so.others) (in_buckets second buckets) (so.are honest second last.seen last.stays);
          all = so.all;
        }
