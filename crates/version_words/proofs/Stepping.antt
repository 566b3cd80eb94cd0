-- The load, and the exchange that adds an event, keep the rule.
use Rattle.std.proofs.Common.{◌≡◌, ◌≢◌, ℕ, ◌+◌, ◌<◌, ◌==◌, Bool, true, false, if◌then◌else◌, List, [], ◌∷◌, ◌++◌, length, refl, ap, sym, ◌∙◌, subst, arith, inr, MatchBool, None, Some, Option, slice_set}
use Rattle.std.proofs.lemmas.List.{append-nil, get_or-set_other, get_or-set_same, length-set}
use Rattle.std.proofs.lemmas.Bool.{eqb-true}
use Rattle.std.proofs.lemmas.Bool.Decides.{nat_tests}
use mathlib.Core.List.{IsPrefix}
use prog.Atomic.{either}
use Rattle.logbook.specs.Pages.{Cell, Act, cell, keeps, no_nib, step, cells_after, nib_after, Valid, Runs, View, Moves}
use Rattle.table_core.specs.declared.event.Event.{Event}
use Rattle.table_core.specs.declared.limits.Limits.{Limits}
use Rattle.version_words.specs.declared.entry.Entry.{Entry}
use Rattle.version_words.specs.declared.entry.Entry.TheVariants.{Happened}
use Rattle.version_words.specs.declared.entry.Answer.{Answer}
use Rattle.version_words.specs.Tallies.{events, Answered}
use Rattle.version_words.specs.Rows.{value_of, IsLog, IsRow, IsKept, Looks, Adds, IsAdded, Writes, CanAdd}
use Rattle.version_words.proofs.Entries.{events-append, prefix_events, same_limits, log_more}
use Rattle.version_words.proofs.Fresh.{is_next}

module _ {K V : Type 0} where
  abbrev shown : List (Entry K V) → List (Entry K V)
  shown log = log

  abbrev answer_of : Bool → List (Entry K V) → Answer (Entry K V)
  answer_of done log = record { marker = record {}; done = done; log = log }

module _ {K V : Type 0} (ek : K → List ℕ) (ev : V → List ℕ) (l : Limits) where
  -- a row in which one word was written, beside a log in which that word is what was written and each other is what it was
  row_written : (cs : List Cell) (old new : List (Event K V)) (k n : ℕ) → IsRow ek ev l cs old → k < l.buckets + 2
      → ((j : ℕ) → j < l.buckets + 2 → value_of ek ev l new j ≡ (if j == k then n else value_of ek ev l old j))
      → IsRow ek ev l (slice_set cs k (n, true)) new
  row_written cs old new k n row here words = record {
    count = simp length-set row.count;
    words = λ j lt. by j lt (j == k) refl;
  }
    where
      by : (j : ℕ) → j < l.buckets + 2 → (b : Bool) → (j == k) ≡ b → cell (slice_set cs k (n, true)) j ≡ (value_of ek ev l new j, true)
      by j lt true is =
          let same : j ≡ k = grind (arith, nat_tests) in
          let within : k < length cs = omega (arith, row.count) in
          let value : value_of ek ev l new j ≡ n = rw is at (words j lt) in
          subst (λ (i : ℕ). cell (slice_set cs k (n, true)) i ≡ (n, true)) (sym same) (get_or-set_same cs k (n, true) (0, false) within) ∙ ap (λ (x : ℕ). (x, true)) (sym value)
      by j lt false is =
          let other : j ≢ k = grind (arith, nat_tests) in
          let value : value_of ek ev l new j ≡ value_of ek ev l old j = rw is at (words j lt) in
          get_or-set_other cs k j (n, true) (0, false) other ∙ (row.words j lt ∙ ap (λ (x : ℕ). (x, true)) (sym value))

  -- a row in which one word was written as it was
  row_same : (cs : List Cell) (log : List (Event K V)) (k : ℕ) → IsRow ek ev l cs log → k < l.buckets + 2 → IsRow ek ev l (slice_set cs k (value_of ek ev l log k, true)) log
  row_same cs log k row here = row_written cs log log k (value_of ek ev l log k) row here (λ j lt. by j (j == k) refl)
    where
      by : (j : ℕ) (b : Bool) → (j == k) ≡ b → value_of ek ev l log j ≡ (if b then value_of ek ev l log k else value_of ek ev l log j)
      by j true is = let same : j ≡ k = grind (arith, nat_tests) in ap (value_of ek ev l log) same
      by j false is = refl

module _ {K V : Type 0} (ek : K → List ℕ) (ev : V → List ℕ) (k : ℕ) (v : List (Entry K V)) (ask : Entry K V) (f : ℕ → ℕ) (tells : ℕ → View (Entry K V) (Answer (Entry K V)) → Type 0) where
  -- what a step owes, of the cell that it finds
  abbrev GoesAt : List Cell → List (Entry K V) → Cell → Type 0
  GoesAt cs log c =
      (c.1 ≡ true)
      × ((a : Act) × (more : List (Entry K V)) × (t : Option (Answer (Entry K V))) × Valid a no_nib × IsKept ek ev (cells_after a no_nib (slice_set cs k (f c.0, true))) (log ++ more)
      × Runs (Answered ask) None t (shown log) (shown (log ++ more)) × tells c.0 (log ++ more, (nib_after a no_nib cs, t)))

  moves_from : (l : Limits) → IsLog ek ev l v → k < l.buckets + 2
      → ((cs : List Cell) (log : List (Entry K V)) → IsLog ek ev l log → IsRow ek ev l cs (events log) → IsPrefix v log → GoesAt cs log (value_of ek ev l (events log) k, true))
      → Moves (λ cells log. IsKept ek ev cells log) shown (λ xs ys r. Answered ask xs ys r) k (v, (no_nib, None)) f tells
  moves_from l seen here go cs log kept pre away =
      let same : l ≡ kept.limits = same_limits ek ev l kept.limits v log seen kept.log_is pre in
      let seen' : IsLog ek ev l log = subst (λ (m : Limits). IsLog ek ev m log) (sym same) kept.log_is in
      let row' : IsRow ek ev l cs (events log) = subst (λ (m : Limits). IsRow ek ev m cs (events log)) (sym same) kept.row in
      let goes = subst (λ (c : Cell). GoesAt cs log c) (sym (row'.words k here)) (go cs log seen' row' pre) in
      (omega (arith, row'.count), goes.0, goes.1)

module _ {K V : Type 0} (ek : K → List ℕ) (ev : V → List ℕ) (l : Limits) where
  -- what holds of one row's limits holds of whatever limits its log says
  of_all : (v : List (Entry K V)) (P : Limits → Type 0) → IsLog ek ev l v → P l → (m : Limits) → IsLog ek ev m v → P m
  of_all v P seen p m seen_m = subst P (same_limits ek ev l m v v seen seen_m ([], append-nil v)) p

  -- a step that adds nothing: the row and the log stay
  kept_same : (cs : List Cell) (log : List (Entry K V)) (k : ℕ) → IsLog ek ev l log → IsRow ek ev l cs (events log) → k < l.buckets + 2
      → IsKept ek ev (slice_set cs k (value_of ek ev l (events log) k, true)) (log ++ [])
  kept_same cs log k seen row here = subst (λ (w : List (Entry K V)). IsKept ek ev (slice_set cs k (value_of ek ev l (events log) k, true)) w) (sym (append-nil log)) (record { limits = l; log_is = seen; row = row_same ek ev l cs (events log) k row here })

  -- a step that leaves the word as it is sees what it holds
  sees_moves : (f : ℕ → ℕ) → ((n : ℕ) → f n ≡ n) → (v : List (Entry K V)) (k : ℕ) (ask : Entry K V) → IsLog ek ev l v → k < l.buckets + 2
      → Moves (λ cells log. IsKept ek ev cells log) shown (λ xs ys r. Answered ask xs ys r) k (v, (no_nib, None)) f (λ found w. Looks ek ev (step k 0 0 ask) (v, (no_nib, None)) found w)
  sees_moves f stays v k ask seen here =
      moves_from ek ev k v ask f (λ found w. Looks ek ev (step k 0 0 ask) (v, (no_nib, None)) found w) l seen here (λ cs log seen' row pre.
      let all : log ++ [] ≡ log = append-nil log in let r : Answer (Entry K V) = answer_of false (log ++ []) in
      let P : Limits → Type 0 = λ m. IsLog ek ev m (log ++ []) × (value_of ek ev l (events log) k ≡ value_of ek ev m (events (log ++ [])) k) in (
        refl,
        (
          keeps,
          [],
          Some r,
          tt,
          subst (λ (n : ℕ). IsKept ek ev (slice_set cs k (n, true)) (log ++ [])) (sym (stays (value_of ek ev l (events log) k))) (kept_same cs log k seen' row here),
          inr (r, refl, refl, (refl, all)),
          record {
            answer = r;
            ran = refl;
            did = refl;
            log_is = refl;
            told = of_all v P seen (subst (λ (w : List (Entry K V)). IsLog ek ev l w × (value_of ek ev l (events log) k ≡ value_of ek ev l (events w) k)) (sym all) (seen', refl));
          },
        ),
      ))

  -- a load sees what the word holds
  pub looks_moves : (v : List (Entry K V)) (k : ℕ) (ask : Entry K V) → IsLog ek ev l v → k < l.buckets + 2
      → Moves (λ cells log. IsKept ek ev cells log) shown (λ xs ys r. Answered ask xs ys r) k (v, (no_nib, None)) (λ n. n) (λ found w. Looks ek ev (step k 0 0 ask) (v, (no_nib, None)) found w)
  looks_moves = sees_moves (λ n. n) (λ n. refl)

  zero_or : (n : ℕ) (is : Bool) → (n == 0) ≡ is → either is 0 n ≡ n
  zero_or n true is = sym (eqb-true n 0 is)
  zero_or n false is = refl

  -- and so does an exchange of zero for zero
  pub exchange_looks_moves : (v : List (Entry K V)) (k : ℕ) (ask : Entry K V) → IsLog ek ev l v → k < l.buckets + 2
      → Moves (λ cells log. IsKept ek ev cells log) shown (λ xs ys r. Answered ask xs ys r) k (v, (no_nib, None)) (λ n. either (n == 0) 0 n) (λ found w. Looks ek ev (step k 0 0 ask) (v, (no_nib, None)) found w)
  exchange_looks_moves = sees_moves (λ n. either (n == 0) 0 n) (λ n. zero_or n (n == 0) refl)

  -- an exchange adds the event, or sees that the word holds something else
  pub adds_moves : (v : List (Entry K V)) (k old new : ℕ) (e : Event K V) → IsLog ek ev l v → CanAdd ek ev l (events v) k old new e
      → Moves (λ cells log. IsKept ek ev cells log) shown (λ xs ys r. Answered (Happened e) xs ys r) k (v, (no_nib, None)) (λ n. either (n == old) new n) (λ found w. Adds ek ev (step k old new (Happened e)) (v, (no_nib, None)) found w)
  adds_moves v k old new e seen can =
      moves_from ek ev k v (Happened e) (λ n. either (n == old) new n) (λ found w. Adds ek ev (step k old new (Happened e)) (v, (no_nib, None)) found w) l seen can.there (λ cs log seen' row pre.
      by cs log seen' row pre (value_of ek ev l (events log) k == old) refl)
    where
      by : (cs : List Cell) (log : List (Entry K V)) → IsLog ek ev l log → IsRow ek ev l cs (events log) → IsPrefix v log → (b : Bool) → (value_of ek ev l (events log) k == old) ≡ b
          → GoesAt ek ev k v (Happened e) (λ n. either (n == old) new n) (λ found w. Adds ek ev (step k old new (Happened e)) (v, (no_nib, None)) found w) cs log (value_of ek ev l (events log) k, true)
      by cs log seen' row pre true is =
          let still : value_of ek ev l (events log) k ≡ old = grind (arith, nat_tests) in
          let writes : Writes ek ev l (events log) k new e = can.writes (events log) seen'.lawful (prefix_events v log pre) still in
          let more : events (log ++ Happened e ∷ []) ≡ events log ++ e ∷ [] = events-append log (Happened e ∷ []) in
          let seen'' : IsLog ek ev l (log ++ Happened e ∷ []) = log_more ek ev l log e seen' writes.may in
          let row' : IsRow ek ev l (slice_set cs k (new, true)) (events (log ++ Happened e ∷ [])) = subst (λ (w : List (Event K V)). IsRow ek ev l (slice_set cs k (new, true)) w) (sym more) (row_written ek ev l cs (events log) (events log ++ e ∷ []) k new row can.there writes.words) in
          let r : Answer (Entry K V) = answer_of true (log ++ Happened e ∷ []) in
          let P : Limits → Type 0 = λ m. IsLog ek ev m (log ++ Happened e ∷ [])
          × MatchBool (value_of ek ev l (events log) k == old) (IsAdded ek ev m (events v) k old e (events (log ++ Happened e ∷ []))) (value_of ek ev l (events log) k ≡ value_of ek ev m (events (log ++ Happened e ∷ [])) k) in (
            refl,
            (
              keeps,
              Happened e ∷ [],
              Some r,
              tt,
              record { limits = l; log_is = seen''; row = rw is row' },
              inr (r, refl, refl, (refl, (refl, is_next ek ev l (events log) e seen'.lawful writes.may))),
              record {
                answer = r;
                ran = refl;
                did = sym is;
                log_is = refl;
                told = of_all v P seen (seen'', rw is (events log, more, prefix_events v log pre, still));
              },
            ),
          )
      by cs log seen' row pre false is =
          let all : log ++ [] ≡ log = append-nil log in let r : Answer (Entry K V) = answer_of false (log ++ []) in
          let P : Limits → Type 0 = λ m. IsLog ek ev m (log ++ [])
          × MatchBool (value_of ek ev l (events log) k == old) (IsAdded ek ev m (events v) k old e (events (log ++ []))) (value_of ek ev l (events log) k ≡ value_of ek ev m (events (log ++ [])) k) in (
            refl,
            (
              keeps,
              [],
              Some r,
              tt,
              rw is (kept_same cs log k seen' row can.there),
              inr (r, refl, refl, (refl, all)),
              record {
                answer = r;
                ran = refl;
                did = sym is;
                log_is = refl;
                told = of_all v P seen (subst (λ (w : List (Entry K V)). IsLog ek ev l w
                    × MatchBool (value_of ek ev l (events log) k == old) (IsAdded ek ev l (events v) k old e (events w)) (value_of ek ev l (events log) k ≡ value_of ek ev l (events w) k)) (sym all) (seen', rw is refl));
              },
            ),
          )
