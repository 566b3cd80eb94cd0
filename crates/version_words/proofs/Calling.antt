-- What the tallies tell of the calls of a pass.
use Rattle.std.proofs.Common.{◌≡◌, ℕ, ◌+◌, ◌-◌, ◌<◌, ◌==◌, Bool, true, false, cond, List, [], ◌∷◌, ◌++◌, Option, Some, None, length, map, refl, ap, sym, ◌∙◌, arith, length-append}
use Rattle.std.proofs.lemmas.Bool.Decides.{nat_tests}
use Rattle.std.proofs.lemmas.List.{append-nil, map-append}
use Rattle.std.proofs.lemmas.List.Elements.{filter-append}
use Rattle.std.specs.List.{filter}
use mathlib.Core.List.{IsPrefix}
use Rattle.table_core.specs.declared.event.Event.{Event}
use Rattle.table_core.specs.declared.event.Event.TheVariants.{Enter, Named, Done, Moved}
use Rattle.table_core.specs.declared.operation.Operation.{Operation}
use Rattle.table_core.specs.Logs.{history, passes_of}
use Rattle.table_core.proofs.Logs.{history-append}
use Rattle.version_words.specs.Boards.{total, Slot, ignores, raises, opens_at, after, Told, hit, board_at}
use Rattle.version_words.specs.Tallies.{calls_in, passes_in, on_pass}
use Rattle.version_words.specs.Views.{calls_of, IsTally, IsPass, Goes, Calls, MakesCall, installing}
use Rattle.version_words.proofs.Fronts.{passes_grow, prefix_trans, prefix_last}

no_length : {A : Type 0} (xs : List A) → length xs ≡ 0 → xs ≡ []
no_length [] e = refl
no_length (x ∷ xs) e = absurd (omega (arith, e))

pub after_raises : (done : Bool) (s : Slot) → ((after raises done s).held ≡ s.held) × ((after raises done s).key ≡ s.key)
after_raises true s = (refl, refl)
after_raises false s = (refl, refl)

pub after_ignores : (done : Bool) (s : Slot) → after ignores done s ≡ s
after_ignores true s = refl
after_ignores false s = refl

module _ {K V : Type 0} where
  -- a pass's tally counts its calls
  pub total_calls : (log : List (Event K V)) (k : ℕ) → total calls_in log k ≡ length (calls_of (k + 1) log)
  total_calls [] k = refl
  total_calls (Enter p ∷ log) k = omega (arith, total_calls log k)
  total_calls (Named n b es ∷ log) k = omega (arith, total_calls log k)
  total_calls (Done p o w ∷ log) k = by (p == k + 1) (total_calls log k)
    where
      by : (c : Bool) → total calls_in log k ≡ length (calls_of (k + 1) log)
          → hit c + total calls_in log k ≡ length (map (λ call. call.1) (cond c ((p, o) ∷ filter (λ call. call.0 == k + 1) (history log)) (filter (λ call. call.0 == k + 1) (history log))))
      by true rest = omega (arith, rest)
      by false rest = omega (arith, rest)
  total_calls (Moved b w ∷ log) k = omega (arith, total_calls log k)

  pub calls-append : (p : ℕ) (xs ys : List (Event K V)) → calls_of p (xs ++ ys) ≡ calls_of p xs ++ calls_of p ys
  calls-append p xs ys =
      ap (λ (h : List (ℕ × Operation K V)). map (λ call. call.1) (filter (λ call. call.0 == p) h)) (history-append xs ys)
      ∙ (ap (λ (h : List (ℕ × Operation K V)). map (λ call. call.1) h) (filter-append (λ call. call.0 == p) (history xs) (history ys))
      ∙ map-append (λ call. call.1) (filter (λ call. call.0 == p) (history xs)) (filter (λ call. call.0 == p) (history ys)))

  -- of two fronts with as many calls of a pass, one the beginning of the other, the calls are the same
  pub calls_kept : (p : ℕ) (xs ys : List (Event K V)) → IsPrefix xs ys → length (calls_of p ys) ≡ length (calls_of p xs) → calls_of p ys ≡ calls_of p xs
  calls_kept p xs ys pre same =
      let split : calls_of p ys ≡ calls_of p xs ++ calls_of p pre.0 = ap (calls_of p) (sym pre.1) ∙ calls-append p xs pre.0 in
      let none : length (calls_of p pre.0) ≡ 0 = omega (arith, same, ap length split, length-append (calls_of p xs) (calls_of p pre.0)) in
      split ∙ (ap (λ (l : List (Operation K V)). calls_of p xs ++ l) (no_length (calls_of p pre.0) none) ∙ append-nil (calls_of p xs))

  -- and so they are in each front between
  pub calls_between : (p : ℕ) (xs ys zs : List (Event K V)) → IsPrefix xs ys → IsPrefix ys zs → calls_of p zs ≡ calls_of p xs → calls_of p ys ≡ calls_of p xs
  calls_between p xs ys zs pre post same =
      let one : calls_of p ys ≡ calls_of p xs ++ calls_of p pre.0 = ap (calls_of p) (sym pre.1) ∙ calls-append p xs pre.0 in
      let two : calls_of p zs ≡ calls_of p ys ++ calls_of p post.0 = ap (calls_of p) (sym post.1) ∙ calls-append p ys post.0 in
      calls_kept p xs ys pre (omega (arith, ap length one, ap length two, ap length same, length-append (calls_of p xs) (calls_of p pre.0), length-append (calls_of p ys) (calls_of p post.0)))

  own_call : (p : ℕ) (o : Operation K V) (w : Option ℕ) → calls_of p (Done p o w ∷ []) ≡ o ∷ []
  own_call p o w = let e : (p == p) ≡ true = grind (arith, nat_tests) in rw e refl

  -- a front that ends with a call of the pass and has one more of them
  pub calls_added : (p : ℕ) (o : Operation K V) (w : Option ℕ) (xs before ys : List (Event K V)) → IsPrefix xs before → ys ≡ before ++ Done p o w ∷ [] → length (calls_of p ys) ≡ length (calls_of p xs) + 1
      → calls_of p ys ≡ calls_of p xs ++ o ∷ []
  calls_added p o w xs before ys pre is more =
      let split : calls_of p ys ≡ calls_of p before ++ o ∷ [] = ap (calls_of p) is ∙ (calls-append p before (Done p o w ∷ []) ∙ ap (λ (l : List (Operation K V)). calls_of p before ++ l) (own_call p o w)) in
      let n : length (calls_of p before) ≡ length (calls_of p xs) = omega (arith, more, ap length split, length-append (calls_of p before) (o ∷ [])) in
      split ∙ ap (λ (l : List (Operation K V)). l ++ o ∷ []) (calls_kept p xs before pre n)

  -- the tally of a pass, in a log that it tells of
  pub tells : (log : List (Event K V)) (s : Slot) (p : ℕ) → 0 < s.held → s.key + 1 ≡ p → Told calls_in passes_in log s → IsTally s p (length (calls_of p log))
  tells log s p held key told = record {
    held = held;
    key = key;
    count = let t = told held in t.1 ∙ (total_calls log s.key ∙ ap (λ (q : ℕ). length (calls_of q log)) key);
  }

  -- the pass after a step: its tally still tells of its calls
  pub still_pass : (names : List ℕ) (xs ys : List (Event K V)) (p b c : ℕ) (s t : Slot) → IsPass names xs p b s → IsPrefix xs ys → c ≡ board_at names 0 → t.held ≡ s.held → t.key ≡ s.key → Told calls_in passes_in ys t → IsPass names ys p c t
  still_pass names xs ys p b c s t pass pre board held key told = record {
    first = pass.first;
    last = omega (arith, pass.last, passes_grow xs ys pre);
    board_is = board;
    tally = let tally = pass.tally in tells ys t p (omega (arith, held, tally.held)) (omega (arith, key, tally.key)) told;
  }

  -- a pass whose tally stays has made no call
  pub pass_goes : (names : List ℕ) (xs ys : List (Event K V)) (p b : ℕ) (s t : Slot) → IsPass names xs p b s → IsPrefix xs ys → t ≡ s → Told calls_in passes_in ys t
      → Goes (record { front = xs; number = p }) (record { front = ys; number = p })
  pass_goes names xs ys p b s t pass pre same told =
      let tally = pass.tally in
      let now = tells ys t p (omega (arith, ap (λ (u : Slot). u.held) same, tally.held)) (omega (arith, ap (λ (u : Slot). u.key) same, tally.key)) told in
      record { number = refl; grows = pre; calls_stay = calls_kept p xs ys pre (omega (arith, now.count, tally.count, ap (λ (u : Slot). u.count) same)) }

  -- a pass whose tally rose with the event of its call has made it
  pub pass_calls : (names : List ℕ) (o : Operation K V) (w : Option ℕ) (xs before ys : List (Event K V)) (p b : ℕ) (s t : Slot) → IsPass names xs p b s → IsPrefix xs before → ys ≡ before ++ Done p o w ∷ [] → t ≡ after raises true s
      → Told calls_in passes_in ys t → Calls (record { front = xs; number = p }) (record { front = ys; number = p }) o
  pass_calls names o w xs before ys p b s t pass pre is rose told =
      let tally = pass.tally in
      let now = tells ys t p (omega (arith, ap (λ (u : Slot). u.held) rose, tally.held)) (omega (arith, ap (λ (u : Slot). u.key) rose, tally.key)) told in
      record {
        number = refl;
        grows = prefix_trans xs before ys pre (Done p o w ∷ [], sym is);
        call_added = calls_added p o w xs before ys pre is (omega (arith, now.count, tally.count, ap (λ (u : Slot). u.count) rose));
      }

  -- a pass that has just entered
  pub new_pass : (names : List ℕ) (before log : List (Event K V)) (p b : ℕ) (t : Slot) → passes_of before + 1 ≡ p → log ≡ before ++ Enter p ∷ [] → b ≡ board_at names 0 → t ≡ after (opens_at (p - 1)) true (record { held = 0; key = 0; count = 0 })
      → Told calls_in passes_in log t → IsPass names log p b t × (calls_of p log ≡ [])
  new_pass names before log p b t next is board slot told =
      let now = tells log t p (omega (arith, ap (λ (u : Slot). u.held) slot)) (omega (arith, ap (λ (u : Slot). u.key) slot, next)) told in
      let grow : passes_of log ≡ passes_of before + 1 = ap passes_of is ∙ Rattle.table_core.proofs.Logs.passes-append before (Enter p ∷ []) in (
        record { first = omega (arith, next); last = omega (arith, next, grow); board_is = board; tally = now },
        no_length (calls_of p log) (omega (arith, now.count, ap (λ (u : Slot). u.count) slot)),
      )

  -- an install keeps the pass's tally, or raises it
  pub install_keeps : (p b w : ℕ) (o : Option (Operation K V)) (done : Bool) (s : Slot)
      → ((after (on_pass (installing p b w o)) done s).held ≡ s.held) × ((after (on_pass (installing p b w o)) done s).key ≡ s.key)
  install_keeps p b w (Some o) done s = after_raises done s
  install_keeps p b w None done s = (ap (λ (u : Slot). u.held) (after_ignores done s), ap (λ (u : Slot). u.key) (after_ignores done s))

  -- a pass whose install was added has made its call, if it is one
  pub pass_changes : (names : List ℕ) (o : Option (Operation K V)) (c w : ℕ) (xs before ys : List (Event K V)) (p b : ℕ) (s t : Slot) → IsPass names xs p b s → IsPrefix xs before → ys ≡ before ++ installing p c w o ∷ []
      → t ≡ after (on_pass (installing p c w o)) true s → Told calls_in passes_in ys t → MakesCall o (record { front = xs; number = p }) (record { front = ys; number = p })
  pass_changes names (Some o) c w xs before ys p b s t pass pre is goes told = pass_calls names o (Some w) xs before ys p b s t pass pre is goes told
  pass_changes names None c w xs before ys p b s t pass pre is goes told = pass_goes names xs ys p b s t pass (prefix_last xs before ys (Moved c w) pre is) goes told
