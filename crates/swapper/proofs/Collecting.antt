-- Spares that are tried one after another.
use Rattle.std.proofs.Common.{◌≡◌, ℕ, ◌+◌, ◌-◌, ◌^◌, ◌<◌, min, List, [], ◌∷◌, ◌++◌, length, refl, ap, sym, ◌∙◌, subst, inl, inr, ◌⊎◌, ⊎_elim, Option, Result, Bool, true, false, arith, append_assoc, length-append}
use Rattle.std.proofs.lemmas.List.{append-nil}
use mathlib.Core.List.{IsPrefix}
use Rattle.table_core.specs.declared.event.Event.{Event}
use Rattle.table_core.specs.declared.limits.Limits.{Limits}
use Rattle.version_words.specs.Views.{SpareView, Goes}
use Rattle.version_words.proofs.Fronts.{prefix_trans}
use Rattle.hash_table.proofs.Fronts.{goes_self, goes_trans}
use Rattle.hash_table.specs.declared.caller.Caller.{Caller}
use Rattle.hash_table.specs.declared.refusal.Refusal.{Refusal}
use Rattle.swapper.specs.Meetings.{Asks}
use Rattle.swapper.proofs.Clocks.{asks_all}
use Rattle.swapper.specs.declared.evictor.Collected.{Collected}
use Rattle.swapper.specs.declared.rule.SeatView.{SeatView}
use Rattle.swapper.specs.Seats.{TakesNext}
use Rattle.far_object.specs.declared.format.Format.{Format}
use Rattle.swapper.specs.Evictors.{EvictorView, shown, Works, IsAsked, IsKept, IsDealtWith, KeepsLast, Tries, Stays, DrawsKept, DrawsOwn, DrawsNext, IsFull, IsDrained, Sifts, TakesAll, AreGone, IsTurned, PutsBehind, Retries, Tried, Collects, Collecting, Picks, GivesUp, Turns}

-- counts that are shown add up
pub shown_more : (a b shown_a shown_b c : ℕ) → shown_a ≡ shown a → shown_b ≡ shown b → c ≡ min (shown_a + shown_b) (2 ^ 64 - 1) → c ≡ shown (a + b)
shown_more a b shown_a shown_b c x y z = omega (arith, x, y, z)

module _ {K V : Type 0} where
  pub works_self : (a : EvictorView K V) → Works a a
  works_self a = record { goes = goes_self a.pass; clock = refl; room = refl }

  pub works_trans : {a b c : EvictorView K V} → Works a b → Works b c → Works a c
  works_trans {a} {b} {c} f g = record { goes = goes_trans f.goes g.goes; clock = g.clock ∙ f.clock; room = g.room ∙ f.room }

  -- ---- what became of one more spare

  asked_later : (log later : List (Event K V)) → IsPrefix log later → (before : Bool) (s : SpareView K V) → IsAsked log before s → IsAsked later before s
  asked_later log later p before s h = (h.0, prefix_trans s.front log later h.1 p, h.2)

  kept_later : (log later : List (Event K V)) → IsPrefix log later → (before : Bool) (s : SpareView K V) (after : Bool) → IsKept log before s after → IsKept later before s after
  kept_later log later p before s after (inl h) = inl (asked_later log later p before s h.0, h.1)
  kept_later log later p before s after (inr h) = inr h

  sifts_later : (log later : List (Event K V)) → IsPrefix log later → (before : Bool) (ss kept : List (SpareView K V)) (after : Bool) → Sifts log before ss kept after → Sifts later before ss kept after
  sifts_later log later p before [] kept after h = h
  sifts_later log later p before (s ∷ ss) kept after (inl h) = inl (asked_later log later p before s h.0, h.1, sifts_later log later p before ss kept after h.2)
  sifts_later log later p before (s ∷ ss) kept after (inr h) = inr (h.0, h.1, h.2, kept_later log later p before s h.1 h.3, sifts_later log later p h.1 ss h.0 after h.4)

  sifts_push : (log : List (Event K V)) (before : Bool) (ss kept new : List (SpareView K V)) (s : SpareView K V) (gone : ℕ) (now after : Bool) → Sifts log before ss kept now → IsDealtWith log now kept s gone new after → Sifts log before (ss ++ s ∷ []) new after
  sifts_push log before [] kept new s gone now after h (inl e) = inl (subst (λ (b : Bool). IsAsked log b s) h.1 e.3, e.4, (e.1 ∙ h.0, e.2 ∙ h.1))
  sifts_push log before [] kept new s gone now after h (inr e) = inr ([], after, e.1 ∙ ap (λ (l : List (SpareView K V)). l ++ s ∷ []) h.0, subst (λ (b : Bool). IsKept log b s after) h.1 e.2, (refl, refl))
  sifts_push log before (x ∷ ss) kept new s gone now after (inl h) k = inl (h.0, h.1, sifts_push log before ss kept new s gone now after h.2 k)
  sifts_push log before (x ∷ ss) kept new s gone now after (inr h) (inl e) = inr (h.0, h.1, e.1 ∙ h.2, h.3, sifts_push log h.1 ss h.0 h.0 s gone now after h.4 (inl (e.0, refl, e.2, e.3, e.4)))
  sifts_push log before (x ∷ ss) kept new s gone now after (inr h) (inr e) =
      inr (h.0 ++ s ∷ [], h.1, e.1 ∙ ap (λ (l : List (SpareView K V)). l ++ s ∷ []) h.2, h.3, sifts_push log h.1 ss h.0 (h.0 ++ s ∷ []) s gone now after h.4 (inr (e.0, refl, e.2)))

  sifts_append : (log : List (Event K V)) (before : Bool) (a x : List (SpareView K V)) (now : Bool) (b y : List (SpareView K V)) (after : Bool) → Sifts log before a x now → Sifts log now b y after → Sifts log before (a ++ b) (x ++ y) after
  sifts_append log before [] x now b y after h k = subst (λ (l : List (SpareView K V)). Sifts log before b (l ++ y) after) (sym h.0) (subst (λ (f : Bool). Sifts log f b y after) h.1 k)
  sifts_append log before (s ∷ a) x now b y after (inl h) k = inl (h.0, h.1, sifts_append log before a x now b y after h.2 k)
  sifts_append log before (s ∷ a) x now b y after (inr h) k = inr (h.0 ++ y, h.1, ap (λ (l : List (SpareView K V)). l ++ y) h.2, h.3, sifts_append log h.1 a h.0 now b y after h.4 k)

  gone_push : (log : List (Event K V)) (ss kept new : List (SpareView K V)) (s : SpareView K V) (before gone : ℕ) (was failed : Bool) → AreGone before ss kept → IsDealtWith log was kept s gone new failed → AreGone (before + gone) (ss ++ s ∷ []) new
  gone_push log ss kept new s before gone was failed h (inl e) = let n = ap length e.1 in omega (arith, h, n, e.0, length-append ss (s ∷ []))
  gone_push log ss kept new s before gone was failed h (inr e) = let n = ap length e.1 in omega (arith, h, n, e.0, length-append ss (s ∷ []), length-append kept (s ∷ []))

  gone_append : (a x b y : List (SpareView K V)) (m n : ℕ) → AreGone m a x → AreGone n b y → AreGone (m + n) (a ++ b) (x ++ y)
  gone_append a x b y m n h k = omega (arith, h, k, length-append a b, length-append x y)

  -- one of them is shown as it is
  dealt_shown : (log : List (Event K V)) (was : Bool) (kept : List (SpareView K V)) (s : SpareView K V) (gone : ℕ) (new : List (SpareView K V)) (failed : Bool) → IsDealtWith log was kept s gone new failed → gone ≡ shown gone
  dealt_shown log was kept s gone new failed (inl e) = omega (arith, e.0)
  dealt_shown log was kept s gone new failed (inr e) = omega (arith, e.0)

  takes_one_more : (gone : List (SpareView K V)) (x : SpareView K V) (v u w : SeatView (SpareView K V)) → TakesAll v gone u → TakesNext u x w → TakesAll v (gone ++ x ∷ []) w
  takes_one_more [] x v u w h o = (w, subst (λ (y : SeatView (SpareView K V)). TakesNext y x w) h o, refl)
  takes_one_more (y ∷ gone) x v u w h o = (h.0, h.1, takes_one_more gone x h.0 u w h.2 o)

  -- ---- the kept spares

  pub record Retrying (old now : EvictorView K V) (k reclaimed : ℕ) (failed : Bool) : Type 0 where
    pub works : Works old now
    pub gone : List (SpareView K V)
    pub rest : List (SpareView K V)
    pub sifted : List (SpareView K V)
    pub all : old.kept ≡ gone ++ rest
    pub here : now.kept ≡ rest ++ sifted
    pub sifts : Sifts now.pass.front false gone sifted failed
    pub lost : AreGone reclaimed gone sifted
    pub few : reclaimed < 2 ^ 64
    pub count : length gone ≡ k
    pub limbo : now.limbo ≡ old.limbo
    pub seat : now.seat ≡ old.seat

  pub retrying_none : (old : EvictorView K V) → Retrying old old 0 0 false
  retrying_none old = record {
    works = works_self old;
    gone = [];
    rest = old.kept;
    sifted = [];
    all = refl;
    here = sym (append-nil old.kept);
    sifts = (refl, refl);
    lost = refl;
    few = omega arith;
    count = refl;
    limbo = refl;
    seat = refl;
  }

  keeps_behind : (log : List (Event K V)) (was : Bool) (a b new : List (SpareView K V)) (s : SpareView K V) (gone : ℕ) (failed : Bool) → IsDealtWith log was (a ++ b) s gone new failed
      → (c : List (SpareView K V)) × (new ≡ a ++ c) × IsDealtWith log was b s gone c failed
  keeps_behind log was a b new s gone failed (inl e) = (b, e.1, inl (e.0, refl, e.2, e.3, e.4))
  keeps_behind log was a b new s gone failed (inr e) = (b ++ s ∷ [], e.1 ∙ append_assoc a b (s ∷ []), inr (e.0, refl, e.2))

  pub retrying_more : (old now drawn new : EvictorView K V) (s : SpareView K V) (k reclaimed more sum : ℕ) (was failed : Bool) → k < length old.kept → k + 1 < 2 ^ 64 → Retrying old now k reclaimed was → DrawsKept now drawn s → Tries drawn new s was more failed
      → sum ≡ min (reclaimed + more) (2 ^ 64 - 1) → Retrying old new (k + 1) sum failed
  retrying_more old now drawn new s k reclaimed more sum was failed lt few r d t adds = by r.rest refl
    where
      by : (rest : List (SpareView K V)) → r.rest ≡ rest → Retrying old new (k + 1) sum failed
      by [] e = absurd (let n = ap length r.all in let z = ap length e in omega (arith, n, z, lt, r.count, length-append r.gone r.rest))
      by (x ∷ rest) e =
          let whole : s ∷ drawn.kept ≡ x ∷ (rest ++ r.sifted) = sym d.kept ∙ (r.here ∙ ap (λ (l : List (SpareView K V)). l ++ r.sifted) e) in
          let is : s ≡ x = cc in
          let left : drawn.kept ≡ rest ++ r.sifted = cc in
          let k' = keeps_behind new.pass.front was rest r.sifted new.kept s more failed (subst (λ (l : List (SpareView K V)). IsDealtWith new.pass.front was l s more new.kept failed) left t.kept) in
          record {
            works = works_trans r.works (works_trans d.works t.works);
            gone = r.gone ++ s ∷ [];
            rest = rest;
            sifted = k'.0;
            all = r.all ∙ (ap (λ (l : List (SpareView K V)). r.gone ++ l) (e ∙ ap (λ (y : SpareView K V). y ∷ rest) (sym is)) ∙ sym (append_assoc r.gone (s ∷ []) rest));
            here = k'.1;
            sifts = sifts_push new.pass.front false r.gone r.sifted k'.0 s more was failed (sifts_later now.pass.front new.pass.front (works_trans d.works t.works).goes.grows false r.gone r.sifted was r.sifts) k'.2;
            lost = (let all = gone_push new.pass.front r.gone r.sifted k'.0 s reclaimed more was failed r.lost k'.2 in omega (arith, all, adds, few, r.lost, r.count, length-append r.gone (s ∷ [])));
            few = omega (arith, adds);
            count = omega (arith, r.count, length-append r.gone (s ∷ []));
            limbo = t.limbo ∙ (d.limbo ∙ r.limbo);
            seat = t.seat ∙ (d.seat ∙ r.seat);
          }

  retrying_some : (old now : EvictorView K V) (k reclaimed : ℕ) (failed : Bool) → k < length old.kept → Retrying old now k reclaimed failed → now.kept ≡ [] → ⊥
  retrying_some old now k reclaimed failed lt r e =
      let n = ap length r.all in
      let m = ap length (sym e ∙ r.here) in
      omega (arith, n, m, lt, r.count, length-append r.gone r.rest, length-append r.rest r.sifted)

  pub retried_early : (old now new : EvictorView K V) (k reclaimed : ℕ) (failed : Bool) → k < length old.kept → Retrying old now k reclaimed failed → (now.kept ≡ []) × Stays now new → Retries old new reclaimed failed
  retried_early old now new k reclaimed failed lt r s = absurd (retrying_some old now k reclaimed failed lt r s.0)

  pub retried : (old now : EvictorView K V) (k reclaimed : ℕ) (failed : Bool) → k ≡ length old.kept → Retrying old now k reclaimed failed → Retries old now reclaimed failed
  retried old now k reclaimed failed all r = record {
    works = r.works;
    sifted = subst (λ (l : List (SpareView K V)). Sifts now.pass.front false l now.kept failed) (sym whole) (subst (λ (l : List (SpareView K V)). Sifts now.pass.front false r.gone l failed) (sym here) r.sifts);
    count = subst (λ (l : List (SpareView K V)). AreGone reclaimed l now.kept) (sym whole) (subst (λ (l : List (SpareView K V)). AreGone reclaimed r.gone l) (sym here) r.lost);
    few = r.few;
    limbo = r.limbo;
    seat = r.seat;
  }
    where
      by : (rest : List (SpareView K V)) → r.rest ≡ rest → r.rest ≡ []
      by [] e = e
      by (x ∷ rest) e = absurd (let n = ap length r.all in let z = ap length e in omega (arith, n, z, all, r.count, length-append r.gone r.rest))

      none : r.rest ≡ []
      none = by r.rest refl

      whole : old.kept ≡ r.gone
      whole = r.all ∙ (ap (λ (l : List (SpareView K V)). r.gone ++ l) none ∙ append-nil r.gone)

      here : now.kept ≡ r.sifted
      here = r.here ∙ ap (λ (l : List (SpareView K V)). l ++ r.sifted) none

  -- ---- its own limbo, and the queue

  pub tried_none : (old : EvictorView K V) (failed : Bool) → Tried old old [] [] failed 0 failed
  tried_none old failed = record { works = works_self old; added = []; kept = sym (append-nil old.kept); sifted = (refl, refl); gone = 0; count = refl; tells = refl; limbo = refl; seat = refl }

  keeps_added : (log : List (Event K V)) (was : Bool) (a b old new : List (SpareView K V)) (s : SpareView K V) (gone : ℕ) (failed : Bool) → old ≡ a ++ b → IsDealtWith log was old s gone new failed
      → (c : List (SpareView K V)) × (new ≡ a ++ c) × IsDealtWith log was b s gone c failed
  keeps_added log was a b old new s gone failed e k = keeps_behind log was a b new s gone failed (subst (λ (l : List (SpareView K V)). IsDealtWith log was l s gone new failed) e k)

  pub tried_own : (old now drawn new : EvictorView K V) (s : SpareView K V) (reclaimed more sum : ℕ) (before was failed : Bool) → (went : List (SpareView K V)) × Tried old now went [] before reclaimed was → DrawsOwn now drawn s → Tries drawn new s was more failed
      → sum ≡ min (reclaimed + more) (2 ^ 64 - 1) → (went : List (SpareView K V)) × Tried old new went [] before sum failed
  tried_own old now drawn new s reclaimed more sum before was failed (went, r) d t is =
      let log = new.pass.front in
      let k = keeps_added log was old.kept r.added drawn.kept new.kept s more failed (d.kept ∙ r.kept) t.kept in
      let sifted : Sifts now.pass.front before went r.added was = subst (λ (l : List (SpareView K V)). Sifts now.pass.front before l r.added was) (append-nil went) r.sifted in
      let lost : AreGone r.gone went r.added = subst (λ (l : List (SpareView K V)). AreGone r.gone l r.added) (append-nil went) r.count in (
        went ++ s ∷ [],
        record {
          works = works_trans r.works (works_trans d.works t.works);
          added = k.0;
          kept = k.1;
          sifted = subst (λ (l : List (SpareView K V)). Sifts new.pass.front before l k.0 failed) (sym (append-nil (went ++ s ∷ [])))
              (sifts_push new.pass.front before went r.added k.0 s more was failed (sifts_later now.pass.front new.pass.front (works_trans d.works t.works).goes.grows before went r.added was sifted) k.2);
          gone = r.gone + more;
          count = subst (λ (l : List (SpareView K V)). AreGone (r.gone + more) l k.0) (sym (append-nil (went ++ s ∷ []))) (gone_push new.pass.front went r.added k.0 s r.gone more was failed lost k.2);
          tells = shown_more r.gone more reclaimed more sum r.tells (dealt_shown new.pass.front was r.added s more k.0 failed k.2) is;
          limbo = r.limbo ∙ (ap (λ (l : List (SpareView K V)). went ++ l) (d.limbo ∙ ap (λ (l : List (SpareView K V)). s ∷ l) (sym t.limbo)) ∙ sym (append_assoc went (s ∷ []) new.limbo));
          seat = t.seat ∙ (d.seat ∙ r.seat);
        },
      )

  pub tried_next : (old now drawn new : EvictorView K V) (s : SpareView K V) (reclaimed more sum : ℕ) (before was failed : Bool) → (taken : List (SpareView K V)) × Tried old now [] taken before reclaimed was → DrawsNext now drawn s → Tries drawn new s was more failed
      → sum ≡ min (reclaimed + more) (2 ^ 64 - 1) → (taken : List (SpareView K V)) × Tried old new [] taken before sum failed
  tried_next old now drawn new s reclaimed more sum before was failed (taken, r) d t is =
      let k = keeps_added new.pass.front was old.kept r.added drawn.kept new.kept s more failed (d.kept ∙ r.kept) t.kept in (
        taken ++ s ∷ [],
        record {
          works = works_trans r.works (works_trans d.works t.works);
          added = k.0;
          kept = k.1;
          sifted = sifts_push new.pass.front before taken r.added k.0 s more was failed (sifts_later now.pass.front new.pass.front (works_trans d.works t.works).goes.grows before taken r.added was r.sifted) k.2;
          gone = r.gone + more;
          count = gone_push new.pass.front taken r.added k.0 s r.gone more was failed r.count k.2;
          tells = shown_more r.gone more reclaimed more sum r.tells (dealt_shown new.pass.front was r.added s more k.0 failed k.2) is;
          limbo = r.limbo ∙ sym (t.limbo ∙ d.limbo);
          seat = takes_one_more taken s old.seat now.seat new.seat r.seat (subst (λ (v : SeatView (SpareView K V)). TakesNext now.seat s v) (sym t.seat) d.seat);
        },
      )

  -- one that draws nothing more
  tried_stays : (old now new : EvictorView K V) (went taken : List (SpareView K V)) (before : Bool) (reclaimed : ℕ) (failed : Bool) → Tried old now went taken before reclaimed failed → Stays now new → Tried old new went taken before reclaimed failed
  tried_stays old now new went taken before reclaimed failed r s = record {
    works = works_trans r.works s.works;
    added = r.added;
    kept = s.kept ∙ r.kept;
    sifted = sifts_later now.pass.front new.pass.front s.works.goes.grows before (went ++ taken) r.added failed r.sifted;
    gone = r.gone;
    count = r.count;
    tells = r.tells;
    limbo = r.limbo ∙ ap (λ (l : List (SpareView K V)). went ++ l) (sym s.limbo);
    seat = subst (λ (v : SeatView (SpareView K V)). TakesAll old.seat taken v) (sym s.seat) r.seat;
  }

  pub tried_empty : (old now new : EvictorView K V) (before : Bool) (reclaimed : ℕ) (failed : Bool) → (went : List (SpareView K V)) × Tried old now went [] before reclaimed failed → (now.limbo ≡ []) × Stays now new
      → (went : List (SpareView K V)) × Tried old new went [] before reclaimed failed
  tried_empty old now new before reclaimed failed (went, r) s = (went, tried_stays old now new went [] before reclaimed failed r s.1)

  pub tried_drained : (old now new : EvictorView K V) (before : Bool) (reclaimed : ℕ) (failed : Bool) → (taken : List (SpareView K V)) × Tried old now [] taken before reclaimed failed → IsDrained now.seat × Stays now new
      → (taken : List (SpareView K V)) × Tried old new [] taken before reclaimed failed
  tried_drained old now new before reclaimed failed (taken, r) s = (taken, tried_stays old now new [] taken before reclaimed failed r s.1)

  pub stopped_empty : (now new : EvictorView K V) → (now.limbo ≡ []) × Stays now new → IsFull new ⊎ (new.limbo ≡ [])
  stopped_empty now new s = inr (s.1.limbo ∙ s.0)

  pub stopped_drained : (now new : EvictorView K V) → IsDrained now.seat × Stays now new → IsFull new ⊎ IsDrained new.seat
  stopped_drained now new s = inr (subst (λ (v : SeatView (SpareView K V)). IsDrained v) (sym s.1.seat) s.0)

  -- ---- the first goes behind the others

  pub put_none : (old new : EvictorView K V) (failed : Bool) → failed ≡ true → (old.kept ≡ []) × Stays old new → PutsBehind old new failed
  put_none old new failed is s = record {
    works = s.1.works;
    kept = subst (λ (b : Bool). IsTurned b old.kept new.kept) (sym is) (subst (λ (l : List (SpareView K V)). IsTurned true l new.kept) (sym s.0) (s.1.kept ∙ s.0));
    limbo = s.1.limbo;
    seat = s.1.seat;
  }

  pub put_first : (old drawn new : EvictorView K V) (s : SpareView K V) (failed : Bool) → failed ≡ true → DrawsKept old drawn s → KeepsLast drawn new s → PutsBehind old new failed
  put_first old drawn new s failed is d k = record {
    works = works_trans d.works k.works;
    kept = subst (λ (b : Bool). IsTurned b old.kept new.kept) (sym is) (subst (λ (l : List (SpareView K V)). IsTurned true l new.kept) (sym d.kept) k.kept);
    limbo = k.limbo ∙ d.limbo;
    seat = k.seat ∙ d.seat;
  }

  turned_length : (failed : Bool) (kept new : List (SpareView K V)) → IsTurned failed kept new → length new ≡ length kept
  turned_length false kept new e = ap length e
  turned_length true [] new e = ap length e
  turned_length true (s ∷ rest) new e = let n = ap length e in omega (arith, n, length-append rest (s ∷ []))

  -- ---- all of it

  pub collected : (old a b c new : EvictorView K V) (x y z : ℕ) (f g h : Bool) (answer : Collected) → Retries old a x f → (went : List (SpareView K V)) × Tried a b went [] f y g → IsFull b ⊎ (b.limbo ≡ []) → (taken : List (SpareView K V)) × Tried b c [] taken g z h
      → IsFull c ⊎ IsDrained c.seat → PutsBehind c new h → answer.failed ≡ h → x < 2 ^ 64 → answer.reclaimed ≡ min (min (x + y) (2 ^ 64 - 1) + z) (2 ^ 64 - 1) → answer.kept ≡ length new.kept → Collecting old new answer
  collected old a b c new x y z f g h answer r (went, o) own (taken, q) next p same few is count = record {
    gone = x + (o.gone + q.gone);
    collects = record {
      works = works_trans (works_trans r.works (works_trans o.works q.works)) p.works;
      went = went;
      taken = taken;
      stay = c.kept;
      limbo = sym r.limbo ∙ (o.limbo ∙ ap (λ (l : List (SpareView K V)). went ++ l) (q.limbo ∙ sym p.limbo));
      seat = subst (λ (v : SeatView (SpareView K V)). TakesAll old.seat taken v) (sym p.seat) (subst (λ (v : SeatView (SpareView K V)). TakesAll v taken c.seat) (o.seat ∙ r.seat) q.seat);
      sifted = subst (λ (e : Bool). Sifts new.pass.front false (old.kept ++ (went ++ taken)) c.kept e) (sym same) (sifts_later c.pass.front new.pass.front p.works.goes.grows false (old.kept ++ (went ++ taken)) c.kept h sifted);
      kept = subst (λ (e : Bool). IsTurned e c.kept new.kept) (sym same) p.kept;
      count = (let n = turned_length h c.kept new.kept p.kept in let m = ap length all in omega (arith, n, m, gone));
      stopped = stopped;
    };
    reclaimed = omega (arith, few, is, o.tells, q.tells);
    kept = count;
  }
    where
      all : c.kept ≡ a.kept ++ (o.added ++ q.added)
      all = q.kept ∙ (ap (λ (l : List (SpareView K V)). l ++ q.added) o.kept ∙ append_assoc a.kept o.added q.added)

      own_sifted : Sifts b.pass.front f went o.added g
      own_sifted = subst (λ (l : List (SpareView K V)). Sifts b.pass.front f l o.added g) (append-nil went) o.sifted

      lost : AreGone o.gone went o.added
      lost = subst (λ (l : List (SpareView K V)). AreGone o.gone l o.added) (append-nil went) o.count

      sifted : Sifts c.pass.front false (old.kept ++ (went ++ taken)) c.kept h
      sifted = subst (λ (l : List (SpareView K V)). Sifts c.pass.front false (old.kept ++ (went ++ taken)) l h) (sym all)
          (sifts_append c.pass.front false old.kept a.kept f (went ++ taken) (o.added ++ q.added) h (sifts_later a.pass.front c.pass.front (works_trans o.works q.works).goes.grows false old.kept a.kept f r.sifted)
          (sifts_append c.pass.front f went o.added g taken q.added h (sifts_later b.pass.front c.pass.front q.works.goes.grows f went o.added g own_sifted) q.sifted))

      gone : AreGone (x + (o.gone + q.gone)) (old.kept ++ (went ++ taken)) (a.kept ++ (o.added ++ q.added))
      gone = gone_append old.kept a.kept (went ++ taken) (o.added ++ q.added) x (o.gone + q.gone) r.count (gone_append went o.added taken q.added o.gone q.gone lost q.count)

      full : IsFull c → IsFull new
      full e = let n = turned_length h c.kept new.kept p.kept in let room = p.works.room in omega (arith, e, n, room)

      stopped : IsFull new ⊎ ((new.limbo ≡ []) × IsDrained new.seat)
      stopped = ⊎_elim
          (λ is_full. inl (full is_full))
          (λ drained. ⊎_elim
          (λ was_full. inl (full (let n = ap length q.kept in let room = q.works.room in omega (arith, was_full, n, room, length-append b.kept q.added))))
          (λ none. inr (p.limbo ∙ (sym q.limbo ∙ none), subst (λ (v : SeatView (SpareView K V)). IsDrained v) (sym p.seat) drained))
          own)
          next

  -- ---- a turn

  -- what the caller does where frames are asked through it
  pub asked_goes : {J : Type 0} (count hand n : ℕ) (s t : Caller K V J) → Asks (λ f (a b : Caller K V J). Goes a.pass b.pass × (b.limbo ≡ a.limbo)) count hand n s t → Goes s.pass t.pass × (t.limbo ≡ s.limbo)
  asked_goes {J} count hand n s t = asks_all (λ (a b : Caller K V J). Goes a.pass b.pass × (b.limbo ≡ a.limbo)) (λ f a b. Goes a.pass b.pass × (b.limbo ≡ a.limbo)) count hand
      (λ a. (goes_self a.pass, refl)) (λ a b c g h. (goes_trans g.0 h.0, h.1 ∙ g.1)) (λ f a b g. g) n s t

  pub turns_collect : (old new : EvictorView K V) (gone : ℕ) (failed : Bool) → Collects old new gone failed → Turns old new
  turns_collect old new gone failed c = record { goes = c.works.goes; count = ap (λ (k : _). length k.marks) c.works.clock; room = c.works.room }

  pub turns_pick : (old new : EvictorView K V) (v : Option ℕ) → Picks old new v → Turns old new
  turns_pick old new v p = record { goes = p.goes; count = p.walked.swept.count_stays; room = p.room }

  pub turns_trans : {a b c : EvictorView K V} → Turns a b → Turns b c → Turns a c
  turns_trans f g = record { goes = goes_trans f.goes g.goes; count = g.count ∙ f.count; room = g.room ∙ f.room }

module _ {K V : Type 0} (ek : K → List ℕ) (ev : V → List ℕ) (l : Limits) (format : Format) where
  pub turns_give_up : (old new : EvictorView K V) (frame : ℕ) (r : Result Bool Refusal) → GivesUp ek ev l format old new frame r → Turns old new
  turns_give_up old new frame r c = record { goes = c.works.goes; count = ap (λ (k : _). length k.marks) c.works.clock; room = c.works.room }
