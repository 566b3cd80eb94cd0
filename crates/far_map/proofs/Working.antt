-- The end of a run whose workers have ended.
use Rattle.std.proofs.Common.{◌≡◌, ◌≢◌, ℕ, suc, ◌+◌, ◌<◌, ◌==◌, Bool, true, false, List, [], ◌∷◌, ◌++◌, Option, None, Result, Ok, Err, IfOk, IfErr, length, map, refl, ap, sym, ◌∙◌, subst, arith, length-append}
use Rattle.std.specs.Prelude.{slice_index_or, IsErrAnd, ⊤}
use Rattle.std.proofs.lemmas.Bool.Decides.{nat_tests}
use Rattle.std.proofs.lemmas.List.{map-append}
use Rattle.std.specs.List.{AllByRecursion}
use Rattle.far_object.specs.Encodings.{enc_text}
use Rattle.table_core.specs.declared.limits.Limits.{Limits}
use Rattle.table_core.specs.Maps.{map_of}
use Rattle.table_core.specs.Logs.{history, passes_of}
use Rattle.table_core.specs.Lawful.{IsLawful}
use Rattle.version_words.specs.Views.{IsWhole, AreNone, AreApart, calls, calls_of}
use Rattle.hash_table.specs.declared.caller.Caller.{Caller}
use Rattle.hash_table.specs.Closes.{IsClosed, ClosesSorted, ClosesInOrder, Hands}
use Rattle.far_map.specs.Views.{View, Log, Pairs, SessionView}
use Rattle.far_map.specs.declared.run_end.End.{End}
use Rattle.far_map.specs.declared.run_end.Given.{Given}
use Rattle.far_map.specs.declared.fault.MapFault.{MapFault}
use Rattle.far_map.specs.Ends.{IsClosedBy, IsBundledBy, IsHandedBy}
use Rattle.far_map.specs.declared.fault.MapFault.TheVariants as run
use Rattle.far_map.specs.declared.settings.Setting.{Setting}
use Rattle.hash_table.specs.declared.refusal.OpenFault.{OpenFault}
use Rattle.hash_table.specs.declared.refusal.OpenFault.TheVariants as opened
use Rattle.hash_table.specs.Openings.{IsOpenFault, IsNamedFault}
use Rattle.far_map.specs.Faults.{of_opening, IsOfEntering, IsLater, IsEarlyFault, IsRunFault, IsHandingFault}
use Rattle.far_map.specs.Generations.{IsFrontBy}
use Rattle.far_map.specs.Runs.{Worked, IsEnd, IsEndInOrder, AreSeen, IsLeft, IsWorked, IsRun, IsRunBundled, IsRunApart, IsRunThrough, EndsSo}

none_front : {V : Type 0} (pass : View V) (xs ys : List (View V)) → AreNone pass (xs ++ ys) → AreNone pass xs
none_front pass [] ys h = tt
none_front pass (x ∷ xs) ys h = (h.0, none_front pass xs ys h.1)

apart_front : {V : Type 0} (xs ys : List (View V)) → AreApart (xs ++ ys) → AreApart xs
apart_front [] ys h = tt
apart_front (x ∷ xs) ys h = (none_front x xs ys h.0, apart_front xs ys h.1)

pub none_of : {V : Type 0} (pass : View V) (xs : List (View V)) (e : View V) → AreNone pass xs → pass.number ≢ e.number → AreNone pass (xs ++ e ∷ [])
none_of pass [] e h other = (other, tt)
none_of pass (x ∷ xs) e h other = (h.0, none_of pass xs e h.1 other)

all_front : {A : Type 0} (P : A → Type 0) (xs ys : List A) → AllByRecursion P (xs ++ ys) → AllByRecursion P xs
all_front P [] ys h = tt
all_front P (x ∷ xs) ys h = (h.0, all_front P xs ys h.1)

pub last_of : {A : Type 0} (P : A → Type 0) (xs : List A) (y : A) → AllByRecursion P (xs ++ y ∷ []) → P y
last_of P [] y h = h.0
last_of P (x ∷ xs) y h = last_of P xs y h.1

-- a lawful log has the calls of these passes, each as it made them, and no others
pub record IsFrontIn {V : Type 0} (ev : V → List ℕ) (l : Limits) (passes : List (View V)) (log : Log V) : Type 0 where
  pub lawful : IsLawful enc_text ev l log
  pub all : passes_of log ≡ length passes + 1
  pub apart : AreApart passes
  pub whole : AllByRecursion (λ pass. IsWhole log pass) passes
  pub no_other : (pass : View V) → AreNone pass passes → calls_of pass.number log ≡ []

module _ {V J : Type 0} where
  abbrev pass_of : Caller (List ℕ) V J → View V
  pass_of c = c.pass

  all_whole : (P : View V → Type 0) (callers : List (Caller (List ℕ) V J)) → ((k : ℕ) (d : Caller (List ℕ) V J) → k < length callers → P (slice_index_or callers k d).pass) → AllByRecursion P (map (λ c. c.pass) callers)
  all_whole P [] each = tt
  all_whole P (c ∷ cs) each = (each 0 c (omega arith), all_whole P cs (λ k d lt. each (suc k) d (omega (arith, lt))))

  map_length : (callers : List (Caller (List ℕ) V J)) → length (map (λ c. c.pass) callers) ≡ length callers
  map_length [] = refl
  map_length (c ∷ cs) = omega (arith, map_length cs)

  -- a map that these callers and its own close ends with their passes
  pub ended : (ev : V → List ℕ) (l : Limits) (callers : List (Caller (List ℕ) V J)) (pairs : Pairs V) → IsClosedBy ev l callers pairs → IsEnd ev l (map (λ c. c.pass) callers) pairs
  ended ev l callers pairs h = record {
    log = h.closed.log;
    lawful = h.closed.lawful;
    all = h.closed.all ∙ (length-append callers (h.own ∷ []) ∙ ap (λ (n : ℕ). n + 1) (sym (map_length callers)));
    apart = apart_front own_passes (h.own.pass ∷ []) (subst AreApart passes_are h.closed.apart);
    whole = all_front (λ (pass : View V). IsWhole h.closed.log pass) own_passes (h.own.pass ∷ []) whole;
    no_other = λ pass none. other pass none (h.own.pass.number == pass.number) refl;
    pairs_are = h.closed.pairs_are;
  }
    where
      own_passes : List (View V)
      own_passes = map (λ c. c.pass) callers

      passes_are : map (λ c. c.pass) (callers ++ h.own ∷ []) ≡ own_passes ++ h.own.pass ∷ []
      passes_are = map-append pass_of callers (h.own ∷ [])

      whole : AllByRecursion (λ (pass : View V). IsWhole h.closed.log pass) (own_passes ++ h.own.pass ∷ [])
      whole = subst (λ (ps : List (View V)). AllByRecursion (λ (pass : View V). IsWhole h.closed.log pass) ps) passes_are (all_whole (λ (pass : View V). IsWhole h.closed.log pass) (callers ++ h.own ∷ []) h.closed.whole)

      other : (pass : View V) → AreNone pass own_passes → (c : Bool) → (h.own.pass.number == pass.number) ≡ c → calls_of pass.number h.closed.log ≡ []
      other pass none true at =
          let same : h.own.pass.number ≡ pass.number = grind (arith, nat_tests) in
          let own : IsWhole h.closed.log h.own.pass = last_of (λ (pass : View V). IsWhole h.closed.log pass) own_passes h.own.pass whole in
          ap (λ (q : ℕ). calls_of q h.closed.log) (sym same) ∙ (own.all ∙ h.no_calls)
      other pass none false at =
          let apart : pass.number ≢ h.own.pass.number = grind (arith, nat_tests) in
          h.closed.no_other pass (subst (λ (ps : List (View V)). AreNone pass ps) (sym passes_are) (none_of pass own_passes h.own.pass none apart))

  -- the same of one that hands its pairs over, one bucket behind the other
  pub ended_in_order : (ev : V → List ℕ) (l : Limits) (callers : List (Caller (List ℕ) V J)) (pairs : Pairs V) → IsHandedBy ev l callers pairs → IsEndInOrder ev l (map (λ c. c.pass) callers) pairs
  unfolding ended
  ended_in_order ev l callers pairs h =
      let all : Pairs V = map_of enc_text ev (history h.closed.log) in
      let front = h.closed.front in
      let closed : IsClosed enc_text ev l (callers ++ h.own ∷ []) all =
      record { log = h.closed.log; lawful = front.lawful; all = front.all; apart = front.apart; whole = front.whole; no_other = front.no_other; pairs_are = λ honest. refl } in
      record { all = all; ended = ended ev l callers all (record { own = h.own; no_calls = h.no_calls; closed = closed }); in_order = h.closed.in_order }

module _ {V J : Type 0} (ev : V → List ℕ) (l : Limits) where
  -- a front of these callers and the map's own is one of their passes
  pub front_in : (callers : List (Caller (List ℕ) V J)) (log : Log V) → IsFrontBy ev l callers log → IsFrontIn ev l (map (λ c. c.pass) callers) log
  unfolding ended
  front_in callers log h =
      let all : Pairs V = map_of enc_text ev (history log) in
      let front = h.front in
      let closed : IsClosed enc_text ev l (callers ++ h.own ∷ []) all = record { log = log; lawful = front.lawful; all = front.all; apart = front.apart; whole = front.whole; no_other = front.no_other; pairs_are = λ honest. refl } in
      let e = ended ev l callers all (record { own = h.own; no_calls = h.no_calls; closed = closed }) in
      record { lawful = e.lawful; all = e.all; apart = e.apart; whole = e.whole; no_other = e.no_other }

module _ {V J : Type 0} (ev : V → List ℕ) (l : Limits) (callers all : List (Caller (List ℕ) V J)) (own : Caller (List ℕ) V J) (pairs : Pairs V) (is : all ≡ callers ++ own ∷ []) (none : calls own.pass ≡ []) where
  -- a table that these callers and the map's own closed
  pub closed_by : IsClosed enc_text ev l all pairs → IsClosedBy ev l callers pairs
  closed_by closed = record { own = own; no_calls = none; closed = subst (λ (cs : List (Caller (List ℕ) V J)). IsClosed enc_text ev l cs pairs) is closed }

pub bundled_by : {V J : Type 0} (ev : V → List ℕ) (l : Limits) (callers all : List (Caller (List ℕ) V J)) (own : Caller (List ℕ) V J) (pairs : Pairs V) → all ≡ callers ++ own ∷ [] → calls own.pass ≡ []
    → ClosesSorted enc_text ev l all pairs → IsBundledBy ev l callers pairs
bundled_by ev l callers all own pairs is none closes sorted permutes rises = closed_by ev l callers all own sorted is none (closes sorted permutes rises)

pub handed_by : {V J S : Type 0} (ev : V → List ℕ) (Takes : S → Pairs V → S → Type 0) (old new : S) (l : Limits) (callers all : List (Caller (List ℕ) V J)) (own : Caller (List ℕ) V J) → all ≡ callers ++ own ∷ [] → calls own.pass ≡ []
    → Hands Takes (ClosesInOrder enc_text ev l all) old new → Hands Takes (IsHandedBy ev l callers) old new
handed_by {V} {J} ev Takes old new l callers all own is none h =
    (h.0, h.1, record { own = own; no_calls = none; closed = subst (λ (cs : List (Caller (List ℕ) V J)). ClosesInOrder enc_text ev l cs h.0) is h.2 })

-- a front that was told what all have seen
pub seen_left : {V : Type 0} (ev : V → List ℕ) (l : Limits) (passes : List (View V)) (log : Log V) → IsLawful enc_text ev l log → AreSeen log passes → IsLeft ev l passes
seen_left ev l passes log lawful seen = record { log = log; lawful = lawful; seen = seen }

pub same_left : {V J : Type 0} (ev : V → List ℕ) (l : Limits) (callers others : List (Caller (List ℕ) V J)) → others ≡ callers → IsLeft ev l (map (λ c. c.pass) others) → IsLeft ev l (map (λ c. c.pass) callers)
same_left {V} {J} ev l callers others same h = subst (λ (cs : List (Caller (List ℕ) V J)). IsLeft ev l (map (λ c. c.pass) cs)) same h

module _ {V Out : Type 0} (ev : V → List ℕ) (Done : ℕ → Limits → SessionView V → SessionView V → Out → Type 0) (l : Limits) where
  abbrev WorkedBy : ℕ → ℕ → List (View V) → List Out → Type 0
  WorkedBy limit count passes outs = Worked (λ worker begun ended (out : Out). Done worker l begun ended out) limit count passes outs

  as_limit : (limit limit' count count' : ℕ) (passes : List (View V)) (outs : List Out) → limit' ≡ limit → count' ≡ count → WorkedBy limit' count' passes outs → WorkedBy limit count passes outs
  as_limit limit limit' count count' passes outs same alike w = subst (λ (n : ℕ). WorkedBy n count passes outs) same (subst (λ (n : ℕ). WorkedBy limit' n passes outs) alike w)

  pub ran : {J : Type 0} (limit limit' count count' : ℕ) (callers : List (Caller (List ℕ) V J)) (outs : List Out) (pairs : Pairs V)
      → limit' ≡ limit → count' ≡ count → WorkedBy limit' count' (map (λ c. c.pass) callers) outs → IsClosedBy ev l callers pairs → IsRun ev Done l limit count outs pairs
  ran limit limit' count count' callers outs pairs same alike w h = record {
    passes = map (λ c. c.pass) callers;
    worked = as_limit limit limit' count count' (map (λ c. c.pass) callers) outs same alike w;
    ended = ended ev l callers pairs h;
  }

  pub ran_bundled : {J : Type 0} (limit limit' count count' : ℕ) (callers : List (Caller (List ℕ) V J)) (outs : List Out) (pairs : Pairs V)
      → limit' ≡ limit → count' ≡ count → WorkedBy limit' count' (map (λ c. c.pass) callers) outs → IsBundledBy ev l callers pairs → IsRunBundled ev Done l limit count outs pairs
  ran_bundled limit limit' count count' callers outs pairs same alike w h = record {
    passes = map (λ c. c.pass) callers;
    worked = as_limit limit limit' count count' (map (λ c. c.pass) callers) outs same alike w;
    ended = λ all permutes rises. ended ev l callers all (h all permutes rises);
  }

  pub ran_through : {J S : Type 0} (Takes : S → Pairs V → S → Type 0) (Stops : S → S → Type 0) (old new : S) (limit limit' count count' : ℕ) (callers : List (Caller (List ℕ) V J)) (outs : List Out)
      → limit' ≡ limit → count' ≡ count → WorkedBy limit' count' (map (λ c. c.pass) callers) outs → Hands Takes (IsHandedBy ev l callers) old new → IsRunThrough ev Done l limit count outs Takes Stops old new
  ran_through Takes Stops old new limit limit' count count' callers outs same alike w h = record {
    passes = map (λ c. c.pass) callers;
    worked = as_limit limit limit' count count' (map (λ c. c.pass) callers) outs same alike w;
    handed = (h.0, h.1, ended_in_order ev l callers h.0 h.2);
  }

  pub ran_apart : (limit limit' count count' : ℕ) (passes : List (View V)) (outs : List Out) → limit' ≡ limit → count' ≡ count → WorkedBy limit' count' passes outs → IsLeft ev l passes → IsRunApart ev Done l limit count outs
  ran_apart limit limit' count count' passes outs same alike w h = record { passes = passes; worked = as_limit limit limit' count count' passes outs same alike w; left = h }

  pub ran_badly : (limit limit' count count' : ℕ) (passes : List (View V)) (outs : List Out) → limit' ≡ limit → count' ≡ count → WorkedBy limit' count' passes outs → IsWorked ev Done l limit count outs
  ran_badly limit limit' count count' passes outs same alike w = record { passes = passes; worked = as_limit limit limit' count count' passes outs same alike w }

-- the same limits by another name
pub run_as : {V Out S R E : Type 0} (ev : V → List ℕ) (r : Result R E) (outs_of : R → List Out) (given_of : R → Result (Given V) MapFault) (Done : ℕ → Limits → SessionView V → SessionView V → Out → Type 0) (Takes : S → Pairs V → S → Type 0) (Stops : S → S → Type 0)
    (old new : S) (l l' : Limits) (limit limit' count : ℕ) (end : End)
    → l' ≡ l → limit' ≡ limit → IfOk r (λ x. EndsSo ev Done l' limit' count (outs_of x) Takes Stops old new end (given_of x)) → IfOk r (λ x. EndsSo ev Done l limit count (outs_of x) Takes Stops old new end (given_of x))
run_as ev r outs_of given_of Done Takes Stops old new l l' limit limit' count end same_l same_limit h =
    subst (λ (k : Limits). IfOk r (λ x. EndsSo ev Done k limit count (outs_of x) Takes Stops old new end (given_of x))) same_l
    (subst (λ (n : ℕ). IfOk r (λ x. EndsSo ev Done l' n count (outs_of x) Takes Stops old new end (given_of x))) same_limit h)

module _ {V Out S : Type 0} (ev : V → List ℕ) (Done : ℕ → Limits → SessionView V → SessionView V → Out → Type 0) (l : Limits) (limit count : ℕ) (outs : List Out) (Takes : S → Pairs V → S → Type 0) (Stops : S → S → Type 0) (old new : S) where
  abbrev Ends : End → Result (Given V) MapFault → Type 0
  Ends end given = EndsSo ev Done l limit count outs Takes Stops old new end given

  -- what is so of the end that was asked for
  pub as_asked : (end known : End) (given : Result (Given V) MapFault) → end ≡ known → Ends known given → Ends end given
  as_asked end known given is h = subst (λ (e : End). Ends e given) (sym is) h

module _ {V S : Type 0} (Takes : S → Pairs V → S → Type 0) (Stops : S → S → Type 0) where
  -- a table that was not closed, behind pairs that were taken
  pub handing_fault : (is_honest : Bool) (old new : S) (fault : MapFault) → IsLater is_honest fault → Hands Takes (λ _. ⊤) old new → IsHandingFault Takes Stops is_honest old new fault
  handing_fault is_honest old new (run.BadSetting s) h took = absurd h
  handing_fault is_honest old new run.PassesSpent h took = (h, took)
  handing_fault is_honest old new run.Memory h took = (h, took)
  handing_fault is_honest old new run.Device h took = (h, took)
  handing_fault is_honest old new run.Damaged h took = (h, took)
  handing_fault is_honest old new run.Missed h took = (h, took)
  handing_fault is_honest old new run.Stopped h took = absurd h

-- a fault at the end, where no setting is bad
pub late_fault : (is_honest : Bool) (first : Option Setting) (fault : MapFault) → first ≡ None → IsLater is_honest fault → IsRunFault is_honest first fault
late_fault is_honest first (run.BadSetting s) none h = absurd h
late_fault is_honest first run.PassesSpent none h = none
late_fault is_honest first run.Memory none h = none
late_fault is_honest first run.Device none h = none
late_fault is_honest first run.Damaged none h = (none, h)
late_fault is_honest first run.Missed none h = none
late_fault is_honest first run.Stopped none h = absurd h

-- a fault before it
pub early_fault : (is_honest : Bool) (first : Option Setting) (fault : MapFault) → IsEarlyFault first fault → IsRunFault is_honest first fault
early_fault is_honest first (run.BadSetting s) h = h
early_fault is_honest first run.PassesSpent h = h
early_fault is_honest first run.Memory h = h
early_fault is_honest first run.Device h = h
early_fault is_honest first run.Damaged h = absurd h
early_fault is_honest first run.Missed h = absurd h
early_fault is_honest first run.Stopped h = absurd h

-- a fault as sessions enter, which may come later too
pub entering_fault : (is_honest : Bool) (fault : MapFault) → IsOfEntering fault → IsLater is_honest fault
entering_fault is_honest (run.BadSetting s) h = absurd h
entering_fault is_honest run.PassesSpent h = tt
entering_fault is_honest run.Memory h = tt
entering_fault is_honest run.Device h = absurd h
entering_fault is_honest run.Damaged h = absurd h
entering_fault is_honest run.Missed h = absurd h
entering_fault is_honest run.Stopped h = absurd h

-- a later fault of what was asked for where no setting is bad
pub later_faults : {R : Type 0} (result : Result R MapFault) (is_honest honest : Bool) → is_honest ≡ honest → IfErr result (IsLater is_honest) → IfErr result (IsRunFault honest None)
later_faults (Ok r) is_honest honest same h = tt
later_faults (Err fault) is_honest honest same h = late_fault honest None fault refl (subst (λ (b : Bool). IsLater b fault) same h)

-- the table's faults as it is opened, where no setting is bad
-- a fault that another is made of
pub made_fault : {T : Type 0} (r : Result T MapFault) (P Q : MapFault → Type 0) → IsErrAnd r P → ((fault : MapFault) → P fault → Q fault) → IfErr r Q
made_fault (Ok x) P Q is f = tt
made_fault (Err fault) P Q is f = f fault is

pub opened_badly : (is_honest : Bool) (first : Option ℕ) (fault : OpenFault) → first ≡ None → IsOpenFault first fault → IsRunFault is_honest None (of_opening fault)
opened_badly is_honest first (opened.BadConfig n) none h = absurd (cc (sym none ∙ h))
opened_badly is_honest first opened.Memory none h = refl
opened_badly is_honest first opened.Device none h = absurd h

pub named_badly : (is_honest : Bool) (fault : OpenFault) → IsNamedFault fault → IsRunFault is_honest None (of_opening fault)
named_badly is_honest (opened.BadConfig n) h = absurd h
named_badly is_honest opened.Memory h = refl
named_badly is_honest opened.Device h = refl
