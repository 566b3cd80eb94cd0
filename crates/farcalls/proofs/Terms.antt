-- Terms of a session, one after the other.
use Rattle.std.proofs.Common.{◌≡◌, ℕ, Bool, false, List, [], ◌++◌, Option, refl, sym, subst, append-nil}
use Rattle.std.specs.Prelude.{IfSome}
use Rattle.std.specs.Io.KnownBytes.{Consumes, Appends, IsAtEnd}
use Rattle.table_core.specs.declared.limits.Limits.{Limits}
use Rattle.resp.specs.declared.limits.Limits.{Limits as LimitsOfRequests}
use Rattle.request_loop.specs.declared.wire.Wire.{Wire}
use Rattle.request_loop.specs.Marks.{Mark}
use Rattle.request_loop.specs.Calls.{Exchange, step_marks}
use Rattle.request_loop.specs.Slots.{Views, none_seen}
use Rattle.request_loop.specs.Packets.{packets_bytes, WireEnded, WireTells}
use Rattle.request_loop.specs.Standing.{Standing, GoesOnBy}
use Rattle.request_loop.proofs.Resuming.{begins, settles}
use Rattle.request_loop.proofs.Known.{wire_told}
use Rattle.farcalls.specs.Sessions.{Session}
use Rattle.farcalls.specs.Services.{Acts}
use Rattle.farcalls.specs.Left.{LeftView, HasStood, HasEnded}
use Rattle.farcalls.specs.Serving.{request_limits, HasServed, StandsFrom, IsGoing, GoesOn, Stands, IsTerm, ServesOn}
use Rattle.farcalls.specs.declared.session_end.SessionEnd.{SessionEnd}
use Rattle.farcalls.specs.declared.session_end.SessionEnd.TheVariants as session_end
use Rattle.farcalls.specs.declared.states.SessionState.{SessionState}
use Rattle.farcalls.specs.declared.states.SessionState.TheVariants as state

module _ {In Out : Type 0} (remaining : In → Option (List ℕ)) (contents : Out → Option (List ℕ)) where
  -- nothing came yet
  pub new_stood : (wire : Wire In Out) (views : Views) → views ≡ none_seen → WireTells remaining contents wire wire [] [] → HasStood remaining contents wire views
  new_stood wire views none told =
      let P : Views → Type 0 = λ v. Standing (WireTells remaining contents) wire.limits wire wire v [] in
      (wire, [], subst P (sym none) (begins (WireTells remaining contents) wire.limits wire told))

  -- where a session had stood it stands again behind the steps of a service
  pub still_stood : {X : Type 0} (does : X → _ → X → Type 0) (old new : Wire In Out) (x y : X) (before after : Views) → new.limits ≡ old.limits → HasStood remaining contents old before
      → GoesOnBy (WireTells remaining contents) does old.limits old new x y before after → HasStood remaining contents new after
  still_stood does old new x y before after same stood goes =
      let went = goes stood.0 stood.1 stood.2 in
      let P : LimitsOfRequests → Type 0 = λ l. Standing (WireTells remaining contents) l stood.0 new after (stood.1 ++ step_marks went.0) in
      (stood.0, stood.1 ++ step_marks went.0, subst P (sym same) went.2)

  -- where no more comes all requests are answered
  pub has_served : (limits : LimitsOfRequests) (start now : Wire In Out) (views : Views) (past : List (Mark Exchange)) (input : In) (output : Out) → now.broken ≡ false → input ≡ now.input → output ≡ now.output
      → WireEnded remaining start now → Standing (WireTells remaining contents) limits start now views past → HasServed remaining contents limits start.input input start.output output past
  has_served limits start now views past input output whole in_is out_is ended stood =
      let s = settles (WireTells remaining contents) limits start now views past stood in
      let t = wire_told remaining contents start now s.came s.sent whole s.told in
      let C : In → Type 0 = λ i. Consumes (remaining start.input) (remaining i) (packets_bytes s.came) in
      let A : Out → Type 0 = λ o. Appends (contents start.output) (contents o) (packets_bytes s.sent) in
      let E : In → Type 0 = λ i. IfSome (remaining start.input) (λ bytes. IsAtEnd (remaining i)) in
      record { came = s.came; sent = s.sent; consumed = subst C (sym in_is) t.0; at_end = subst E (sym in_is) ended; appended = subst A (sym out_is) t.1; each = s.each; left = s.left; once = s.once }

  module _ (l : Limits) (is_far : Bool) (old new : Session) (left : LeftView In Out) (wire : Wire In Out) (views : Views)
      (goes : GoesOnBy (WireTells remaining contents) (Acts l is_far) left.wire.limits left.wire wire old new left.views views) where
    -- the session left again
    pub leaves_so : (after : LeftView In Out) → after.wire ≡ wire → after.views ≡ views → wire.limits ≡ left.wire.limits → IsGoing remaining contents l is_far old new left (state.Left after)
    leaves_so after wire_is views_is same = record {
      went_on = λ start past stood.
          let went = goes start past stood in
          let marks = past ++ step_marks went.0 in
          let P : Wire In Out → Type 0 = λ w. (w.limits ≡ left.wire.limits) × Standing (WireTells remaining contents) left.wire.limits start w after.views marks in
          let Q : Views → Type 0 = λ v. Standing (WireTells remaining contents) left.wire.limits start wire v marks in
          (went.0, went.1, subst P (sym wire_is) (same, subst Q (sym views_is) went.2));
    }

    -- its requests were at their end
    pub ends_so : (input : In) (output : Out) → wire.broken ≡ false → HasEnded remaining contents left.wire wire left.views → input ≡ wire.input → output ≡ wire.output → IsGoing remaining contents l is_far old new left (state.Ended (session_end.Served input output))
    ends_so input output whole all in_is out_is = record {
      went_on = λ start past stood.
          let went = goes start past stood in
          (went.0, went.1, has_served left.wire.limits start wire views (past ++ step_marks went.0) input output whole in_is out_is (all start past stood) went.2);
    }

  module _ (Opens : In → Out → Type 0) where
    stands_kept : (limits : LimitsOfRequests) (start : Wire In Out) (after : SessionState In Out) (past : List (Mark Exchange)) → Opens start.input start.output → StandsFrom remaining contents limits start after past → Stands remaining contents Opens limits after past
    stands_kept limits start state.Fresh past opened s = absurd s
    stands_kept limits start (state.Left left) past opened s = (start, opened, s)
    stands_kept limits start (state.Ended end) past opened s = (start, opened, s)

    -- where a session stood before is where what it kept says
    abbrev pub Begins : LimitsOfRequests → SessionState In Out → LeftView In Out → Type 0
    Begins limits before left = (past : List (Mark Exchange)) → Stands remaining contents Opens limits before past
        → (start : Wire In Out) × Opens start.input start.output × (left.wire.limits ≡ limits) × Standing (WireTells remaining contents) left.wire.limits start left.wire left.views past

    -- one that has not begun
    pub fresh_begins : (limits : LimitsOfRequests) (left : LeftView In Out) (input : In) (output : Out) → Opens input output → (left.wire.input ≡ input) × (left.wire.output ≡ output) → left.wire.limits ≡ limits → left.views ≡ none_seen
        → WireTells remaining contents left.wire left.wire [] [] → Begins limits state.Fresh left
    fresh_begins limits left input output opened parts limits_are none told past is =
        let I : In → Type 0 = λ i. Opens i output in
        let O : Out → Type 0 = λ o. Opens left.wire.input o in
        let P : Views → Type 0 = λ v. Standing (WireTells remaining contents) left.wire.limits left.wire left.wire v [] in
        let Q : List (Mark Exchange) → Type 0 = λ p. Standing (WireTells remaining contents) left.wire.limits left.wire left.wire left.views p in
        (left.wire, subst O (sym parts.1) (subst I (sym parts.0) opened), limits_are, subst Q (sym is) (subst P (sym none) (begins (WireTells remaining contents) left.wire.limits left.wire told)))

    -- one that had left
    pub left_begins : (limits : LimitsOfRequests) (left : LeftView In Out) → Begins limits (state.Left left) left
    left_begins limits left past s =
        let P : LimitsOfRequests → Type 0 = λ r. Standing (WireTells remaining contents) r s.0 left.wire left.views past in
        (s.0, s.1, s.2.0, subst P (sym s.2.0) s.2.1)

    module _ (l : Limits) (is_far : Bool) (old new : Session) (before : SessionState In Out) (left : LeftView In Out) (from : Begins request_limits before left) where
      is_term : (after : SessionState In Out) → IsGoing remaining contents l is_far old new left after → IsTerm remaining contents Opens l is_far old new before after
      is_term after going = record {
        went_on = λ past stood.
            let b = from past stood in
            let went = going.went_on b.0 past b.3 in
            let marks = past ++ step_marks went.0 in
            let S : LimitsOfRequests → Type 0 = λ r. StandsFrom remaining contents r b.0 after marks in
            (went.0, went.1, stands_kept request_limits b.0 after marks b.1 (subst S b.2 went.2));
      }

      pub serves_so : (after : SessionState In Out) → GoesOn remaining contents l is_far old new left after → ServesOn remaining contents Opens l is_far old new before after
      serves_so state.Fresh going = is_term state.Fresh going
      serves_so (state.Left kept) going = is_term (state.Left kept) going
      serves_so (state.Ended (session_end.Served input output)) going = is_term (state.Ended (session_end.Served input output)) going
      serves_so (state.Ended (session_end.Failed why)) going = tt

    module _ (l : Limits) (is_far : Bool) (old : Session) where
      -- one that has ended makes no call
      pub stays_over : (end : SessionEnd In Out) → ServesOn remaining contents Opens l is_far old old (state.Ended end) (state.Ended end)
      stays_over (session_end.Served input output) =
          let P : List (Mark Exchange) → Type 0 = λ p. Stands remaining contents Opens request_limits (state.Ended (session_end.Served input output)) p in
          record { went_on = λ past s. ([], refl, subst P (sym (append-nil past)) s) }
      stays_over (session_end.Failed why) = tt
