-- From the calls of a request to its reply.
use Rattle.std.proofs.Common.{◌≡◌, ◌≢◌, ◌⊎◌, inl, inr, ◌<◌, ◌^◌, ℕ, Bool, true, false, List, [], ◌∷◌, length, Option, Some, None, Result, Ok, Err, refl, sym, subst, ap}
use Rattle.std.specs.Prelude.{MatchBool}
use Rattle.std.specs.Option.{is_some}
use Rattle.far_blob.specs.Encodings.{enc_blob}
use Rattle.table_core.specs.declared.limits.Limits.{Limits}
use Rattle.table_core.specs.declared.operation.Operation.TheVariants as op
use Rattle.table_core.specs.Maps.{key_of}
use Rattle.version_words.proofs.Gathering.{goes_self}
use Rattle.hash_table.specs.declared.removal.Removal.{Removal}
use Rattle.hash_table.specs.Changes.{removal_of}
use Rattle.resp.specs.Replies.{Token}
use Rattle.far_map.specs.declared.refusal.MapRefusal.{MapRefusal}
use Rattle.far_map.specs.declared.refusal.MapRefusal.TheVariants as refusal
use Rattle.far_map.specs.Answers.{Answers, IsFound}
use Rattle.far_map.specs.Counts.{Counts}
use Rattle.farcalls.specs.declared.refusal.Unanswered.{Unanswered}
use Rattle.farcalls.specs.declared.refusal.Unanswered.TheVariants as unanswered
use Rattle.farcalls.specs.Sessions.{Session, Call, Stays, Makes}
use Rattle.farcalls.specs.Tokens.{value_token, flag_token}
use Rattle.farcalls.specs.Calls.{IsChange, IsKeyFault, IsValueFault, IsLong, IsUnmade, IsCalled, IsFlagCalled, IsFlagOf, IsRemoved}
use Rattle.farcalls.specs.Replying.{IsPushed, IsIfUnwritten, IsPushedIf, IsRemovalReply, IsRemovalUnwritten, IsPushedRemoval}
use Rattle.farcalls.specs.Answers.{RepliesValue, RepliesFlag, RepliesIf, RepliesRemoval, IsUnremoved, IsHandled}

pub stays_self : (s : Session) → Stays s s
stays_self s = goes_self s.pass

module _ {T : Type 0} (shows : T → Token) (unwritten : Unanswered) (Serves : Session → Session → List Token → Type 0) (Fails : Unanswered → Session → Session → Type 0) (old new : Session) (before after : List ℕ) (called : Result T Unanswered)
    (good : (x : T) → called ≡ Ok x → Serves old new (shows x ∷ []) × Fails unwritten old new) (bad : (why : Unanswered) → called ≡ Err why → Fails why old new) where
  unpushed : (why : Unanswered) → (called ≡ Err why) ⊎ ((x : T) × (called ≡ Ok x) × (why ≡ unwritten)) → Fails why old new
  unpushed why (inl is) = bad why is
  unpushed why (inr p) = subst (λ (w : Unanswered). Fails w old new) (sym p.2) (good p.0 p.1).1

  handled : (result : Result (Unit {0}) Unanswered) → IsPushed shows unwritten called before after result → IsHandled Serves Fails old new before after result
  handled (Ok done) p = (shows p.0 ∷ [], p.2, (good p.0 p.1).0)
  handled (Err why) p = (p.0, unpushed why p.1)

module _ (l : Limits) where
  -- a call that was made at once
  pub at_once : (o : Call) (answer : Result (Option (List ℕ)) MapRefusal) (old new : Session) → Answers enc_blob l old new o answer → Counts old new o answer → Makes l o answer old new
  at_once o answer old new answers counts = (old, goes_self old.pass, record { answers = answers; counts = counts })

  -- a call that was made after others had made room
  pub in_room : (o : Call) (answer : Result (Option (List ℕ)) MapRefusal) (old mid new : Session) → Stays old mid → Answers enc_blob l mid new o answer → Counts mid new o answer → Makes l o answer old new
  in_room o answer old mid new stays answers counts = (mid, stays, record { answers = answers; counts = counts })

  -- a get of which only is told whether there is a value
  pub found_so : (k : List ℕ) (old new : Session) (flag : Bool) → IsFound enc_blob l old new k (Ok flag) → Counts {V = List ℕ} {T = Bool} old new (op.Get k) (Ok flag) → IsFlagCalled l [] (op.Get k) old new (Ok flag)
  found_so k old new true found counts = (Some found.0, refl, at_once (op.Get k) (Ok (Some found.0)) old new found.1 (record { stats = counts.stats; limit = counts.limit }))
  found_so k old new false found counts = (None, refl, at_once (op.Get k) (Ok None) old new found (record { stats = counts.stats; limit = counts.limit }))

  pub not_found : (k : List ℕ) (old new : Session) (why : MapRefusal) → IsFound enc_blob l old new k (Err why) → Counts {V = List ℕ} {T = Bool} old new (op.Get k) (Err why) → IsFlagCalled l [] (op.Get k) old new (Err (unanswered.Refused why))
  not_found k old new why found counts = inl (at_once (op.Get k) (Err why) old new found (record { stats = counts.stats; limit = counts.limit }))

  -- a conditional removal
  pub removed_so : (k e : List ℕ) (old new : Session) (removal : Removal (List ℕ)) → MatchBool removal.removed (removal.found ≡ Some e) (removal.found ≢ Some e) → Answers enc_blob l old new (removal_of k removal.removed) (Ok removal.found)
      → Counts {V = List ℕ} {T = Removal (List ℕ)} old new (removal_of k removal.removed) (Ok removal) → IsRemoved l k e old new (Ok removal)
  removed_so k e old new removal met answers counts = (met, at_once (removal_of k removal.removed) (Ok removal.found) old new answers (record { stats = counts.stats; limit = counts.limit }))

  pub not_removed : (k e : List ℕ) (old new : Session) (why : MapRefusal) → Answers enc_blob l old new (op.Remove k) (Err why)
      → Counts {V = List ℕ} {T = Removal (List ℕ)} old new (op.Remove k) (Err why) → IsRemoved l k e old new (Err (unanswered.Refused why))
  not_removed k e old new why answers counts = inl (at_once (op.Remove k) (Err why) old new answers (record { stats = counts.stats; limit = counts.limit }))

  module _ (values : List (List ℕ)) (o : Call) where
    -- a key that can't be one
    pub key_unmade : (why : Unanswered) (old new : Session) → IsKeyFault (key_of o) why → Stays old new → IsUnmade l values o why old new
    key_unmade unanswered.KeyTooLong old new fault stays = (fault, stays)
    key_unmade (unanswered.Refused why) old new fault stays = inr (fault, inl stays)
    key_unmade unanswered.NoRoom old new fault stays = absurd fault
    key_unmade unanswered.ValueTooLong old new fault stays = absurd fault
    key_unmade unanswered.ReplyTooLong old new fault stays = absurd fault
    key_unmade unanswered.Lost old new fault stays = absurd fault

    -- a value that can't be one
    pub value_unmade : (v : List ℕ) → (2 ^ 24 < length v → IsLong values) → (why : Unanswered) (old new : Session) → IsValueFault v why → Stays old new → IsUnmade l values o why old new
    value_unmade v long unanswered.ValueTooLong old new fault stays = (long fault, stays)
    value_unmade v long (unanswered.Refused why) old new fault stays = inr (fault, inl stays)
    value_unmade v long unanswered.NoRoom old new fault stays = absurd fault
    value_unmade v long unanswered.KeyTooLong old new fault stays = absurd fault
    value_unmade v long unanswered.ReplyTooLong old new fault stays = absurd fault
    value_unmade v long unanswered.Lost old new fault stays = absurd fault

    pub pair_unmade : (v : List ℕ) → (2 ^ 24 < length v → IsLong values) → (why : Unanswered) (old new : Session) → IsKeyFault (key_of o) why ⊎ IsValueFault v why → Stays old new → IsUnmade l values o why old new
    pair_unmade v long why old new (inl fault) stays = key_unmade why old new fault stays
    pair_unmade v long why old new (inr fault) stays = value_unmade v long why old new fault stays

    -- whether a call found a value
    pub flag_called : (old new : Session) (called : Result (Option (List ℕ)) Unanswered) (flag : Result Bool Unanswered) → IsCalled l values o old new called → IsFlagOf called flag → IsFlagCalled l values o old new flag
    flag_called old new (Ok found) (Ok flag) call is = (found, is, call)
    flag_called old new (Ok found) (Err why) call is = absurd is
    flag_called old new (Err why) (Ok flag) call is = absurd is
    flag_called old new (Err why) (Err other) call is = subst (λ (w : Unanswered). IsUnmade l values o w old new) is call

    module _ (unwritten : Unanswered) (old new : Session) (lose : (found : Option (List ℕ)) → Makes l o (Ok found) old new → IsUnmade l values o unwritten old new) (before after : List ℕ) (result : Result (Unit {0}) Unanswered) where
      -- the value that a call found is replied
      pub value_handled : (called : Result (Option (List ℕ)) Unanswered) → IsCalled l values o old new called → IsPushed value_token unwritten called before after result → IsHandled (RepliesValue l o) (IsUnmade l values o) old new before after result
      value_handled called call p =
          let C : Result (Option (List ℕ)) Unanswered → Type 0 = λ r. IsCalled l values o old new r in
          handled value_token unwritten (RepliesValue l o) (IsUnmade l values o) old new before after called
          (λ found is. ((found, subst C is call, refl), lose found (subst C is call)))
          (λ why is. subst C is call) result p

      -- whether it found one is replied
      pub flag_handled : (called : Result Bool Unanswered) → IsFlagCalled l values o old new called → IsPushed flag_token unwritten called before after result → IsHandled (RepliesFlag l o) (IsUnmade l values o) old new before after result
      flag_handled called call p =
          let C : Result Bool Unanswered → Type 0 = λ r. IsFlagCalled l values o old new r in
          handled flag_token unwritten (RepliesFlag l o) (IsUnmade l values o) old new before after called
          (λ flag is.
          let f = subst C is call in
          ((f.0, f.2, ap (λ (b : Bool). flag_token b ∷ []) f.1), lose f.0 f.2))
          (λ why is. subst C is call) result p

  module _ (values : List (List ℕ)) (k : List ℕ) (expected : Option (List ℕ)) (v : List ℕ) (old new : Session) where
    unset : (found : Option (List ℕ)) (why : Unanswered) → Makes l (op.PutIf k expected v) (Ok found) old new → IsIfUnwritten expected found why → IsUnmade l values (op.PutIf k expected v) why old new
    unset found why made (inl lost) = subst (λ (w : Unanswered). IsUnmade l values (op.PutIf k expected v) w old new) (sym lost.1) (found, lost.0, made)
    unset found why made (inr idle) = subst (λ (w : Unanswered). IsUnmade l values (op.PutIf k expected v) w old new) (sym idle.1) (inr (refl, inr (found, idle.0, made)))

    unset_so : (called : Result (Option (List ℕ)) Unanswered) (why : Unanswered) → IsCalled l values (op.PutIf k expected v) old new called
        → (called ≡ Err why) ⊎ ((found : Option (List ℕ)) × (called ≡ Ok found) × IsIfUnwritten expected found why) → IsUnmade l values (op.PutIf k expected v) why old new
    unset_so called why call (inl is) = subst (λ (r : Result (Option (List ℕ)) Unanswered). IsCalled l values (op.PutIf k expected v) old new r) is call
    unset_so called why call (inr p) = unset p.0 why (subst (λ (r : Result (Option (List ℕ)) Unanswered). IsCalled l values (op.PutIf k expected v) old new r) p.1 call) p.2

    -- a conditional change is replied
    pub if_handled : (called : Result (Option (List ℕ)) Unanswered) (before after : List ℕ) (result : Result (Unit {0}) Unanswered) → IsCalled l values (op.PutIf k expected v) old new called
        → IsPushedIf called expected before after result → IsHandled (RepliesIf l k expected v) (IsUnmade l values (op.PutIf k expected v)) old new before after result
    if_handled called before after (Ok done) call p =
        let C : Result (Option (List ℕ)) Unanswered → Type 0 = λ r. IsCalled l values (op.PutIf k expected v) old new r in
        (p.2.0, p.2.1, (p.0, subst C p.1 call, p.2.2))
    if_handled called before after (Err why) call p = (p.0, unset_so called why call p.1)

  module _ (k e : List ℕ) (old new : Session) where
    removal_reply : (removed : Bool) (found : Option (List ℕ)) (rs : List Token) → MatchBool removed (found ≡ Some e) (found ≢ Some e) → Makes l (removal_of k removed) (Ok found) old new
        → MatchBool removed (rs ≡ flag_token true ∷ []) (rs ≡ value_token found ∷ []) → RepliesRemoval l k e old new rs
    removal_reply true found rs met made is = inl (subst (λ (f : Option (List ℕ)). Makes l (op.Remove k) (Ok f) old new) met made, is)
    removal_reply false found rs met made is = inr (found, met, made, is)

    removal_lost : (removed : Bool) (found : Option (List ℕ)) (why : Unanswered) → Makes l (removal_of k removed) (Ok found) old new
        → MatchBool removed (why ≡ unanswered.Lost) (why ≡ unanswered.Refused refusal.Memory) → IsUnremoved l k e why old new
    removal_lost true found why made is = inl (subst (λ (w : Unanswered). IsUnmade l (e ∷ []) (op.Remove k) w old new) (sym is) (found, tt, made))
    removal_lost false found why made is = inr (subst (λ (w : Unanswered). IsUnmade l [] (op.Get k) w old new) (sym is) (inr (refl, inr (found, tt, made))))

    removal_unmade : (called : Result (Removal (List ℕ)) Unanswered) (why : Unanswered) → IsRemoved l k e old new called
        → (called ≡ Err why) ⊎ ((removal : Removal (List ℕ)) × (called ≡ Ok removal) × IsRemovalUnwritten removal why) → IsUnremoved l k e why old new
    removal_unmade called why call (inl is) = inl (subst (λ (r : Result (Removal (List ℕ)) Unanswered). IsRemoved l k e old new r) is call)
    removal_unmade called why call (inr p) =
        let made = subst (λ (r : Result (Removal (List ℕ)) Unanswered). IsRemoved l k e old new r) p.1 call in
        removal_lost p.0.removed p.0.found why made.1 p.2

    -- a conditional removal is replied
    pub removal_handled : (called : Result (Removal (List ℕ)) Unanswered) (before after : List ℕ) (result : Result (Unit {0}) Unanswered) → IsRemoved l k e old new called
        → IsPushedRemoval called before after result → IsHandled (RepliesRemoval l k e) (IsUnremoved l k e) old new before after result
    removal_handled called before after (Ok done) call p =
        let made = subst (λ (r : Result (Removal (List ℕ)) Unanswered). IsRemoved l k e old new r) p.1 call in
        (p.2.0, p.2.1, removal_reply p.0.removed p.0.found p.2.0 made.0 made.1 p.2.2)
    removal_handled called before after (Err why) call p = (p.0, removal_unmade called why call p.1)
