-- Why a call is refused where a stage of it was.
use Rattle.std.proofs.Common.{◌≡◌, ◌≢◌, ℕ, ◌<◌, Bool, IsTrue, List, ap, ◌∙◌, subst, inl, inr, ◌⊎◌}
use Rattle.table_core.specs.declared.event.Event.{Event}
use Rattle.table_core.specs.declared.limits.Limits.{Limits}
use Rattle.table_core.specs.declared.operation.Operation.{Operation}
use Rattle.table_core.specs.declared.operation.Operation.TheVariants as op
use Rattle.table_core.specs.BucketWords.{name_of, place_of, far_place}
use Rattle.table_core.specs.Maps.{at_bucket, map_of}
use Rattle.table_core.specs.Logs.{word, contents, history, names_of}
use Rattle.table_core.specs.Lawful.{IsLawful}
use Rattle.table_core.proofs.Histories.{agree}
use Rattle.version_words.specs.Views.{PassView, Goes}
use Rattle.version_words.proofs.Fronts.{prefix_self, prefix_trans}
use Rattle.version_words.specs.Faults.{WasOvertaken}
use Rattle.hash_table.specs.Changes.{Sets, SetsIn, IsTooLongFor}
use Rattle.hash_table.specs.Calls.{SeenInCall, IsTooLong, HasMoved, IsRefused, IsUnchanged, IsFull}
use Rattle.hash_table.specs.Refusals.{OfSwapOut}
use Rattle.hash_table.specs.Stages.{IsUnread, IsUnreadFar, IsUnmade, IsUnbuilt, IsUnbuiltFar, IsUndrawn, IsUnpublished}
use Rattle.hash_table.specs.declared.refusal.Refusal.{Refusal}
use Rattle.hash_table.specs.declared.refusal.Refusal.TheVariants as refusal

module _ {K V : Type 0} (ek : K → List ℕ) (ev : V → List ℕ) where
  -- what sets its key somewhere may set it
  pub sets_in : (es : List (K × V)) (o : Operation K V) → SetsIn ek ev es o → Sets o
  sets_in es (op.Put k v) h = tt
  sets_in es (op.Get k) h = h
  sets_in es (op.Remove k) h = h
  sets_in es (op.PutIf k expected v) h = tt

  -- what is not made of contents is not made of those that they are over an honest device
  pub unmade_unbuilt : (is_honest : Bool) (limit w : ℕ) (es fs : List (K × V)) (o : Operation K V) (e : Refusal) → (IsTrue is_honest → es ≡ fs) → IsUnmade ek ev limit es o e → IsUnbuilt ek ev is_honest limit w fs o e
  unmade_unbuilt is_honest limit w es fs o refusal.Memory same h = tt
  unmade_unbuilt is_honest limit w es fs o refusal.Far same h = absurd h
  unmade_unbuilt is_honest limit w es fs o refusal.Moved same h = absurd h
  unmade_unbuilt is_honest limit w es fs o refusal.Missed same h = tt
  unmade_unbuilt is_honest limit w es fs o refusal.NoFrame same h = absurd h
  unmade_unbuilt is_honest limit w es fs o refusal.TooLong same h = (sets_in es o h.0, λ honest. subst (λ (x : List (K × V)). IsTooLongFor ek ev limit x o) (same honest) h)
  unmade_unbuilt is_honest limit w es fs o refusal.NamesSpent same h = absurd h
  unmade_unbuilt is_honest limit w es fs o refusal.LimboFull same h = absurd h
  unmade_unbuilt is_honest limit w es fs o refusal.Device same h = absurd h
  unmade_unbuilt is_honest limit w es fs o refusal.Damaged same h = absurd h

  pub unmade_far : (is_honest : Bool) (limit : ℕ) (es fs : List (K × V)) (o : Operation K V) (e : Refusal) → (IsTrue is_honest → es ≡ fs) → IsUnmade ek ev limit es o e → IsUnbuiltFar ek ev is_honest limit fs o e
  unmade_far is_honest limit es fs o refusal.Memory same h = tt
  unmade_far is_honest limit es fs o refusal.Far same h = absurd h
  unmade_far is_honest limit es fs o refusal.Moved same h = absurd h
  unmade_far is_honest limit es fs o refusal.Missed same h = tt
  unmade_far is_honest limit es fs o refusal.NoFrame same h = absurd h
  unmade_far is_honest limit es fs o refusal.TooLong same h = (sets_in es o h.0, λ honest. subst (λ (x : List (K × V)). IsTooLongFor ek ev limit x o) (same honest) h)
  unmade_far is_honest limit es fs o refusal.NamesSpent same h = absurd h
  unmade_far is_honest limit es fs o refusal.LimboFull same h = absurd h
  unmade_far is_honest limit es fs o refusal.Device same h = tt
  unmade_far is_honest limit es fs o refusal.Damaged same h = absurd h

  -- what is not made of contents in a frame is not made of them wherever they lie, where the word is not far
  pub near_unbuilt : (is_honest : Bool) (limit w : ℕ) (es : List (K × V)) (o : Operation K V) (e : Refusal) → (place_of w ≢ far_place) → IsUnbuilt ek ev is_honest limit w es o e → IsUnbuiltFar ek ev is_honest limit es o e
  near_unbuilt is_honest limit w es o refusal.Memory near h = tt
  near_unbuilt is_honest limit w es o refusal.Far near h = absurd (near h)
  near_unbuilt is_honest limit w es o refusal.Moved near h = absurd h
  near_unbuilt is_honest limit w es o refusal.Missed near h = tt
  near_unbuilt is_honest limit w es o refusal.NoFrame near h = absurd h
  near_unbuilt is_honest limit w es o refusal.TooLong near h = h
  near_unbuilt is_honest limit w es o refusal.NamesSpent near h = absurd h
  near_unbuilt is_honest limit w es o refusal.LimboFull near h = absurd h
  near_unbuilt is_honest limit w es o refusal.Device near h = tt
  near_unbuilt is_honest limit w es o refusal.Damaged near h = absurd h

  -- what is not read is not built
  pub unread_unbuilt : (is_honest : Bool) (limit : ℕ) (es : List (K × V)) (o : Operation K V) (e : Refusal) → IsUnreadFar is_honest e → IsUnbuiltFar ek ev is_honest limit es o e
  unread_unbuilt is_honest limit es o refusal.Memory h = tt
  unread_unbuilt is_honest limit es o refusal.Far h = absurd h
  unread_unbuilt is_honest limit es o refusal.Moved h = absurd h
  unread_unbuilt is_honest limit es o refusal.Missed h = tt
  unread_unbuilt is_honest limit es o refusal.NoFrame h = absurd h
  unread_unbuilt is_honest limit es o refusal.TooLong h = absurd h
  unread_unbuilt is_honest limit es o refusal.NamesSpent h = absurd h
  unread_unbuilt is_honest limit es o refusal.LimboFull h = absurd h
  unread_unbuilt is_honest limit es o refusal.Device h = tt
  unread_unbuilt is_honest limit es o refusal.Damaged h = h

  module _ (l : Limits) where
    -- the contents of a word that stands in its bucket are the bucket's map there
    pub map_at : (log : List (Event K V)) (b w : ℕ) → IsTrue l.honest → IsLawful ek ev l log → w ≡ word ek l.buckets log b → contents log (name_of w) ≡ at_bucket ek l.buckets b (map_of ek ev (history log))
    map_at log b w honest lawful at = ap (λ (x : ℕ). contents log (name_of x)) at ∙ agree ek ev l honest log lawful b

    -- what is too long for the contents of a word that stands in its bucket is so for the bucket's map
    too_long_at : (limit b k w : ℕ) (o : Operation K V) {old new : PassView K V} → Goes old new → IsLawful ek ev l new.front → b ≡ k → w ≡ word ek l.buckets new.front b
        → (IsTrue l.honest → IsTooLongFor ek ev limit (contents new.front (name_of w)) o) → IsTrue l.honest → SeenInCall old new (IsTooLong ek ev l limit k o)
    too_long_at limit b k w o {old} {new} goes lawful is at h honest = (
      new.front,
      goes.grows,
      prefix_self new.front,
      subst (λ (c : ℕ). IsTooLong ek ev l limit c o new.front) is (subst (λ (x : List (K × V)). IsTooLongFor ek ev limit x o) (map_at new.front b w honest lawful at) (h honest)),
    )

    pub unread_refused : (old new : PassView K V) (b k w : ℕ) (e : Refusal) → b ≡ k → w ≡ word ek l.buckets new.front b → IsUnread w e → IsRefused ek ev l k old new e
    unread_refused old new b k w refusal.Memory is at h = tt
    unread_refused old new b k w refusal.Far is at h = rw (← is, ← at) h
    unread_refused old new b k w refusal.Moved is at h = absurd h
    unread_refused old new b k w refusal.Missed is at h = tt
    unread_refused old new b k w refusal.NoFrame is at h = tt
    unread_refused old new b k w refusal.TooLong is at h = tt
    unread_refused old new b k w refusal.NamesSpent is at h = absurd h
    unread_refused old new b k w refusal.LimboFull is at h = tt
    unread_refused old new b k w refusal.Device is at h = tt
    unread_refused old new b k w refusal.Damaged is at h = absurd h

    pub unread_far_refused : (old new : PassView K V) (k : ℕ) (e : Refusal) → IsUnreadFar l.honest e → IsRefused ek ev l k old new e
    unread_far_refused old new k refusal.Memory h = tt
    unread_far_refused old new k refusal.Far h = absurd h
    unread_far_refused old new k refusal.Moved h = absurd h
    unread_far_refused old new k refusal.Missed h = tt
    unread_far_refused old new k refusal.NoFrame h = tt
    unread_far_refused old new k refusal.TooLong h = tt
    unread_far_refused old new k refusal.NamesSpent h = absurd h
    unread_far_refused old new k refusal.LimboFull h = tt
    unread_far_refused old new k refusal.Device h = tt
    unread_far_refused old new k refusal.Damaged h = h

    pub unbuilt_refused : {old new : PassView K V} (limit b k w : ℕ) (o : Operation K V) (e : Refusal) → Goes old new → IsLawful ek ev l new.front → b ≡ k → w ≡ word ek l.buckets new.front b
        → IsUnbuilt ek ev l.honest limit w (contents new.front (name_of w)) o e → IsUnchanged ek ev l limit k o old new e
    unbuilt_refused {old} {new} limit b k w o refusal.Memory goes lawful is at h = tt
    unbuilt_refused {old} {new} limit b k w o refusal.Far goes lawful is at h = rw (← is, ← at) h
    unbuilt_refused {old} {new} limit b k w o refusal.Moved goes lawful is at h = absurd h
    unbuilt_refused {old} {new} limit b k w o refusal.Missed goes lawful is at h = tt
    unbuilt_refused {old} {new} limit b k w o refusal.NoFrame goes lawful is at h = tt
    unbuilt_refused {old} {new} limit b k w o refusal.TooLong goes lawful is at h = (h.0, too_long_at limit b k w o goes lawful is at h.1)
    unbuilt_refused {old} {new} limit b k w o refusal.NamesSpent goes lawful is at h = absurd h
    unbuilt_refused {old} {new} limit b k w o refusal.LimboFull goes lawful is at h = tt
    unbuilt_refused {old} {new} limit b k w o refusal.Device goes lawful is at h = tt
    unbuilt_refused {old} {new} limit b k w o refusal.Damaged goes lawful is at h = absurd h

    pub unbuilt_far_refused : {old new : PassView K V} (limit b k w : ℕ) (o : Operation K V) (e : Refusal) → Goes old new → IsLawful ek ev l new.front → b ≡ k → w ≡ word ek l.buckets new.front b
        → IsUnbuiltFar ek ev l.honest limit (contents new.front (name_of w)) o e → IsUnchanged ek ev l limit k o old new e
    unbuilt_far_refused {old} {new} limit b k w o refusal.Memory goes lawful is at h = tt
    unbuilt_far_refused {old} {new} limit b k w o refusal.Far goes lawful is at h = absurd h
    unbuilt_far_refused {old} {new} limit b k w o refusal.Moved goes lawful is at h = absurd h
    unbuilt_far_refused {old} {new} limit b k w o refusal.Missed goes lawful is at h = tt
    unbuilt_far_refused {old} {new} limit b k w o refusal.NoFrame goes lawful is at h = tt
    unbuilt_far_refused {old} {new} limit b k w o refusal.TooLong goes lawful is at h = (h.0, too_long_at limit b k w o goes lawful is at h.1)
    unbuilt_far_refused {old} {new} limit b k w o refusal.NamesSpent goes lawful is at h = absurd h
    unbuilt_far_refused {old} {new} limit b k w o refusal.LimboFull goes lawful is at h = tt
    unbuilt_far_refused {old} {new} limit b k w o refusal.Device goes lawful is at h = tt
    unbuilt_far_refused {old} {new} limit b k w o refusal.Damaged goes lawful is at h = h

    moved_by : {old mid new : PassView K V} (b k w : ℕ) → Goes old mid → Goes mid new → b ≡ k → w ≡ word ek l.buckets mid.front b → (word ek l.buckets new.front b ≢ w) ⊎ ((names_of mid.front < names_of new.front) × WasOvertaken new.front)
        → SeenInCall old new (HasMoved ek ev l k new.front)
    moved_by {old} {mid} {new} b k w goes on is at (inl other) = (mid.front, goes.grows, on.grows, rw (← is, ← at) (inl other))
    moved_by {old} {mid} {new} b k w goes on is at (inr more) = (mid.front, goes.grows, on.grows, inr more)

    -- the word that was seen is another one now
    pub moved_seen : {old mid new : PassView K V} (b k w : ℕ) → Goes old mid → Goes mid new → b ≡ k → w ≡ word ek l.buckets mid.front b → (word ek l.buckets new.front b ≢ w) → SeenInCall old new (HasMoved ek ev l k new.front)
    moved_seen b k w goes on is at other = moved_by b k w goes on is at (inl other)

    pub undrawn_refused : {old mid new : PassView K V} (b : ℕ) (e : Refusal) → Goes old mid → Goes mid new → IsUndrawn l mid new e → IsRefused ek ev l b old new e
    undrawn_refused {old} {mid} {new} b refusal.Memory goes on h = absurd h
    undrawn_refused {old} {mid} {new} b refusal.Far goes on h = absurd h
    undrawn_refused {old} {mid} {new} b refusal.Moved goes on h = (mid.front, goes.grows, on.grows, inr h)
    undrawn_refused {old} {mid} {new} b refusal.Missed goes on h = absurd h
    undrawn_refused {old} {mid} {new} b refusal.NoFrame goes on h = absurd h
    undrawn_refused {old} {mid} {new} b refusal.TooLong goes on h = absurd h
    undrawn_refused {old} {mid} {new} b refusal.NamesSpent goes on h = h
    undrawn_refused {old} {mid} {new} b refusal.LimboFull goes on h = absurd h
    undrawn_refused {old} {mid} {new} b refusal.Device goes on h = absurd h
    undrawn_refused {old} {mid} {new} b refusal.Damaged goes on h = absurd h

    pub undrawn_of_swap_out : (old new : PassView K V) (e : Refusal) → IsUndrawn l old new e → OfSwapOut e
    undrawn_of_swap_out old new refusal.Memory h = absurd h
    undrawn_of_swap_out old new refusal.Far h = absurd h
    undrawn_of_swap_out old new refusal.Moved h = tt
    undrawn_of_swap_out old new refusal.Missed h = absurd h
    undrawn_of_swap_out old new refusal.NoFrame h = absurd h
    undrawn_of_swap_out old new refusal.TooLong h = absurd h
    undrawn_of_swap_out old new refusal.NamesSpent h = tt
    undrawn_of_swap_out old new refusal.LimboFull h = absurd h
    undrawn_of_swap_out old new refusal.Device h = absurd h
    undrawn_of_swap_out old new refusal.Damaged h = absurd h

    pub undrawn_full : (n : ℕ) (old new : PassView K V) (e : Refusal) → IsUndrawn l old new e → IsFull e n
    undrawn_full n old new refusal.Memory h = absurd h
    undrawn_full n old new refusal.Far h = absurd h
    undrawn_full n old new refusal.Moved h = tt
    undrawn_full n old new refusal.Missed h = absurd h
    undrawn_full n old new refusal.NoFrame h = absurd h
    undrawn_full n old new refusal.TooLong h = absurd h
    undrawn_full n old new refusal.NamesSpent h = tt
    undrawn_full n old new refusal.LimboFull h = absurd h
    undrawn_full n old new refusal.Device h = absurd h
    undrawn_full n old new refusal.Damaged h = absurd h

    -- where no name was drawn, nothing was installed
    pub undrawn_unpublished : (b w : ℕ) (old new : PassView K V) (e : Refusal) → IsUndrawn l old new e → IsUnpublished ek l b w old new e
    undrawn_unpublished b w old new refusal.Memory h = absurd h
    undrawn_unpublished b w old new refusal.Far h = absurd h
    undrawn_unpublished b w old new refusal.Moved h = inr h
    undrawn_unpublished b w old new refusal.Missed h = absurd h
    undrawn_unpublished b w old new refusal.NoFrame h = absurd h
    undrawn_unpublished b w old new refusal.TooLong h = absurd h
    undrawn_unpublished b w old new refusal.NamesSpent h = h
    undrawn_unpublished b w old new refusal.LimboFull h = absurd h
    undrawn_unpublished b w old new refusal.Device h = absurd h
    undrawn_unpublished b w old new refusal.Damaged h = absurd h

    pub unpublished_refused : {old mid new : PassView K V} (b k w : ℕ) (e : Refusal) → Goes old mid → Goes mid new → b ≡ k → w ≡ word ek l.buckets mid.front b → IsUnpublished ek l b w mid new e → IsRefused ek ev l k old new e
    unpublished_refused {old} {mid} {new} b k w refusal.Memory goes on is at h = absurd h
    unpublished_refused {old} {mid} {new} b k w refusal.Far goes on is at h = absurd h
    unpublished_refused {old} {mid} {new} b k w refusal.Moved goes on is at h = moved_by b k w goes on is at h
    unpublished_refused {old} {mid} {new} b k w refusal.Missed goes on is at h = absurd h
    unpublished_refused {old} {mid} {new} b k w refusal.NoFrame goes on is at h = tt
    unpublished_refused {old} {mid} {new} b k w refusal.TooLong goes on is at h = absurd h
    unpublished_refused {old} {mid} {new} b k w refusal.NamesSpent goes on is at h = h
    unpublished_refused {old} {mid} {new} b k w refusal.LimboFull goes on is at h = absurd h
    unpublished_refused {old} {mid} {new} b k w refusal.Device goes on is at h = absurd h
    unpublished_refused {old} {mid} {new} b k w refusal.Damaged goes on is at h = absurd h

    pub unpublished_unchanged : {old mid new : PassView K V} (limit b k w : ℕ) (o : Operation K V) (e : Refusal) → Goes old mid → Goes mid new → b ≡ k → w ≡ word ek l.buckets mid.front b → IsUnpublished ek l b w mid new e
        → IsUnchanged ek ev l limit k o old new e
    unpublished_unchanged {old} {mid} {new} limit b k w o refusal.Memory goes on is at h = absurd h
    unpublished_unchanged {old} {mid} {new} limit b k w o refusal.Far goes on is at h = absurd h
    unpublished_unchanged {old} {mid} {new} limit b k w o refusal.Moved goes on is at h = moved_by b k w goes on is at h
    unpublished_unchanged {old} {mid} {new} limit b k w o refusal.Missed goes on is at h = absurd h
    unpublished_unchanged {old} {mid} {new} limit b k w o refusal.NoFrame goes on is at h = tt
    unpublished_unchanged {old} {mid} {new} limit b k w o refusal.TooLong goes on is at h = absurd h
    unpublished_unchanged {old} {mid} {new} limit b k w o refusal.NamesSpent goes on is at h = h
    unpublished_unchanged {old} {mid} {new} limit b k w o refusal.LimboFull goes on is at h = absurd h
    unpublished_unchanged {old} {mid} {new} limit b k w o refusal.Device goes on is at h = absurd h
    unpublished_unchanged {old} {mid} {new} limit b k w o refusal.Damaged goes on is at h = absurd h

    -- what is told of a call's last try is told of the call
    seen_sooner : (old mid new : PassView K V) (P : List (Event K V) → Type 0) → Goes old mid → SeenInCall mid new P → SeenInCall old new P
    seen_sooner old mid new P goes h = (h.0, prefix_trans old.front mid.front h.0 goes.grows h.1, h.2, h.3)

    pub refused_sooner : (old mid new : PassView K V) (b : ℕ) (e : Refusal) → Goes old mid → IsRefused ek ev l b mid new e → IsRefused ek ev l b old new e
    refused_sooner old mid new b refusal.Memory goes h = h
    refused_sooner old mid new b refusal.Far goes h = h
    refused_sooner old mid new b refusal.Moved goes h = seen_sooner old mid new (HasMoved ek ev l b new.front) goes h
    refused_sooner old mid new b refusal.Missed goes h = h
    refused_sooner old mid new b refusal.NoFrame goes h = h
    refused_sooner old mid new b refusal.TooLong goes h = h
    refused_sooner old mid new b refusal.NamesSpent goes h = h
    refused_sooner old mid new b refusal.LimboFull goes h = h
    refused_sooner old mid new b refusal.Device goes h = h
    refused_sooner old mid new b refusal.Damaged goes h = h

    pub unchanged_sooner : (old mid new : PassView K V) (limit b : ℕ) (o : Operation K V) (e : Refusal) → Goes old mid → IsUnchanged ek ev l limit b o mid new e → IsUnchanged ek ev l limit b o old new e
    unchanged_sooner old mid new limit b o refusal.Memory goes h = h
    unchanged_sooner old mid new limit b o refusal.Far goes h = h
    unchanged_sooner old mid new limit b o refusal.Moved goes h = seen_sooner old mid new (HasMoved ek ev l b new.front) goes h
    unchanged_sooner old mid new limit b o refusal.Missed goes h = h
    unchanged_sooner old mid new limit b o refusal.NoFrame goes h = h
    unchanged_sooner old mid new limit b o refusal.TooLong goes h = (h.0, λ honest. seen_sooner old mid new (IsTooLong ek ev l limit b o) goes (h.1 honest))
    unchanged_sooner old mid new limit b o refusal.NamesSpent goes h = h
    unchanged_sooner old mid new limit b o refusal.LimboFull goes h = h
    unchanged_sooner old mid new limit b o refusal.Device goes h = h
    unchanged_sooner old mid new limit b o refusal.Damaged goes h = h
