-- What changes and moves leave, told of the whole call.
use Rattle.std.proofs.Common.{◌≡◌, ℕ, ◌<◌, ◌≤◌, ◌^◌, Bool, true, false, IsTrue, length, List, [], ◌∷◌, ◌++◌, Option, Some, None, option_to_list, ap, sym, ◌∙◌, subst, inl, inr, arith}
use Rattle.std.proofs.lemmas.List.{append-nil, append_assoc}
use Rattle.std.specs.List.{AllByRecursion}
use mathlib.Core.List.{IsPrefix}
use Rattle.far_object.specs.Objects.{object_of}
use Rattle.far_object.specs.declared.format.Format.{Format}
use Rattle.table_core.specs.declared.event.Event.{Event}
use Rattle.table_core.specs.declared.event.Event.TheVariants.{Done, Moved}
use Rattle.table_core.specs.declared.limits.Limits.{Limits}
use Rattle.table_core.specs.declared.operation.Operation.{Operation}
use Rattle.table_core.specs.declared.operation.Operation.TheVariants as op
use Rattle.table_core.specs.BucketWords.{name_of, place_of, pack, empty_place, far_place}
use Rattle.table_core.specs.Maps.{after, at_bucket, map_of}
use Rattle.table_core.specs.Maps as tables
use Rattle.table_core.specs.Logs.{contents, history, word}
use Rattle.table_core.specs.Lawful.{IsLawful}
use Rattle.version_words.specs.Views.{PassView, NameView, SpareView, Goes, Follows, WasSeen, installing, ChangesNothing, spare_of}
use Rattle.version_words.proofs.Fronts.{prefix_trans, lawful_before, seen_kept}
use Rattle.frame_cache.specs.Fills.{WasFilled}
use Rattle.lane_store.specs.Stores.{WasStored}
use Rattle.hash_table.specs.Calls.{AtMostOneMore, IsTooLong}
use Rattle.hash_table.specs.Changes.{SetsIn, IsTooLongFor, Leaves, Fits}
use Rattle.hash_table.specs.Stages.{IsUndrawn, IsUnreadFar}
use Rattle.hash_table.specs.Steps.{IsInFrame, IsOnDevice, Lies, GaveOneUp, MayGiveUp, GaveUp, IsOfFrame, IsOfDevice, LeavesSpares, FetchLeavesSpares, SwapLeavesSpares, IsInstalled, IsMovedOver}
use Rattle.hash_table.proofs.Refused.{map_at, sets_in}
use Rattle.hash_table.specs.declared.refusal.Refusal.{Refusal}
use Rattle.hash_table.specs.declared.refusal.Refusal.TheVariants as refusal

-- what was kept is one more at most
pub one_kept : {A : Type 0} (old new : List A) (x : Option A) → new ≡ old ++ option_to_list x → AtMostOneMore old new
one_kept old new None is = inl (is ∙ append-nil old)
one_kept old new (Some x) is = inr (x, is)

module _ {K V : Type 0} (ek : K → List ℕ) (l : Limits) where
  -- a move that was installed, and what is told of its last try
  pub moved_over : {old mid new : PassView K V} (b k was w : ℕ) (From To : ℕ → Type 0) (before after : List (SpareView K V)) → Goes old mid → b ≡ k → From (place_of was) → To w → Follows ek l.buckets mid.front b was (Moved b w) new.front
      → after ≡ before ++ option_to_list (spare_of b was new.front) → IsMovedOver ek l k From To old before new after
  moved_over {old} {mid} {new} b k was w From To before after goes is from to f limbo =
      subst (λ (x : ℕ). IsMovedOver ek l x From To old before new after) is (record {
        was = was;
        word = w;
        from = from;
        to = to;
        follows = (f.0, f.1, prefix_trans old.front mid.front f.0 goes.grows f.2, f.3);
        limbo = limbo;
      })

-- a word that was packed of a frame that was filled and the name of what was put there
pub in_frame : (frames b f n w : ℕ) → w ≡ pack n f → f < 2 ^ 24 → f < frames → WasFilled f b n → IsInFrame frames b w
in_frame frames b f n w is low here filled =
    let at : place_of w ≡ f = omega arith in
    let named : name_of w ≡ n = omega arith in
    subst (λ (p : ℕ). (p < frames) × WasFilled p b (name_of w)) (sym at) (here, subst (λ (m : ℕ). WasFilled f b m) (sym named) filled)

-- a word that was packed of the device and the name of what was stored there
pub on_device : (format : Format) (b n w : ℕ) → w ≡ pack n far_place → WasStored format b n → IsOnDevice format b w
on_device format b n w is stored =
    let at : place_of w ≡ far_place = omega arith in
    let named : name_of w ≡ n = omega arith in
    (at, subst (λ (m : ℕ). WasStored format b m) (sym named) stored)

module _ {K V : Type 0} where
  -- the spare of a name that was given up after its frame was filled
  pub gave_frame : (frames b f : ℕ) (n m : NameView K V) (s : SpareView K V) (before after : List (SpareView K V)) → s ≡ record { word = pack m.number f; bucket = m.bucket; front = m.front } → m ≡ n → n.bucket ≡ b
      → f < 2 ^ 24 → f < frames → WasFilled f b n.number → after ≡ before ++ s ∷ [] → GaveOneUp (IsOfFrame frames b) before after
  gave_frame frames b f n m s before after is same own low here filled more =
      (s, more, (ap (λ (x : SpareView K V). x.bucket) is ∙ (ap (λ (x : NameView K V). x.bucket) same ∙ own), in_frame frames b f n.number s.word (ap (λ (x : SpareView K V). x.word) is ∙ ap (λ (x : NameView K V). pack x.number f) same) low here filled))

  -- the spare of a name that was given up with the device for its place
  pub gave_device : (b : ℕ) (n m : NameView K V) (s : SpareView K V) (before after : List (SpareView K V)) → s ≡ record { word = pack m.number far_place; bucket = m.bucket; front = m.front } → m ≡ n → n.bucket ≡ b
      → after ≡ before ++ s ∷ [] → GaveOneUp (IsOfDevice b) before after
  gave_device b n m s before after is same own more =
      let packed : s.word ≡ pack m.number far_place = ap (λ (x : SpareView K V). x.word) is in
      (s, more, (ap (λ (x : SpareView K V). x.bucket) is ∙ (ap (λ (x : NameView K V). x.bucket) same ∙ own), omega arith))

  -- a refusal that another round may not meet
  pub may_give_up : (P : SpareView K V → Type 0) (before after : List (SpareView K V)) (e : Refusal) → LeavesSpares P before after e → MayGiveUp P before after
  may_give_up P before after refusal.Memory is = inl is
  may_give_up P before after refusal.Far is = inl is
  may_give_up P before after refusal.Moved h = h
  may_give_up P before after refusal.Missed is = inl is
  may_give_up P before after refusal.NoFrame is = inl is
  may_give_up P before after refusal.TooLong is = inl is
  may_give_up P before after refusal.NamesSpent is = inl is
  may_give_up P before after refusal.LimboFull is = inl is
  may_give_up P before after refusal.Device is = inl is
  may_give_up P before after refusal.Damaged is = inl is

  pub may_many : (P : SpareView K V → Type 0) (before after : List (SpareView K V)) → MayGiveUp P before after → GaveUp P before after
  may_many P before after (inl is) = ([], is ∙ sym (append-nil before), tt)
  may_many P before after (inr one) = (one.0 ∷ [], one.1, (one.2, tt))

  all_append : (P : SpareView K V → Type 0) (xs ys : List (SpareView K V)) → AllByRecursion P xs → AllByRecursion P ys → AllByRecursion P (xs ++ ys)
  all_append P [] ys all more = more
  all_append P (x ∷ xs) ys all more = (all.0, all_append P xs ys all.1 more)

  pub gave_up_trans : (P : SpareView K V → Type 0) (a b c : List (SpareView K V)) → GaveUp P a b → GaveUp P b c → GaveUp P a c
  gave_up_trans P a b c g h = (g.0 ++ h.0, h.1 ∙ (ap (λ (xs : List (SpareView K V)). xs ++ h.0) g.1 ∙ append_assoc a g.0 h.0), all_append P g.0 h.0 g.2 h.2)

  pub gave_none : (P : SpareView K V → Type 0) (a : List (SpareView K V)) → GaveUp P a a
  gave_none P a = ([], sym (append-nil a), tt)

module _ {K V : Type 0} (ek : K → List ℕ) (ev : V → List ℕ) (l : Limits) where
  -- what is told of a call's last try is told of the call
  pub installed_from : {old mid new : PassView K V} (limit frames b k : ℕ) (o : Operation K V) (before after : List (SpareView K V)) → Goes old mid → b ≡ k → IsInstalled ek ev l limit frames b o mid before new after → IsInstalled ek ev l limit frames k o old before new after
  installed_from {old} {mid} {new} limit frames b k o before after goes is h =
      subst (λ (x : ℕ). IsInstalled ek ev l limit frames x o old before new after) is (record {
        was = h.was;
        word = h.word;
        follows = (h.follows.0, h.follows.1 ∙ ap (λ (p : ℕ). h.follows.0 ++ Done p o h.word ∷ []) goes.number, prefix_trans old.front mid.front h.follows.0 goes.grows h.follows.2, h.follows.3);
        fits = h.fits;
        empty = h.empty;
        idle = h.idle;
        lies = h.lies;
        limbo = h.limbo;
      })

  -- what leaves contents sets no key there
  left_unset : (es : List (K × V)) (o : Operation K V) → ChangesNothing ek ev es o → SetsIn ek ev es o → ⊥
  left_unset es (op.Put k v) none sets = none
  left_unset es (op.Get k) none sets = sets
  left_unset es (op.Remove k) none sets = sets
  left_unset es (op.PutIf k expected v) none sets = let t : false ≡ true = sym none ∙ sets in cc

  short_enough : (limit : ℕ) (es : List (K × V)) (o : Operation K V) (made : Option (List (K × V))) → Leaves ek ev es o made → Fits ek ev limit o made → IsTooLongFor ek ev limit es o → ⊥
  short_enough limit es o None leaves fits long = left_unset es o leaves long.0
  short_enough limit es o (Some made) leaves fits long =
      let short : length (object_of ek ev (after ek ev es o)) ≤ limit = subst (λ (x : List (K × V)). length (object_of ek ev x) ≤ limit) leaves.0 (fits (sets_in ek ev es o long.0)) in
      let longer = long.1 in
      omega (arith, short, longer)

  -- the contents of a word that was seen are the bucket's map where that word stands
  seen_map : (b was : ℕ) (front log : List (Event K V)) → WasSeen ek l.buckets front b was → IsPrefix front log → IsLawful ek ev l log → word ek l.buckets log b ≡ was → IsTrue l.honest → contents front (name_of was) ≡ at_bucket ek l.buckets b (map_of ek ev (history log))
  seen_map b was front log seen pre lawful at honest = sym (seen_kept ek ev l front log b was lawful pre seen) ∙ map_at ek ev l log b was honest lawful (sym at)

  -- what was made of the contents of a word that was seen is not too long where that word stands
  pub within_at : (limit b was : ℕ) (o : Operation K V) (made : Option (List (K × V))) (front log : List (Event K V)) → WasSeen ek l.buckets front b was → (IsTrue l.honest → Leaves ek ev (contents front (name_of was)) o made) → Fits ek ev limit o made
      → IsPrefix front log → IsLawful ek ev l log → word ek l.buckets log b ≡ was → IsTrue l.honest → IsTooLong ek ev l limit b o log → ⊥
  within_at limit b was o made front log seen leaves fits pre lawful at honest long =
      short_enough limit (at_bucket ek l.buckets b (map_of ek ev (history log))) o made
      (subst (λ (x : List (K × V)). Leaves ek ev x o made) (seen_map b was front log seen pre lawful at honest) (leaves honest)) fits long

  -- a change that was installed: what was made of the contents of the word that was seen
  pub installed_now : {old new : PassView K V} (limit frames b was w : ℕ) (o : Operation K V) (made : Option (Operation K V)) (object : Option (List (K × V))) (pairs : List (K × V)) (before after : List (SpareView K V)) → made ≡ Some o → object ≡ Some pairs
      → WasSeen ek l.buckets old.front b was → (IsTrue l.honest → Leaves ek ev (contents old.front (name_of was)) o object) → Fits ek ev limit o object → Follows ek l.buckets old.front b was (installing old.number b w made) new.front → IsLawful ek ev l new.front
      → Lies frames b o (Some w) → (pairs ≡ [] → place_of w ≡ empty_place) → after ≡ before ++ option_to_list (spare_of b was new.front) → IsInstalled ek ev l limit frames b o old before new after
  installed_now {old} {new} limit frames b was w o made object pairs before after is some seen leaves fits follows lawful lies none limbo =
      let f = subst (λ (x : Option (Operation K V)). Follows ek l.buckets old.front b was (installing old.number b w x) new.front) is follows in
      let so_far = lawful_before ek ev l f.0 new.front (Done old.number o (Some w)) lawful f.1 in record {
        was = was;
        word = Some w;
        follows = f;
        fits = within_at limit b was o object old.front f.0 seen leaves fits f.2 so_far f.3;
        empty = λ honest gone.
            let stays = subst (λ (x : Option (List (K × V))). Leaves ek ev (contents old.front (name_of was)) o x) some (leaves honest) in
            none (stays.0 ∙ (ap (λ (x : List (K × V)). tables.after ek ev x o) (seen_map b was old.front f.0 seen f.2 so_far f.3 honest) ∙ gone));
        idle = λ honest same.
            let stays = subst (λ (x : Option (List (K × V))). Leaves ek ev (contents old.front (name_of was)) o x) some (leaves honest) in
            stays.1 (subst (λ (x : List (K × V)). ChangesNothing ek ev x o) (sym (seen_map b was old.front f.0 seen f.2 so_far f.3 honest)) same);
        lies = lies;
        limbo = limbo;
      }

  -- a call that left its bucket
  pub installed_left : {old new : PassView K V} (limit frames b was : ℕ) (o made : Operation K V) (object : Option (List (K × V))) (before after : List (SpareView K V)) → made ≡ o
      → WasSeen ek l.buckets old.front b was → (IsTrue l.honest → Leaves ek ev (contents old.front (name_of was)) o object) → Fits ek ev limit o object → Follows ek l.buckets old.front b was (Done old.number made None) new.front → IsLawful ek ev l new.front
      → after ≡ before → IsInstalled ek ev l limit frames b o old before new after
  installed_left {old} {new} limit frames b was o made object before after is seen leaves fits follows lawful same =
      let f = subst (λ (x : Operation K V). Follows ek l.buckets old.front b was (Done old.number x None) new.front) is follows in record {
        was = was;
        word = None;
        follows = f;
        lies = tt;
        fits = within_at limit b was o object old.front f.0 seen leaves fits f.2 (lawful_before ek ev l f.0 new.front (Done old.number o None) lawful f.1) f.3;
        empty = λ honest. tt;
        idle = λ honest. tt;
        limbo = same ∙ sym (append-nil before);
      }

module _ {K V : Type 0} where
  -- where no name was drawn
  pub undrawn_left : (l : Limits) (P : SpareView K V → Type 0) (old new : PassView K V) (before after : List (SpareView K V)) (e : Refusal) → IsUndrawn l old new e → after ≡ before → FetchLeavesSpares P new.front before after e
  undrawn_left l P old new before after refusal.Memory h is = is
  undrawn_left l P old new before after refusal.Far h is = is
  undrawn_left l P old new before after refusal.Moved h is = inl (is, h.1)
  undrawn_left l P old new before after refusal.Missed h is = is
  undrawn_left l P old new before after refusal.NoFrame h is = is
  undrawn_left l P old new before after refusal.TooLong h is = is
  undrawn_left l P old new before after refusal.NamesSpent h is = is
  undrawn_left l P old new before after refusal.LimboFull h is = is
  undrawn_left l P old new before after refusal.Device h is = is
  undrawn_left l P old new before after refusal.Damaged h is = is

  pub undrawn_swap_left : (l : Limits) (P : SpareView K V → Type 0) (old new : PassView K V) (before after : List (SpareView K V)) (e : Refusal) → IsUndrawn l old new e → after ≡ before → SwapLeavesSpares P new.front before after e
  undrawn_swap_left l P old new before after refusal.Memory h is = absurd h
  undrawn_swap_left l P old new before after refusal.Far h is = is
  undrawn_swap_left l P old new before after refusal.Moved h is = inl (is, h.1)
  undrawn_swap_left l P old new before after refusal.Missed h is = is
  undrawn_swap_left l P old new before after refusal.NoFrame h is = is
  undrawn_swap_left l P old new before after refusal.TooLong h is = is
  undrawn_swap_left l P old new before after refusal.NamesSpent h is = is
  undrawn_swap_left l P old new before after refusal.LimboFull h is = is
  undrawn_swap_left l P old new before after refusal.Device h is = absurd h
  undrawn_swap_left l P old new before after refusal.Damaged h is = is

  -- where no name was to be drawn from the device's object
  pub unread_left : (is_honest : Bool) (P : SpareView K V → Type 0) (log : List (Event K V)) (before after : List (SpareView K V)) (e : Refusal) → IsUnreadFar is_honest e → after ≡ before → FetchLeavesSpares P log before after e
  unread_left is_honest P log before after refusal.Memory h is = is
  unread_left is_honest P log before after refusal.Far h is = is
  unread_left is_honest P log before after refusal.Moved h is = absurd h
  unread_left is_honest P log before after refusal.Missed h is = is
  unread_left is_honest P log before after refusal.NoFrame h is = is
  unread_left is_honest P log before after refusal.TooLong h is = is
  unread_left is_honest P log before after refusal.NamesSpent h is = is
  unread_left is_honest P log before after refusal.LimboFull h is = is
  unread_left is_honest P log before after refusal.Device h is = is
  unread_left is_honest P log before after refusal.Damaged h is = is
