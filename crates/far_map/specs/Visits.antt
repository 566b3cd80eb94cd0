-- What is read of all buckets, one after the other, and of one alone.
use Rattle.std.specs.Prelude.{◌≡◌, ℕ, zero, suc, ◌<◌, IsTrue, List, [], ◌++◌, Result, Ok, Err}
use Rattle.far_object.specs.Encodings.{enc_text}
use Rattle.table_core.specs.declared.limits.Limits.{Limits}
use Rattle.table_core.specs.Maps.{at_bucket, map_of}
use Rattle.table_core.specs.Logs.{history}
use Rattle.version_words.specs.Views.{Goes}
use Rattle.far_map.specs.declared.refusal.MapRefusal.{MapRefusal}
use Rattle.far_map.specs.Refusals.{IsUnread}
use Rattle.far_map.specs.Views.{View, Pairs}

module _ {V : Type 0} (ev : V → List ℕ) (l : Limits) where
  -- the pairs of a bucket, as they stand at the pass's front
  abbrev pub AreOfBucket : ℕ → View V → Pairs V → Type 0
  AreOfBucket b pass pairs = IsTrue l.honest → pairs ≡ at_bucket enc_text l.buckets b (map_of enc_text ev (history pass.front))

  -- the pairs of the first so many buckets, one bucket behind the other; the pass went on from each to the next, to the front at which that one was read
  abbrev pub AreRead : ℕ → View V → View V → Pairs V → Type 0
  AreRead zero old new pairs = (new ≡ old) × (pairs ≡ [])
  AreRead (suc b) old new pairs = (mid : View V) × (before here : Pairs V) × AreRead b old mid before × Goes mid new × AreOfBucket b new here × (pairs ≡ before ++ here)

  -- the pairs of all buckets were handed over, or those of the buckets before one that was not read
  abbrev pub IsVisit : (Pairs V → Type 0) → View V → View V → Result (Unit {0}) MapRefusal → Type 0
  IsVisit AreHanded old new (Ok _) = (pairs : Pairs V) × AreRead l.buckets old new pairs × AreHanded pairs
  IsVisit AreHanded old new (Err why) = (b : ℕ) × (mid : View V) × (pairs : Pairs V) × (b < l.buckets) × AreRead b old mid pairs × Goes mid new × AreHanded pairs × IsUnread l.honest why

  -- the pairs of this bucket were handed over, or none where it was not read
  abbrev pub IsBucketVisit : ℕ → (Pairs V → Type 0) → View V → Result (Unit {0}) MapRefusal → Type 0
  IsBucketVisit b AreHanded new (Ok _) = (pairs : Pairs V) × AreOfBucket b new pairs × AreHanded pairs
  IsBucketVisit b AreHanded new (Err why) = AreHanded [] × IsUnread l.honest why
