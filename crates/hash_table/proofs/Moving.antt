-- What a bucket whose word has no FAR place tells.
use Rattle.std.proofs.Common.{◌≡◌, ◌≢◌, ℕ, List}
use Rattle.table_core.specs.declared.limits.Limits.{Limits}
use Rattle.table_core.specs.BucketWords.{place_of, far_place}
use Rattle.table_core.specs.Logs.{word}
use Rattle.version_words.specs.Views.{PassView}
use Rattle.hash_table.specs.Calls.{IsNear}

module _ {K V : Type 0} (ek : K → List ℕ) (ev : V → List ℕ) (l : Limits) where
  pub near_seen : (new : PassView K V) (b k w : ℕ) → b ≡ k → w ≡ word ek l.buckets new.front b → place_of w ≢ far_place → IsNear ek ev l k new.front
  near_seen new b k w is at near = rw (← is, ← at) near
