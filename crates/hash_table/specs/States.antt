-- Where a bucket's contents lie, as callers are told.
use Rattle.std.specs.Prelude.{◌≡◌, ℕ, ◌<◌, true, false}
use Rattle.table_core.specs.BucketWords.{name_of, place_of, empty_place, far_place}
use Rattle.version_words.specs.Views.{has_object}
use Rattle.hash_table.specs.declared.state.BucketState.{BucketState}
use Rattle.hash_table.specs.declared.state.BucketState.TheVariants.{Empty, Local, Far}

-- the word's name, and where its contents lie
abbrev pub IsState : ℕ → BucketState → Type 0
IsState w (Empty n) = (name_of w ≡ n) × (has_object w ≡ false)
IsState w (Local n) = (name_of w ≡ n) × (has_object w ≡ true) × (place_of w < empty_place)
IsState w (Far n) = (name_of w ≡ n) × (has_object w ≡ true) × (place_of w ≡ far_place)
