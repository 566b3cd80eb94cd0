-- Where an object may move.
use Rattle.std.specs.Prelude.{◌≡◌, ◌<◌, ℕ, true, ◌⊎◌}
use Rattle.table_core.specs.BucketWords.{place_of, empty_place, far_place}
use Rattle.version_words.specs.Views.{has_object}

-- the word has an object, which goes from the device to a frame or from a frame to the device
abbrev pub Moves : ℕ → ℕ → Type 0
Moves old place =
    (has_object old ≡ true)
    × (((place_of old ≡ far_place) × (place < empty_place)) ⊎ ((place_of old < empty_place) × (place ≡ far_place)))
