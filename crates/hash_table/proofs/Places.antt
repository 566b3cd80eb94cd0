-- Words whose place is not the device.
use Rattle.std.proofs.Common.{◌≡◌, ◌≢◌, ℕ, ◌<◌, ◌==◌, Bool, true, false, cond, refl, arith}
use Rattle.std.proofs.lemmas.Bool.Decides.{nat_tests}
use Rattle.table_core.specs.BucketWords.{place_of, empty_place, far_place}
use Rattle.version_words.specs.Views.{has_object}
use Rattle.hash_table.specs.Stages.{IsUnread, IsUnreadFar}
use Rattle.hash_table.specs.declared.refusal.Refusal.{Refusal}
use Rattle.hash_table.specs.declared.refusal.Refusal.TheVariants as refusal

pub nothing_near : (w : ℕ) → has_object w ≡ false → place_of w ≢ far_place
nothing_near w none = by (w == 0) refl (place_of w == empty_place) refl none
  where
    by : (z : Bool) → (w == 0) ≡ z → (e : Bool) → (place_of w == empty_place) ≡ e → cond z false (cond e false true) ≡ false → place_of w ≢ far_place
    by true is e at h = λ far. let zero_is : w ≡ 0 = grind (arith, nat_tests) in absurd (omega (arith, far, zero_is))
    by false is true at h = λ far. let empty_is : place_of w ≡ empty_place = grind (arith, nat_tests) in absurd (omega (arith, far, empty_is))
    by false is false at h = λ far. absurd cc

pub frame_near : (w f : ℕ) → place_of w ≡ f → f < empty_place → place_of w ≢ far_place
frame_near w f is low = λ far. absurd (omega (arith, is, low, far))

-- what is not read from a frame is not read at all, where the word is not FAR
pub near_unread : (is_honest : Bool) (w : ℕ) (e : Refusal) → (place_of w ≢ far_place) → IsUnread w e → IsUnreadFar is_honest e
near_unread is_honest w refusal.Memory near h = tt
near_unread is_honest w refusal.Far near h = absurd (near h)
near_unread is_honest w refusal.Moved near h = absurd h
near_unread is_honest w refusal.Missed near h = tt
near_unread is_honest w refusal.NoFrame near h = absurd h
near_unread is_honest w refusal.TooLong near h = absurd h
near_unread is_honest w refusal.NamesSpent near h = absurd h
near_unread is_honest w refusal.LimboFull near h = absurd h
near_unread is_honest w refusal.Device near h = tt
near_unread is_honest w refusal.Damaged near h = absurd h
