-- Buckets that are passed over.
use Rattle.std.proofs.Common.{◌≡◌, ◌<◌, ◌≤◌, ◌+◌, ◌-◌, ◌*◌, ℕ, suc, pos, List, [], ◌∷◌, ◌++◌, length, Result, Ok, Err, sym, subst, arith}
use Rattle.std.specs.Prelude.{OnOk, OnErr, IfErr}
use Rattle.std.specs.List.{flat_map}
use Rattle.resp.specs.Replies.{Token, Count, Number, token}
use Rattle.far_map.specs.declared.refusal.MapRefusal.TheVariants as refusal
use Rattle.farcalls.specs.declared.refusal.Unanswered.{Unanswered}
use Rattle.farcalls.specs.declared.refusal.Unanswered.TheVariants as unanswered
use Rattle.farcalls.specs.Tokens.{pair_tokens}
use Rattle.far_blob.specs.Encodings.{enc_blob}
use Rattle.table_core.specs.declared.limits.Limits.{Limits}
use Rattle.far_map.specs.Visits.{AreOfBucket}
use Rattle.farcalls.specs.Sessions.{Session, Stays}
use Rattle.farcalls.specs.Answers.{AreEmpty, IsFilled, RepliesPairs, IsRefused, IsHandled}

module _ (l : Limits) (from b : ℕ) (old mid new : Session) (pairs : List (List ℕ × List ℕ)) (le : from ≤ b) (empty : AreEmpty l from (b - from) old mid) (stays : Stays mid new) (of : AreOfBucket enc_blob l b new.pass pairs) where
  -- one bucket more was empty
  pub one_empty : pairs ≡ [] → AreEmpty l from (b + 1 - from) old new
  one_empty none =
      let next : b + 1 - from ≡ suc (b - from) = omega (arith, le) in
      let at : b ≡ from + (b - from) = omega (arith, le) in
      let B : ℕ → Type 0 = λ k. AreOfBucket enc_blob l k new.pass pairs in
      let N : List (List ℕ × List ℕ) → Type 0 = λ ps. AreOfBucket enc_blob l (from + (b - from)) new.pass ps in
      subst (λ (n : ℕ). AreEmpty l from n old new) (sym next) (mid, empty, stays, subst N none (subst B at of))

  -- the next one was not
  pub one_filled : b < l.buckets → IsFilled l from b pairs old new
  one_filled below = record { skipped = b - from; mid = mid; empty = empty; bucket_is = omega (arith, le); below = below; stays = stays; of_bucket = of }

-- what was found is replied
pub pairs_handled : (l : Limits) (from : ℕ) (old new : Session) (before after : List ℕ) (rs : List Token) (result : Result (Unit {0}) Unanswered) → OnOk result (after ≡ before ++ flat_map token rs) → OnErr result (after ≡ before)
    → IfErr result (λ why. why ≡ unanswered.Refused refusal.Memory) → RepliesPairs l from old new rs → Stays old new → IsHandled (RepliesPairs l from) IsRefused old new before after result
pairs_handled l from old new before after rs (Ok done) pushed kept fault replies stays = (rs, pushed, replies)
pairs_handled l from old new before after rs (Err why) pushed kept fault replies stays = (kept, (stays, (refusal.Memory, fault)))
