-- Gets of several keys, one after another.
use Rattle.std.proofs.Common.{◌≡◌, ◌⊎◌, inl, inr, ℕ, List, [], ◌∷◌, ◌++◌, append_assoc, Option, refl, sym, ap, subst, ◌∙◌}
use Rattle.far_blob.specs.Encodings.{enc_blob}
use Rattle.table_core.specs.declared.limits.Limits.{Limits}
use Rattle.far_map.specs.declared.refusal.MapRefusal.{MapRefusal}
use Rattle.far_map.specs.declared.refusal.MapRefusal.TheVariants as refusal
use Rattle.far_map.specs.Many.{AreGot, IsGotUntil}
use Rattle.farcalls.specs.declared.refusal.Unanswered.{Unanswered}
use Rattle.farcalls.specs.declared.refusal.Unanswered.TheVariants as unanswered
use Rattle.farcalls.specs.Sessions.{Session}
use Rattle.farcalls.specs.Calls.{IsKeyFault}
use Rattle.farcalls.specs.Answers.{IsOfKeys, AreCutOff}

pub of_keys : (k : List ℕ) (why : Unanswered) → IsKeyFault k why → IsOfKeys why
of_keys k unanswered.KeyTooLong fault = tt
of_keys k (unanswered.Refused why) fault = fault
of_keys k unanswered.NoRoom fault = absurd fault
of_keys k unanswered.ValueTooLong fault = absurd fault
of_keys k unanswered.ReplyTooLong fault = absurd fault
of_keys k unanswered.Lost fault = absurd fault

module _ (l : Limits) where
  -- some keys more
  pub got_more : (ks more : List (List ℕ)) (answers others : List (Option (List ℕ))) (old mid new : Session) → AreGot enc_blob l ks answers old mid → AreGot enc_blob l more others mid new → AreGot enc_blob l (ks ++ more) (answers ++ others) old new
  got_more [] more answers others old mid new got next =
      let S : Session → Type 0 = λ s. AreGot enc_blob l more others s new in
      let A : List (Option (List ℕ)) → Type 0 = λ a. AreGot enc_blob l more (a ++ others) old new in
      subst A (sym got.1) (subst S (sym got.0) next)
  got_more (k ∷ ks) more answers others old mid new got next =
      (got.0, got.1, got.2 ++ others, got.3, got_more ks more got.2 others got.0 mid new got.4 next, ap (λ (a : List (Option (List ℕ))). a ++ others) got.5)

  -- nothing was got
  pub cut_here : (ks : List (List ℕ)) (why : Unanswered) (s : Session) → IsOfKeys why → AreCutOff l ks why s s
  cut_here ks why s fault = record { before = []; behind = ks; split = refl; answers = []; mid = s; got = (refl, refl); stopped = inl (fault, refl) }

  -- some were got, and then one was refused
  pub cut_until : (ks all rest : List (List ℕ)) (why : MapRefusal) (old new : Session) → all ≡ ks ++ rest → IsGotUntil enc_blob l ks old new why → AreCutOff l all (unanswered.Refused why) old new
  cut_until ks all rest why old new is until = record {
    before = until.before;
    behind = until.key ∷ (until.behind ++ rest);
    split = is ∙ (ap (λ (a : List (List ℕ)). a ++ rest) until.keys_are ∙ append_assoc until.before (until.key ∷ until.behind) rest);
    answers = until.answers;
    mid = until.mid;
    got = until.got;
    stopped = inr (until.key, until.behind ++ rest, why, refl, refl, until.refused);
  }

  -- some were got, or none since there was no memory for the answers
  pub cut_each : (ks all rest : List (List ℕ)) (why : MapRefusal) (old new : Session) → all ≡ ks ++ rest → ((why ≡ refusal.Memory) × (new ≡ old)) ⊎ IsGotUntil enc_blob l ks old new why → AreCutOff l all (unanswered.Refused why) old new
  cut_each ks all rest why old new is (inl none) = subst (λ (s : Session). AreCutOff l all (unanswered.Refused why) old s) (sym none.1) (cut_here all (unanswered.Refused why) old none.0)
  cut_each ks all rest why old new is (inr until) = cut_until ks all rest why old new is until

  -- some were got before
  pub cut_later : (done rest all : List (List ℕ)) (answers : List (Option (List ℕ))) (why : Unanswered) (old mid new : Session) → all ≡ done ++ rest → AreGot enc_blob l done answers old mid → AreCutOff l rest why mid new → AreCutOff l all why old new
  cut_later done rest all answers why old mid new is got cut = record {
    before = done ++ cut.before;
    behind = cut.behind;
    split = is ∙ (ap (λ (a : List (List ℕ)). done ++ a) cut.split ∙ sym (append_assoc done cut.before cut.behind));
    answers = answers ++ cut.answers;
    mid = cut.mid;
    got = got_more done cut.before answers cut.answers old mid cut.mid got cut.got;
    stopped = cut.stopped;
  }
