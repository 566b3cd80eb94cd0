-- Gets of several keys: one key more.
use Rattle.std.proofs.Common.{◌≡◌, ℕ, List, [], ◌∷◌, ◌++◌, append_assoc, Option, Result, Ok, refl, sym, ap, subst, ◌∙◌}
use Rattle.table_core.specs.declared.limits.Limits.{Limits}
use Rattle.table_core.specs.declared.operation.Operation.TheVariants as op
use Rattle.version_words.specs.Views.{Goes}
use Rattle.far_map.specs.declared.refusal.MapRefusal.{MapRefusal}
use Rattle.far_map.specs.declared.stats.Stats.{Stats}
use Rattle.far_map.specs.Views.{Call, SessionView}
use Rattle.far_map.specs.Answers.{AnswersBy}
use Rattle.far_map.specs.Counts.{counted}
use Rattle.far_map.specs.Updates.{Called}
use Rattle.far_map.specs.Many.{AreGot}
use Rattle.far_map.proofs.Trying.{answers_from}

-- the first of what is left is done too
pub next_done : {A : Type 0} (all done rest behind : List A) (x : A) → all ≡ done ++ rest → rest ≡ x ∷ behind → all ≡ (done ++ x ∷ []) ++ behind
next_done all done rest behind x is split = is ∙ (ap (λ (xs : List _). done ++ xs) split ∙ sym (append_assoc done (x ∷ []) behind))

module _ {V : Type 0} (ev : V → List ℕ) (l : Limits) where
  -- a session that went on, and counted nothing, before a call made it before that too
  pub called_from : (old mid new : SessionView V) (o : Call V) (r : Result (Option V) MapRefusal) → Goes old.pass mid.pass → mid.limit ≡ old.limit → mid.stats ≡ old.stats → Called ev l mid new o r → Called ev l old new o r
  called_from old mid new o r goes limit stats called = record {
    answers = answers_from ev l old.limit old.pass mid.pass new.pass o r goes (subst (λ (n : ℕ). AnswersBy ev l n mid.pass new.pass o r) limit called.answers);
    counts = record {
      stats = called.counts.stats ∙ ap (λ (s : Stats). counted o r s) stats;
      limit = called.counts.limit ∙ limit;
    };
  }

  pub got_more : (ks : List (List ℕ)) (k : List ℕ) (answers : List (Option V)) (answer : Option V) (a b c : SessionView V)
      → AreGot ev l ks answers a b → Called ev l b c (op.Get k) (Ok answer) → AreGot ev l (ks ++ k ∷ []) (answers ++ answer ∷ []) a c
  got_more [] k answers answer a b c before called =
      let at : Called ev l a c (op.Get k) (Ok answer) = subst (λ (s : SessionView V). Called ev l s c (op.Get k) (Ok answer)) (sym before.0) called in
      (c, answer, [], at, (refl, refl), ap (λ (xs : List (Option V)). xs ++ answer ∷ []) before.1)
  got_more (j ∷ ks) k answers answer a b c before called =
      (before.0, before.1, before.2 ++ answer ∷ [], before.3, got_more ks k before.2 answer before.0 b c before.4 called, ap (λ (xs : List (Option V)). xs ++ answer ∷ []) before.5)
