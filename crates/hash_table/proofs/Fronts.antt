-- How what is seen in a call adds up.
use Rattle.std.proofs.Common.{◌≡◌, ℕ, ◌^◌, ◌<◌, arith, List, [], ◌∷◌, ◌++◌, Option, Some, None, IsTrue, refl, ap, sym, ◌∙◌, subst, inl, inr}
use Rattle.std.proofs.lemmas.List.{append-nil}
use mathlib.Core.List.{IsPrefix}
use Rattle.far_object.specs.Buckets.{bucket}
use Rattle.table_core.specs.declared.event.Event.{Event}
use Rattle.table_core.specs.declared.event.Event.TheVariants.{Done}
use Rattle.table_core.specs.declared.limits.Limits.{Limits}
use Rattle.table_core.specs.declared.operation.Operation.{Operation}
use Rattle.table_core.specs.BucketWords.{name_of, place_of, pack}
use Rattle.table_core.specs.Maps.{key_of, reply}
use Rattle.table_core.specs.Logs.{contents}
use Rattle.table_core.specs.Lawful.{IsLawful}
use Rattle.version_words.specs.Views.{PassView, Goes, Calls, MakesCall, WasSeen, Follows, IsAnswered, installing}
use Rattle.version_words.specs.Laws.{SeenAnswers}
use Rattle.version_words.proofs.Fronts.{prefix_self, prefix_trans}
use Rattle.hash_table.specs.Calls.{AtMostOneMore, IsFinished}

-- a list that has one more at its end at most begins with the other
pub one_more_begins : {A : Type 0} (old new : List A) → AtMostOneMore old new → IsPrefix old new
one_more_begins old new (inl same) = ([], append-nil old ∙ sym same)
one_more_begins old new (inr more) = (more.0 ∷ [], sym more.1)

module _ {K V : Type 0} where
  abbrev pub done : Operation K V → Option ℕ → ℕ → Event K V
  done o n p = Done p o n

  pub goes_self : (p : PassView K V) → Goes p p
  goes_self p = record { number = refl; grows = prefix_self p.front; calls_stay = refl }

  pub goes_trans : {a b c : PassView K V} → Goes a b → Goes b c → Goes a c
  goes_trans {a} {b} {c} g h = record { number = h.number ∙ g.number; grows = prefix_trans a.front b.front c.front g.grows h.grows; calls_stay = h.calls_stay ∙ g.calls_stay }

  pub goes_calls : {a b c : PassView K V} (o : Operation K V) → Goes a b → Calls b c o → Calls a c o
  goes_calls {a} {b} {c} o g h = record {
    number = h.number ∙ g.number;
    grows = prefix_trans a.front b.front c.front g.grows h.grows;
    call_added = h.call_added ∙ ap (λ (os : List (Operation K V)). os ++ o ∷ []) g.calls_stay;
  }

  -- a call that was made at a later front was made at the earlier one
  pub goes_made : (a b c : PassView K V) (o : Option (Operation K V)) → Goes a b → MakesCall o b c → MakesCall o a c
  goes_made a b c None g h = goes_trans g h
  goes_made a b c (Some o) g h = goes_calls o g h

module _ {K V : Type 0} (ek : K → List ℕ) (ev : V → List ℕ) (l : Limits) where
  -- a call that was added behind a word that was seen, answered from the word's contents
  pub finished : {old mid new : PassView K V} (b w : ℕ) (o : Operation K V) (n : Option ℕ) (r : Option V) → SeenAnswers K V ek ev → Goes old mid → Calls mid new o → IsLawful ek ev l new.front → bucket ek l.buckets (key_of o) ≡ b
      → WasSeen ek l.buckets mid.front b w → Follows ek l.buckets mid.front b w (Done mid.number o n) new.front → (IsTrue l.honest → r ≡ reply ek (contents mid.front (name_of w)) o)
      → IsFinished ek ev l old o r new
  finished {old} {mid} {new} b w o n r answers goes made lawful key seen follows value =
      let is : done o n mid.number ≡ done o n old.number = ap (done o n) goes.number in
      record {
        call = goes_calls o goes made;
        last = (n, (follows.0, follows.1 ∙ ap (λ (e : Event K V). follows.0 ++ e ∷ []) is, prefix_trans old.front mid.front follows.0 goes.grows follows.2));
        answered = λ honest.
            let h : IsAnswered ek ev mid.front mid.number o (reply ek (contents mid.front (name_of w)) o) new.front = answers l mid.front new.front b w mid.number o n honest lawful key seen follows in
            subst (λ (p : ℕ). IsAnswered ek ev old.front p o r new.front) goes.number (h.0, h.1, h.2, prefix_trans old.front mid.front h.0 goes.grows h.3, value honest ∙ h.4);
      }

  pub finished_from : {old mid new : PassView K V} (o : Operation K V) (r : Option V) → Goes old mid → IsFinished ek ev l mid o r new → IsFinished ek ev l old o r new
  finished_from {old} {mid} {new} o r goes h =
      let is : done o h.last.0 mid.number ≡ done o h.last.0 old.number = ap (done o h.last.0) goes.number in
      record {
        call = goes_calls o goes h.call;
        last = (h.last.0, (h.last.1.0, h.last.1.1 ∙ ap (λ (e : Event K V). h.last.1.0 ++ e ∷ []) is, prefix_trans old.front mid.front h.last.1.0 goes.grows h.last.1.2));
        answered = λ honest.
            let a = h.answered honest in
            subst (λ (p : ℕ). IsAnswered ek ev old.front p o r new.front) goes.number (a.0, a.1, a.2, prefix_trans old.front mid.front a.0 goes.grows a.3, a.4);
      }

  -- what follows a longer front follows a shorter one
  pub follows_from : {old mid : PassView K V} (b w m : ℕ) (o : Option (Operation K V)) (log : List (Event K V)) → Goes old mid → Follows ek l.buckets mid.front b w (installing mid.number b m o) log → Follows ek l.buckets old.front b w (installing old.number b m o) log
  follows_from {old} {mid} b w m o log goes f =
      subst (λ (p : ℕ). Follows ek l.buckets old.front b w (installing p b m o) log) goes.number (f.0, f.1, prefix_trans old.front mid.front f.0 goes.grows f.2, f.3)

  -- a change that was installed is finished, and so is one that left its bucket
  pub installed_finished : {old new : PassView K V} (b w m : ℕ) (o : Operation K V) (made : Option (Operation K V)) (r : Option V) → made ≡ Some o → SeenAnswers K V ek ev → MakesCall made old new → IsLawful ek ev l new.front
      → bucket ek l.buckets (key_of o) ≡ b → WasSeen ek l.buckets old.front b w → Follows ek l.buckets old.front b w (installing old.number b m made) new.front → (IsTrue l.honest → r ≡ reply ek (contents old.front (name_of w)) o)
      → IsFinished ek ev l old o r new
  installed_finished {old} {new} b w m o made r is answers added lawful key seen follows value =
      finished b w o (Some m) r answers (goes_self old) (subst (λ (x : Option (Operation K V)). MakesCall x old new) is added) lawful key seen
      (subst (λ (x : Option (Operation K V)). Follows ek l.buckets old.front b w (installing old.number b m x) new.front) is follows) value

  pub left_finished : {old new : PassView K V} (b w : ℕ) (o made : Operation K V) (r : Option V) → made ≡ o → SeenAnswers K V ek ev → Calls old new made → IsLawful ek ev l new.front
      → bucket ek l.buckets (key_of o) ≡ b → WasSeen ek l.buckets old.front b w → Follows ek l.buckets old.front b w (Done old.number made None) new.front → (IsTrue l.honest → r ≡ reply ek (contents old.front (name_of w)) o)
      → IsFinished ek ev l old o r new
  left_finished {old} {new} b w o made r is answers added lawful key seen follows value =
      finished b w o None r answers (goes_self old) (subst (λ (x : Operation K V). Calls old new x) is added) lawful key seen
      (subst (λ (x : Operation K V). Follows ek l.buckets old.front b w (Done old.number x None) new.front) is follows) value

pub place_packed : (w n p : ℕ) → w ≡ pack n p → p < 2 ^ 24 → place_of w ≡ p
place_packed w n p is low = omega arith
