-- Keys that are removed one after another, and buckets that are flushed.
use Rattle.std.proofs.Common.{◌≡◌, ◌<◌, ◌+◌, suc, ℕ, Bool, true, false, MatchBool, List, [], ◌∷◌, ◌++◌, length, map, take, slice_index_or, Option, Result, Ok, Err, refl, sym, ap, subst, ◌∙◌, inl, inr, arith}
use Rattle.std.specs.List.{FoldsTo}
use Rattle.std.proofs.Math.Seq.{take-suc}
use Rattle.std.proofs.lemmas.Fn.{chained_keeps}
use Rattle.std.proofs.lemmas.List.{map-append}
use Rattle.table_core.specs.declared.limits.Limits.{Limits}
use Rattle.version_words.specs.Views.{Goes}
use Rattle.hash_table.proofs.Fronts.{goes_trans}
use Rattle.far_map.specs.declared.refusal.MapRefusal.{MapRefusal}
use Rattle.far_server.specs.Sessions.{Session}
use Rattle.far_server.specs.Flushes.{is_of, Finds, IsRemoval, Flushes, IsRemoved, AreTaken, IsFlushing}
use Rattle.far_server.proofs.Going.{no_step, one_step, both}

-- the keys up to the next one
pub next_key : (keys : List (List ℕ)) (i : ℕ) (key : List ℕ) → i < length keys → key ≡ slice_index_or keys i key → take (i + 1) keys ≡ take i keys ++ key ∷ []
next_key keys i key lt is =
    let next : i + 1 ≡ suc i = omega arith in
    ap (λ (n : ℕ). take n keys) next ∙ (take-suc keys i key lt ∙ ap (λ (k : List ℕ). take i keys ++ k ∷ []) (sym is))

-- A visitor that notes the key of each pair, or that one was not noted: after these pairs it has noted all their keys, or one was not.
pub noted : {F : Type 0} (R : F → (List ℕ × List ℕ) → F → Type 0) (keys : F → List (List ℕ)) (short : F → Bool)
    → (step : (f : F) (p : List ℕ × List ℕ) (h : F) → R f p h → short h ≡ false → (short f ≡ false) × (keys h ≡ keys f ++ p.0 ∷ []))
    → (f : F) (pairs : List (List ℕ × List ℕ)) (h : F) → keys f ≡ [] → FoldsTo R f pairs h → short h ≡ false → keys h ≡ map (λ p. p.0) pairs
noted R keys short step f pairs h none folds whole =
    chained_keeps R (λ ps q. short q ≡ false → keys q ≡ map (λ p. p.0) ps) (λ ps q x v before r noted_it.
    let s = step q x v r noted_it in
    s.1 ∙ (ap (λ (ks : List (List ℕ)). ks ++ x.0 ∷ []) (before s.0) ∙ sym (map-append (λ p. p.0) ps (x ∷ [])))) pairs f h (λ _. none) folds whole

-- what no call changes stays over all calls
pub kept : {F N : Type 0} (R : F → (List ℕ × List ℕ) → F → Type 0) (name : F → N) → ((f : F) (p : List ℕ × List ℕ) (h : F) → R f p h → name h ≡ name f)
    → (f : F) (pairs : List (List ℕ × List ℕ)) (h : F) → FoldsTo R f pairs h → name h ≡ name f
kept R name step f pairs h folds = chained_keeps R (λ ps q. name q ≡ name f) (λ ps q x v before r. step q x v r ∙ before) pairs f h refl folds

module _ (l : Limits) (database : Option ℕ) where
  pub taken_more : (ks : List (List ℕ)) (k : List ℕ) (a b c : Session) → AreTaken l database ks a b → MatchBool (is_of database k) (IsRemoved l database k b c) (b ≡ c) → AreTaken l database (ks ++ k ∷ []) a c
  taken_more [] k a b c same one = (c, subst (λ (s : Session). MatchBool (is_of database k) (IsRemoved l database k s c) (s ≡ c)) (sym same) one, refl)
  taken_more (j ∷ ks) k a b c taken one = (taken.0, taken.1, taken_more ks k taken.0 b c taken.2 one)

  pub went : (a b : Session) → Goes a.pass b.pass → Flushes l database a b
  went a b goes = one_step (IsRemoval l database) a b (inl goes)

  none : (a b : Session) → a ≡ b → Flushes l database a b
  none a b same = subst (λ (s : Session). Flushes l database a s) same (no_step (IsRemoval l database) a)

  took : (k : List ℕ) (a b : Session) (t : Bool) → is_of database k ≡ t → MatchBool t (IsRemoved l database k a b) (a ≡ b) → Flushes l database a b
  took k a b true is removed = one_step (IsRemoval l database) a b (inr (k, Ok removed.0, is, removed.1))
  took k a b false is same = none a b same

  -- what was taken are steps
  pub taken_steps : (ks : List (List ℕ)) (a b : Session) → AreTaken l database ks a b → Flushes l database a b
  taken_steps [] a b same = none a b same
  taken_steps (k ∷ ks) a b taken = both (IsRemoval l database) a taken.0 b (took k a taken.0 (is_of database k) refl taken.1) (taken_steps ks taken.0 b taken.2)

  -- the keys of a bucket were found, and some of them taken
  pub found_steps : (bucket : ℕ) (keys ks : List (List ℕ)) (a mid b : Session) → Finds l bucket a mid keys → AreTaken l database ks mid b → Flushes l database a b
  found_steps bucket keys ks a mid b finds taken = both (IsRemoval l database) a mid b (went a mid finds.goes) (taken_steps ks mid b taken)

  -- it went on without a call first
  pub flushing_after : (bucket : ℕ) (a b c : Session) (r : Result (Unit {0}) MapRefusal) → Goes a.pass b.pass → IsFlushing l database bucket b c r → IsFlushing l database bucket a c r
  flushing_after bucket a b c (Ok x) goes (mid, keys, finds, taken) = (mid, keys, record { goes = goes_trans goes finds.goes; pairs = finds.pairs; are = finds.are; found = finds.found }, taken)
  flushing_after bucket a b c (Err why) goes steps = both (IsRemoval l database) a b c (went a b goes) steps
