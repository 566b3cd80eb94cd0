-- A table that is closed again: what the last close tells of the callers that came back is so of those handed in first.
use Rattle.std.proofs.Common.{◌≡◌, ℕ, suc, ◌<◌, List, [], ◌∷◌, length, refl, ap, sym, ◌∙◌, arith}
use Rattle.std.specs.Prelude.{slice_index_or}
use Rattle.far_object.specs.Encodings.{enc_text}
use Rattle.table_core.specs.declared.limits.Limits.{Limits}
use Rattle.hash_table.specs.declared.caller.Caller.{Caller}
use Rattle.hash_table.specs.Closes.{AreBack, ClosesSorted, passes}
use Rattle.version_words.specs.Views.{Goes, IsWhole, AreNone, AreApart, calls_of}
use Rattle.version_words.proofs.Fronts.{prefix_trans}
use Rattle.far_map.specs.Views.{View, Log, Pairs}

whole_back : {V : Type 0} (log : Log V) (old new : View V) → Goes old new → IsWhole log new → IsWhole log old
whole_back log old new goes whole = record {
  seen = prefix_trans old.front new.front log goes.grows whole.seen;
  all = ap (λ (p : ℕ). calls_of p log) (sym goes.number) ∙ (whole.all ∙ goes.calls_stay);
}

abbrev Callers : Type 0 → Type 0 → Type 0
Callers V J = List (Caller (List ℕ) V J)

module _ {V J : Type 0} where
  -- each has the number of the other at its place
  abbrev SameNumbers : Callers V J → Callers V J → Type 0
  SameNumbers xs ys = (k : ℕ) (d : Caller (List ℕ) V J) → k < length xs → (slice_index_or ys k d).pass.number ≡ (slice_index_or xs k d).pass.number

  none_moved : (p q : View V) (xs ys : Callers V J) → p.number ≡ q.number → length ys ≡ length xs → SameNumbers xs ys → AreNone p (passes xs) → AreNone q (passes ys)
  none_moved p q [] [] same count numbers none = tt
  none_moved p q [] (y ∷ ys) same count numbers none = absurd (omega (arith, count))
  none_moved p q (x ∷ xs) [] same count numbers none = absurd (omega (arith, count))
  none_moved p q (x ∷ xs) (y ∷ ys) same count numbers none =
      (λ is. none.0 (same ∙ (is ∙ numbers 0 x (omega arith))), none_moved p q xs ys same (omega (arith, count)) (λ k d lt. numbers (suc k) d (omega (arith, lt))) none.1)

  apart_moved : (xs ys : Callers V J) → length ys ≡ length xs → SameNumbers xs ys → AreApart (passes xs) → AreApart (passes ys)
  apart_moved [] [] count numbers apart = tt
  apart_moved [] (y ∷ ys) count numbers apart = absurd (omega (arith, count))
  apart_moved (x ∷ xs) [] count numbers apart = absurd (omega (arith, count))
  apart_moved (x ∷ xs) (y ∷ ys) count numbers apart =
      let rest : SameNumbers xs ys = λ k d lt. numbers (suc k) d (omega (arith, lt)) in
      let shorter : length ys ≡ length xs = omega (arith, count) in
      (none_moved x.pass y.pass xs ys (sym (numbers 0 x (omega arith))) shorter rest apart.0, apart_moved xs ys shorter rest apart.1)

  pub closed_back : (ev : V → List ℕ) (l : Limits) (olds news : Callers V J) (pairs : Pairs V) → AreBack olds news → ClosesSorted enc_text ev l news pairs → ClosesSorted enc_text ev l olds pairs
  closed_back ev l olds news pairs back closes all moved up =
      let c = closes all moved up in
      let forth : SameNumbers olds news = λ k d lt. let g = back.goes k d lt in g.number in
      let there : (k : ℕ) → k < length news → k < length olds = λ k lt. let e = back.count in omega (arith, lt, e) in
      let here : (k : ℕ) → k < length olds → k < length news = λ k lt. let e = back.count in omega (arith, lt, e) in
      record {
        log = c.log;
        lawful = c.lawful;
        all = c.all ∙ back.count;
        apart = apart_moved news olds (sym back.count) (λ k d lt. sym (forth k d (there k lt))) c.apart;
        whole = λ k d lt. whole_back c.log (slice_index_or olds k d).pass (slice_index_or news k d).pass (back.goes k d lt) (c.whole k d (here k lt));
        no_other = λ pass none. c.no_other pass (none_moved pass pass olds news refl back.count forth none);
        pairs_are = c.pairs_are;
      }
