-- Pairs that are handed over, one bucket behind the other.
use Rattle.std.proofs.Common.{◌≡◌, ℕ, ◌+◌, Bool, IsTrue, List, [], ◌++◌, ap, ◌∙◌, arith}
use mathlib.Core.List.{IsPrefix}
use Rattle.table_core.specs.declared.event.Event.{Event}
use Rattle.table_core.specs.declared.limits.Limits.{Limits}
use Rattle.version_words.specs.Views.{PassView, Goes}
use Rattle.hash_table.specs.Closes.{Hands, HistoryStays, IsHandFault, pairs_from}
use Rattle.hash_table.specs.declared.close_through.HandFault.{HandFault}
use Rattle.hash_table.specs.declared.close_through.HandFault.TheVariants.{Close, Stopped}
use Rattle.hash_table.proofs.Ends.{Gathered, gathered_none, gathered_next, part}

module _ {K V S : Type 0} (Takes : S → List (K × V) → S → Type 0) where
  pub hands_map : (P Q : List (K × V) → Type 0) (old new : S) → ((pairs : List (K × V)) → P pairs → Q pairs) → Hands Takes P old new → Hands Takes Q old new
  hands_map P Q old new to h = (h.0, h.1, to h.0 h.2)

-- pairs are taken one list behind another
abbrev pub TakesBoth : {K V S : Type 0} → (S → List (K × V) → S → Type 0) → Type 0
TakesBoth {K} {V} {S} Takes = (x y z : S) (first last : List (K × V)) → Takes x first y → Takes y last z → Takes x (first ++ last) z

module _ {K V J S : Type 0} (ek : K → List ℕ) (ev : V → List ℕ) (l : Limits) (Takes : S → List (K × V) → S → Type 0) (Stops : S → S → Type 0) where
  -- a fault behind pairs that were taken
  pub fault_behind : (P : List (K × V) → Type 0) (old mid new : S) (n : ℕ) (fault : HandFault K V J) → TakesBoth Takes → Hands Takes P old mid → IsHandFault ek ev l Takes Stops mid new n fault → IsHandFault ek ev l Takes Stops old new n fault
  fault_behind P old mid new n (Close fault) both before is = (is.0, (before.0 ++ is.1.0, both old mid new before.0 is.1.0 before.1 is.1.1, tt))
  fault_behind P old mid new n Stopped both before is = (is.0, (before.0 ++ is.1.0, both old mid is.0 before.0 is.1.0 before.1 is.1.1, tt), is.2)

module _ {K V S : Type 0} (ek : K → List ℕ) (ev : V → List ℕ) (l : Limits) (Takes : S → List (K × V) → S → Type 0) where
  -- the pairs of the first n buckets were taken
  abbrev pub HandedOver : (is_honest : Bool) (mark : List (Event K V)) (start now : PassView K V) (old new : S) (n : ℕ) → Type 0
  HandedOver is_honest mark start now old new n = Hands Takes (λ items. Gathered ek ev l is_honest mark start now items 0 n) old new

  pub handed_none : (is_honest : Bool) (mark : List (Event K V)) (start : PassView K V) (old : S) → Takes old [] old → IsPrefix mark start.front → HandedOver is_honest mark start start old old 0
  handed_none is_honest mark start old none told = ([], none, gathered_none ek ev l is_honest mark start 0 told)

  pub handed_next : (is_honest : Bool) (mark : List (Event K V)) (start now next : PassView K V) (old mid new : S) (n : ℕ) → TakesBoth Takes → HandedOver is_honest mark start now old mid n → Goes now next
      → Hands Takes (λ pairs. IsTrue is_honest → pairs ≡ part ek ev l next.front n) mid new → HandedOver is_honest mark start next old new (n + 1)
  handed_next is_honest mark start now next old mid new n both so goes more =
      let here : n ≡ 0 + n = omega arith in (
        so.0 ++ more.0,
        both old mid new so.0 more.0 so.1 more.1,
        gathered_next ek ev l is_honest mark start now next so.0 (so.0 ++ more.0) 0 n so.2 goes (λ honest. ap (λ (z : List (K × V)). so.0 ++ z) (more.2 honest ∙ ap (λ b. part ek ev l next.front b) here)),
      )

  pub handed_all : (is_honest : Bool) (mark : List (Event K V)) (start now : PassView K V) (old new : S) (n : ℕ) → n ≡ l.buckets → HandedOver is_honest mark start now old new n
      → Hands Takes (λ pairs. IsTrue is_honest → (log : List (Event K V)) → IsPrefix now.front log → HistoryStays mark log → pairs ≡ pairs_from ek ev l log 0 l.buckets) old new
  handed_all is_honest mark start now old new n is so =
      (so.0, so.1, λ honest log later stays. so.2.pairs honest log later stays ∙ ap (λ (b : ℕ). pairs_from ek ev l log 0 b) is)
