-- The end of a run.
use Rattle.std.specs.Prelude.{ℕ, List, ◌∷◌, ◌++◌, Option, Result, Ok, Err, map, codes, ◌≡◌}
use Rattle.std.specs.Io.KnownBytes.{Appends}
use Rattle.std.specs.List.Sorted.{IsPermutation}
use Rattle.far_object.specs.Encodings.{enc_text}
use Rattle.far_pairs.specs.Bundles.{Rises}
use Rattle.run_lines.specs.Calls.{Texts}
use Rattle.run_lines.specs.Output.{written, pair_line}

-- these are the lines of the pairs, in key order
pub record AreLinesOf (pairs : Texts) (lines : List ℕ) : Type 0 where
  pub all : Texts
  pub same : IsPermutation pairs all
  pub rising : Rises enc_text enc_text all
  pub are : lines ≡ written (map pair_line all)

-- there are lines, and of them this is so
abbrev pub Holds : {E : Type 0} → Result (List ℕ) E → (List ℕ → Type 0) → Type 0
Holds (Ok lines) P = P lines
Holds (Err refusal) P = ⊥

-- the text was written, and behind it the contents, which are the lines of the pairs
pub record Writes (pairs : Texts) (old new : Option (List ℕ)) (text : List ℕ) : Type 0 where
  pub lines : List ℕ
  pub are : AreLinesOf pairs lines
  pub wrote : Appends old new (text ++ (codes "contents" ++ 10 ∷ lines))

-- there are pairs, and of them this is so
abbrev pub Collected : {A E : Type 0} → Result A E → (A → Type 0) → Type 0
Collected (Ok given) P = P given
Collected (Err fault) P = ⊥
