-- What a run writes.
use Rattle.std.specs.Prelude.{ℕ, ◌+◌, List, [], ◌∷◌, ◌++◌, map, codes, decimal}
use Rattle.run_lines.specs.Calls.{Texts}

-- each line, and an LF behind it
abbrev pub written : List (List ℕ) → List ℕ
written [] = []
written (line ∷ lines) = line ++ 10 ∷ written lines

abbrev pub pair_line : List ℕ × List ℕ → List ℕ
pair_line e = e.0 ++ 32 ∷ e.1

-- the lines of the files, the first of which has the number n
abbrev pub file_lines : ℕ → List (List (List ℕ)) → List (List ℕ)
file_lines n [] = []
file_lines n (lines ∷ files) = (codes "file " ++ decimal n) ∷ (lines ++ file_lines (n + 1) files)

abbrev pub output : List (List (List ℕ)) → Texts → List ℕ
output files contents = written (file_lines 1 files) ++ written (codes "contents" ∷ map pair_line contents)

-- the same before the contents, where the texts have the lines of the files
abbrev pub file_texts : ℕ → List (List ℕ) → List ℕ
file_texts n [] = []
file_texts n (text ∷ texts) = (codes "file " ++ (decimal n ++ 10 ∷ text)) ++ file_texts (n + 1) texts
