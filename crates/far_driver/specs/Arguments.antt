-- The arguments of the program.
use Rattle.std.specs.Prelude.{◌≡◌, ℕ, ◌+◌, ◌-◌, ◌*◌, ◌&&◌, Bool, false, nat_lt, nat_le, if◌then◌else◌, List, [], ◌∷◌, length, codes, bytes_eq, Option, Some, None, is_some}
use Rattle.std.specs.List.{list_all, count_by}
use Rattle.hash_table.specs.declared.config.Config.{Config}

abbrev pub is_digit : ℕ → Bool
is_digit byte = nat_le 48 byte && nat_le byte 57

-- the number that digits write, behind those that were read
abbrev pub decimal_from : ℕ → List ℕ → ℕ
decimal_from n [] = n
decimal_from n (digit ∷ digits) = decimal_from (10 * n + (digit - 48)) digits

-- one to seven decimal digits are a number
abbrev pub number_of : List ℕ → Option ℕ
number_of text = if nat_lt 0 (length text) && (nat_le (length text) 7 && list_all is_digit text) then Some (decimal_from 0 text) else None

-- 1 to 64 files, among which standard input stands at most once
abbrev pub are_files : List (List ℕ) → Bool
are_files names = nat_lt 0 (length names) && (nat_le (length names) 64 && nat_le (count_by (λ name. bytes_eq name (codes "-")) names) 1)

-- words are three numbers and the files
abbrev pub are_arguments : List (List ℕ) → Bool
are_arguments (buckets ∷ frames ∷ limit ∷ files) = is_some (number_of buckets) && (is_some (number_of frames) && (is_some (number_of limit) && are_files files))
are_arguments _ = false

-- the words are three numbers, which are these settings, and so many files
abbrev pub AskFor : List (List ℕ) → Config → ℕ → Type 0
AskFor (buckets ∷ frames ∷ limit ∷ files) c count = (number_of buckets ≡ Some c.buckets) × (number_of frames ≡ Some c.frames) × (number_of limit ≡ Some c.limit) × (length files ≡ count)
AskFor _ c count = ⊥
