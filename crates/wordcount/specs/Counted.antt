-- What was counted: the words of one history's map.
use Rattle.std.specs.Prelude.{◌≡◌, ◌++◌, ℕ, Bool, List, [], ◌∷◌, map, decimal}
use Rattle.std.specs.Ordering.{is_lt}
use Rattle.std.specs.List.Sorted.{IsPermutation, IsSorted}
use Rattle.std.specs.declared.alloc.Global.{Global}
use Rattle.std.specs.declared.cmp.Reverse.{Reverse}
use Rattle.std.specs.declared.vec.Vec.{Vec}
use Rattle.far_object.specs.Encodings.{enc_text}
use Rattle.version_words.specs.Rows.{limits_of}
use Rattle.hash_table.specs.Configs.{sizes_of}
use Rattle.hash_table.specs.Openings.{WasOpened}
use Rattle.hash_table.specs.declared.config.Config.{Config}
use Rattle.far_map.specs.Runs.{IsEndInOrder}
use Rattle.far_map.specs.Views.{View, Pairs}
use Rattle.wordcount.specs.Tops.{AreFirst, counted, print_cmp}

-- A table was opened, over devices that were honest or not. The map of one history with which its run ended has pairs of
-- words and counts. These words are the first of them, as many as there may be, in no order.
pub record AreCounted (honest : Bool) (most : ℕ) (words : List (ℕ × List ℕ)) : Type 0 where
  pub config : Config
  pub opened : WasOpened config
  pub passes : List (View (List ℕ))
  pub pairs : Pairs (List ℕ)
  pub ended : IsEndInOrder enc_text (limits_of (sizes_of config) honest) passes pairs
  pub first : AreFirst (λ one other. is_lt (print_cmp one other)) most (map counted pairs) words

-- a line: the count, a blank, the word, and LF
abbrev pub line_of : ℕ × List ℕ → List ℕ
line_of word = decimal word.0 ++ 32 ∷ (word.1 ++ 10 ∷ [])

abbrev pub lines_of : List (ℕ × List ℕ) → List ℕ
lines_of [] = []
lines_of (word ∷ words) = line_of word ++ lines_of words

-- a word with its count, as it is kept
abbrev pub word_in : Reverse ℕ × Vec ℕ Global → ℕ × List ℕ
word_in word = (word.0.0, word.1.items)

-- words were counted, and these are they, in the order of printing
pub record ArePrinted (honest : Bool) (most : ℕ) (words : List (ℕ × List ℕ)) : Type 0 where
  pub kept : List (ℕ × List ℕ)
  pub are_counted : AreCounted honest most kept
  pub printed : List (Reverse ℕ × Vec ℕ Global)
  pub words_are : words ≡ map word_in printed
  pub same : IsPermutation kept (map word_in printed)
  pub sorted : IsSorted (λ one other. print_cmp (word_in one) (word_in other)) printed
