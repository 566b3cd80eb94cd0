-- A right that is shut for good: its tally lies at no install under an invariant, whose number is past the book's.
use Rattle.std.specs.Prelude.{ℕ, ◌+◌, ◌<◌, ◌≡◌, List}
use base.Fml.{Fml, fsep, fex, fnamed}
use Rattle.logbook.specs.Pages.{Book}
use Rattle.logbook.specs.Kept.{fact}
use Rattle.table_core.specs.declared.event.Event.{Event}
use Rattle.table_core.specs.declared.limits.Limits.{Limits}
use Rattle.table_core.specs.BucketWords.{name_of}
use Rattle.version_words.specs.declared.spare.Reason.{Reason}
use Rattle.version_words.specs.declared.spare.Reason.TheVariants.{Replaced, GivenUp}
use Rattle.version_words.specs.Boards.{tally, board_at}
use Rattle.version_words.specs.Views.{IsGone}

abbrev pub shut_at : Book → ℕ → ℕ → ℕ → Fml
shut_at b ρ n j = fsep (fact (b.number < j)) (fnamed j (tally ρ n 0))

abbrev pub shut_owns : Book → ℕ → ℕ → Fml
shut_owns b ρ n = fex ℕ (shut_at b ρ n)

-- the right of the name is shut
pub record IsShut (book : Book) (names : List ℕ) (number : ℕ) (shut_book : Book) (board key : ℕ) : Type 0 where
  pub book_is : shut_book ≡ book
  pub board_is : board ≡ board_at names 1
  pub key_is : key + 1 ≡ number

module _ {K V : Type 0} (ek : K → List ℕ) (ev : V → List ℕ) (l : Limits) where
  -- the word was replaced, or the right of its name is shut
  abbrev pub HasReason : Book → List ℕ → List (Event K V) → ℕ → ℕ → Reason → Type 0
  HasReason book names log b w Replaced = IsGone ek ev l log b w
  HasReason book names log b w (GivenUp s) = IsShut book names (name_of w) s.book s.board s.key
