-- What a round tells that goes on behind others.
use Rattle.std.proofs.Common.{◌≡◌, ℕ, List, IsTrue, sym, ◌∙◌}
use mathlib.Core.List.{IsPrefix}
use Rattle.table_core.specs.declared.event.Event.{Event}
use Rattle.table_core.specs.declared.limits.Limits.{Limits}
use Rattle.table_core.specs.declared.operation.Operation.{Operation}
use Rattle.table_core.specs.BucketWords.{name_of}
use Rattle.table_core.specs.Logs.{contents}
use Rattle.table_core.specs.Lawful.{IsLawful}
use Rattle.version_words.specs.Views.{PassView, Goes, WasSeen}
use Rattle.version_words.specs.Laws.{SeenStay}
use Rattle.hash_table.specs.Rounds.{IsRound}
use Rattle.hash_table.specs.declared.round.Round.{Round}
use Rattle.hash_table.specs.declared.round.Round.TheVariants.{Finished, Again}
use Rattle.hash_table.proofs.Fronts.{goes_trans, finished_from}

module _ {K V : Type 0} (ek : K → List ℕ) (ev : V → List ℕ) (l : Limits) where
  -- a round behind a pass that went on
  pub round_from : (old mid new : PassView K V) (o : Operation K V) (r : Round V) → Goes old mid → IsRound ek ev l mid o r new → IsRound ek ev l old o r new
  round_from old mid new o (Finished answer) goes h = finished_from ek ev l o answer goes h
  round_from old mid new o Again goes h = goes_trans goes h

  -- an object that was given back is still what the word says
  pub kept_stays : (front log : List (Event K V)) (b w : ℕ) (given kept : List (K × V)) → SeenStay K V ek ev → IsLawful ek ev l log → IsPrefix front log → WasSeen ek l.buckets front b w → kept ≡ given
      → (IsTrue l.honest → given ≡ contents front (name_of w)) → IsTrue l.honest → kept ≡ contents log (name_of w)
  kept_stays front log b w given kept stay lawful grows seen same is honest = same ∙ (is honest ∙ sym (stay l front log b w lawful grows seen))
