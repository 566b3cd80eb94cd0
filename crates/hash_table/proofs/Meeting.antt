-- Who reads a word and who finds a version have seen beginnings of one log, and so agree on its contents.
use Rattle.std.proofs.Common.{◌≡◌, ℕ, List, ap, sym, ◌∙◌}
use mathlib.Core.List.{IsPrefix}
use Rattle.table_core.specs.declared.event.Event.{Event}
use Rattle.table_core.specs.declared.limits.Limits.{Limits}
use Rattle.table_core.specs.BucketWords.{name_of}
use Rattle.table_core.specs.Logs.{contents}
use Rattle.table_core.specs.Lawful.{IsDrawn, IsLawful}
use Rattle.version_words.specs.Views.{WasSeen}
use Rattle.version_words.specs.Laws.{ContentsStay, SeenStay}

module _ {K V : Type 0} (ek : K → List ℕ) (ev : V → List ℕ) (l : Limits) where
  -- what a name was drawn for in one beginning is what its word says in another, where both begin one log
  pub met : (front mark both : List (Event K V)) (b c n w : ℕ) (es : List (K × V)) → ContentsStay K V ek ev → SeenStay K V ek ev → IsLawful ek ev l both → IsPrefix front both → IsPrefix mark both
      → WasSeen ek l.buckets front b w → IsDrawn mark n c → contents mark n ≡ es → n ≡ name_of w → es ≡ contents front (name_of w)
  met front mark both b c n w es stay seen lawful from_front from_mark was drawn is same =
      sym is ∙ (sym (stay l mark both n c lawful from_mark drawn) ∙ (ap (λ (m : ℕ). contents both m) same ∙ seen l front both b w lawful from_front was))
