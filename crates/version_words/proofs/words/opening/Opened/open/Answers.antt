use Rattle.version_words.specs.Rows.{limits_of}
use Rattle.version_words.proofs.Offers.{kept_calm}
use Rattle.version_words.proofs.Opening.{fresh_kept}
use Rattle.version_words.proofs.words.opening.Opened.open.Goals as goal

pub open_row-seen-requires : goal.open_row-seen-requires
open_row-seen-requires g c = (
  fresh_kept _ _ g.K.FarObject.enc g.V.FarObject.enc (limits_of c.args.sizes g.H.Honesty.honest),
  kept_calm _ _ c.start.result.names,
  c.start.ensures,
)
