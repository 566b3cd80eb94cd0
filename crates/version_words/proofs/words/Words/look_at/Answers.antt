use Rattle.std.proofs.Common.{◌∙◌, sym, ap}
use Rattle.version_words.specs.declared.entry.Entry.TheVariants.{Happened}
use Rattle.table_core.specs.declared.event.Event.TheVariants.{Enter}
use Rattle.version_words.proofs.Entries.{prefix_events}
use Rattle.version_words.proofs.Stepping.{looks_moves}
use Rattle.version_words.proofs.words.Words.look_at.Goals as goal

pub load-found-requires : goal.load-found-requires
load-found-requires g c =
    let word = c.word-word.ensures in
    let offer = c.offer-offer.ensures in (
      ap (λ w. w.tracked) word,
      c.mark.invariant.0 ∙ sym (ap (λ w. w.book) word),
      offer.0,
      rw (ap (λ w. w.key) word, offer.1, offer.3) (looks_moves g.K.FarObject.enc g.V.FarObject.enc g.J.Naming.limits c.mark.inside.seen.log c.args.k (Happened (Enter 0)) c.mark.invariant.2 c.requires.there),
    )

pub returns-clause-grows : goal.returns-clause-grows
returns-clause-grows g c = rw (← c.mark.view_is) (prefix_events c.mark.inside.seen.log c.load-found.new.seen.log c.load-found.ensures.5)
