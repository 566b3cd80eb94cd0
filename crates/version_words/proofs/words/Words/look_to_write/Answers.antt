use Rattle.std.proofs.Common.{◌∙◌, sym, ap}
use Rattle.version_words.specs.declared.entry.Entry.TheVariants.{Happened}
use Rattle.table_core.specs.declared.event.Event.TheVariants.{Enter}
use Rattle.version_words.proofs.Entries.{prefix_events}
use Rattle.version_words.proofs.Stepping.{exchange_looks_moves}
use Rattle.version_words.proofs.words.Words.look_to_write.Goals as goal

pub compare_exchange-found-requires : goal.compare_exchange-found-requires
compare_exchange-found-requires g c =
    let word = c.word-word.ensures in
    let offer = c.offer-offer.ensures in
    let pen = c.no_pen-pen.ensures in (
      ap (λ w. w.tracked) word,
      c.mark.invariant.0 ∙ sym (ap (λ w. w.book) word),
      pen.0 ∙ (c.mark.invariant.0 ∙ sym (ap (λ w. w.book) word)),
      offer.0,
      rw (ap (λ w. w.key) word, pen.1, offer.1, offer.3) (exchange_looks_moves g.K.FarObject.enc g.V.FarObject.enc g.J.Naming.limits c.mark.inside.seen.log c.args.k (Happened (Enter 0)) c.mark.invariant.2 c.requires.there),
    )

pub returns-clause-grows : goal.returns-clause-grows
returns-clause-grows g c = rw (← c.mark.view_is) (prefix_events c.mark.inside.seen.log c.compare_exchange-found.new.seen.log c.compare_exchange-found.ensures.6)
