use Rattle.version_words.specs.Shuts.{IsShut}
use Rattle.table_core.specs.BucketWords.{name_of}
use Rattle.version_words.specs.Tallies.{events}
use Rattle.version_words.proofs.Gone.{never_stands}
use Rattle.version_words.proofs.spare.Spare.is_gone.Goals as goal

pub returns-in-GivenUp : goal.returns-in-GivenUp
returns-in-GivenUp g c = record {
  gone = λ pre.
      let shut : IsShut g.J.Naming.book g.J.Naming.names (name_of c.self.inside.word) c.in-GivenUp.shut.book c.in-GivenUp.shut.board c.in-GivenUp.shut.key = rw c.in-GivenUp.is at c.self.invariant.1 in
      rw (← c.self.view_is, ← c.mark.view_is) (never_stands g.K.FarObject.enc g.V.FarObject.enc g.J.Naming.limits (events c.mark.inside.seen.log) c.self.inside.bucket c.self.inside.word c.in-GivenUp.shut.key c.never.ensures shut.key_is);
}
