use Rattle.version_words.proofs.Entries.{prefix_events}
use Rattle.version_words.proofs.mark.Mark.learn.Goals as goal

pub returns-clause-own : goal.returns-clause-own
returns-clause-own g c = rw (← c.self.view_is) (prefix_events c.self.inside.seen.log c.learn.new.self.log c.learn.ensures.2)

pub returns-clause-told : goal.returns-clause-told
returns-clause-told g c = rw (← c.other.view_is) (prefix_events c.other.inside.seen.log c.learn.new.self.log c.learn.ensures.3)
