use Rattle.std.proofs.Common.{sym}
use Rattle.version_words.proofs.Fronts.{prefix_self}
use Rattle.row_player.proofs.words.threads.one_try.Goals as goal

pub install-requires-clause-newer : goal.install-requires-clause-newer
install-requires-clause-newer g c = c.in-Ok.ensures.newer c.look-old.result (c.look-old.new.pass.front, prefix_self c.look-old.new.pass.front, sym c.look-old.ensures.word)
