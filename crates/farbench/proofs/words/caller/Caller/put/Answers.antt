use Rattle.version_words.proofs.Fronts.{prefix_self}
use Rattle.farbench.proofs.words.caller.Caller.put.Goals as goal

pub install-requires-clause-newer : goal.install-requires-clause-newer
install-requires-clause-newer g c =
    let caller = c.args.self.now in
    c.in-Ok.ensures.newer caller.last_word (caller.pass.front, prefix_self caller.pass.front, caller.stands)
