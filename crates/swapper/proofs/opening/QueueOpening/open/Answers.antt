use Rattle.swapper.proofs.Moves.{begins}
use Rattle.swapper.proofs.opening.QueueOpening.open.Goals as goal

pub ruled-requires-clause-rule : goal.ruled-requires-clause-rule
ruled-requires-clause-rule g c = begins
