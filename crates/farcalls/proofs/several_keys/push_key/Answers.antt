use Rattle.farcalls.proofs.Several.{of_keys}
use Rattle.farcalls.proofs.several_keys.push_key.Goals as goal

pub returns-in-Err-clause-fault : goal.returns-in-Err-clause-fault
returns-in-Err-clause-fault c = of_keys c.args.key.now c.in-Err.why c.in-Err.ensures.fault
