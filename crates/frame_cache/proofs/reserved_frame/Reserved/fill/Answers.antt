use Rattle.frame_cache.specs.Fills.{was_filled}
use Rattle.frame_cache.proofs.reserved_frame.Reserved.fill.Goals as goal

pub returns-clause-filled : goal.returns-clause-filled
returns-clause-filled g c = was_filled c.args.self c.args.version.bucket c.args.version.name
