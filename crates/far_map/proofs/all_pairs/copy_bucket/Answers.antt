use Rattle.std.proofs.Common.{◌∙◌}
use Rattle.hash_table.proofs.Fronts.{goes_trans}
use Rattle.far_map.proofs.all_pairs.copy_bucket.Goals as goal

pub returns-in-Ok-clause-goes : goal.returns-in-Ok-clause-goes
returns-in-Ok-clause-goes g c = goes_trans c.loop.invariant.0 c.pairs_in.ensures.goes

pub returns-in-Ok-clause-limbo : goal.returns-in-Ok-clause-limbo
returns-in-Ok-clause-limbo g c = c.pairs_in.ensures.limbo ∙ c.loop.invariant.1
