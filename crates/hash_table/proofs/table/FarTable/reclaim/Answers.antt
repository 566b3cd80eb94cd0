use Rattle.hash_table.specs.Reclaims.{was_tried, was_reclaimed}
use Rattle.hash_table.proofs.table.FarTable.reclaim.Goals as goal

pub returns-in-16777214-clause-tried : goal.returns-in-16777214-clause-tried
returns-in-16777214-clause-tried g c = was_tried c.args.spare

pub returns-in-16777214-clause-reclaimed : goal.returns-in-16777214-clause-reclaimed
returns-in-16777214-clause-reclaimed g c = was_reclaimed c.args.spare

pub returns-in-Ok-clause-tried : goal.returns-in-Ok-clause-tried
returns-in-Ok-clause-tried g c = was_tried c.args.spare

pub returns-in-Ok-clause-reclaimed : goal.returns-in-Ok-clause-reclaimed
returns-in-Ok-clause-reclaimed g c = was_reclaimed c.args.spare

pub returns-in-Ok-reclaim_frame-clause-tried : goal.returns-in-Ok-reclaim_frame-clause-tried
returns-in-Ok-reclaim_frame-clause-tried g c = was_tried c.args.spare

pub returns-in-Ok-reclaim_frame-clause-reclaimed : goal.returns-in-Ok-reclaim_frame-clause-reclaimed
returns-in-Ok-reclaim_frame-clause-reclaimed g c = was_reclaimed c.args.spare

pub returns-in-Err-Memory-clause-tried : goal.returns-in-Err-Memory-clause-tried
returns-in-Err-Memory-clause-tried g c = was_tried c.args.spare

pub returns-in-Err-Device-clause-tried : goal.returns-in-Err-Device-clause-tried
returns-in-Err-Device-clause-tried g c = was_tried c.args.spare

pub returns-in-Err-clause-tried : goal.returns-in-Err-clause-tried
returns-in-Err-clause-tried g c = was_tried c.args.spare
