use Rattle.far_map.proofs.map_run.over_row.Given as goal

-- the queue that was just opened
abbrev pub ghosts-over_queue : goal.ghosts-over_queue
ghosts-over_queue g a = record { table = a.queue.table }
