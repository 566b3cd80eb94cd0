use Rattle.std.proofs.Common.{[]}
use Rattle.hash_table.proofs.table.FarTable.hand_bucket.Goals as goal

pub returns-in-Err-clause-fault : goal.returns-in-Err-clause-fault
returns-in-Err-clause-fault g c = λ n. (c.unread.ensures n, ([], g.met.T.TakesPairs.takes_none c.args.taker.now, tt))
