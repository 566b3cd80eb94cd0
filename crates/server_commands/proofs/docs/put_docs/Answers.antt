use Rattle.std.proofs.Common.{false, arith}
use Rattle.server_commands.proofs.Growing.{asked_more, asked_less, asked_all, even_is_one}
use Rattle.server_commands.proofs.docs.put_docs.Goals as goal
use Rattle.server_commands.proofs.docs.put_docs.Goals.{then-asked-index+in_ok-put_doc, else-asked-index}

pub loop-index-preserved : goal.loop-index-preserved
loop-index-preserved c =
    elim c.if-asked-index.branch [
      | then-asked-index+in_ok-put_doc w ↦ rw w.out-is (asked_more c.args.asked.now c.loop-index.index false _ _ _ (omega arith) w.if-asked-index.true c.loop-index.invariant w.in_ok-put_doc.ensures.done)
      | else-asked-index w ↦ rw w.out-is (asked_less c.args.asked.now c.loop-index.index false _ _ (omega arith) w.if-asked-index.false c.loop-index.invariant)
    ]

pub returns-clause-done : goal.returns-clause-done
returns-clause-done c = even_is_one _ _ (asked_all c.args.asked.now c.loop-index.index _ _ _ _ (omega arith) c.count_asked.ensures c.in_ok-put_count.ensures.done c.loop-index.invariant)
