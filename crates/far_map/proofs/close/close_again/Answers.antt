use Rattle.far_object.specs.Encodings.{enc_text}
use Rattle.far_pairs.specs.Bundles.{all_of}
use Rattle.hash_table.proofs.Ends.{back_trans}
use Rattle.far_map.proofs.Again.{closed_back}
use Rattle.far_map.proofs.close.close_again.Goals as goal

pub loop-preserved : goal.loop-preserved
loop-preserved g c = back_trans enc_text g.V.FarObject.enc g.J.Naming.limits c.args.callers.items c.loop.callers.items c.in-Err-Missed-default-default.back.items c.loop.invariant c.in-Err-Missed-default-default.ensures.back

pub returns-in-Ok-clause-closed : goal.returns-in-Ok-clause-closed
returns-in-Ok-clause-closed g c = closed_back g.V.FarObject.enc g.J.Naming.limits c.args.callers.items c.loop.callers.items (all_of c.in-Ok.bundles.items) c.loop.invariant c.in-Ok.ensures.closed
