use Rattle.hash_table.proofs.Fronts.{goes_self, goes_trans}
use Rattle.far_map.proofs.Carrying.{put_more, refused_more, puts_on}
use Rattle.far_map.proofs.load.put_one.Goals as goal

pub loop-preserved : goal.loop-preserved
loop-preserved g c = goes_trans c.loop.invariant (goes_trans c.in-Err.ensures.answers.goes c.make_way.ensures)

pub returns-in-Ok : goal.returns-in-Ok
returns-in-Ok g c = λ pairs first h. put_more g.V.FarObject.enc g.S.Calls.limits _ pairs first _ _ _ _ c.args.refused _ (puts_on pairs first _ _ c.args.refused h c.loop.invariant) c.in-Ok.ensures.answers

pub returns-then-stays : goal.returns-then-stays
returns-then-stays g c = λ pairs first h. refused_more g.V.FarObject.enc g.S.Calls.limits _ pairs first _ _ _ _ c.args.refused _ _ (puts_on pairs first _ _ c.args.refused h c.loop.invariant) c.in-Err.ensures.answers c.saturating_add.ensures

pub returns-in-Ok-put : goal.returns-in-Ok-put
returns-in-Ok-put g c = λ pairs first h. put_more g.V.FarObject.enc g.S.Calls.limits _ pairs first _ _ _ _ c.args.refused _ (puts_on pairs first _ _ c.args.refused h c.loop.invariant) c.in-Ok-put.ensures.answers

pub returns-in-Err-put : goal.returns-in-Err-put
returns-in-Err-put g c = λ pairs first h. refused_more g.V.FarObject.enc g.S.Calls.limits _ pairs first _ _ _ _ c.args.refused _ _ (puts_on pairs first _ _ c.args.refused h c.loop.invariant) c.in-Err-put.ensures.answers c.saturating_add-in-Err-put.ensures
