use Rattle.std.proofs.Common.{◌≡◌, ◌∙◌, ℕ, refl}
use Rattle.far_object.specs.Buckets.{bucket}
use Rattle.table_core.specs.BucketWords.{far_place}
use Rattle.hash_table.specs.Steps.{IsInFrame}
use Rattle.hash_table.proofs.Steps.{moved_over, unread_left}
use Rattle.hash_table.proofs.Places.{nothing_near, frame_near}
use Rattle.hash_table.proofs.Fronts.{goes_trans}
use Rattle.hash_table.proofs.Refused.{unread_far_refused, unpublished_refused}
use Rattle.hash_table.proofs.Moving.{near_seen}
use Rattle.hash_table.proofs.table.FarTable.fetch.Goals as goal

pub returns-in-Nothing-clause-fetched : goal.returns-in-Nothing-clause-fetched
returns-in-Nothing-clause-fetched g c = (near_seen g.K.FarObject.enc g.V.FarObject.enc g.J.Naming.limits c.look-word.new.pass c.bucket-b.result _ c.look-word.result c.bucket-b.ensures.is c.look-word.ensures.word (nothing_near c.look-word.result c.in-Nothing.ensures), refl)

pub returns-in-Frame-clause-fetched : goal.returns-in-Frame-clause-fetched
returns-in-Frame-clause-fetched g c =
    let e = c.in-Frame.ensures in
    (near_seen g.K.FarObject.enc g.V.FarObject.enc g.J.Naming.limits c.look-word.new.pass c.bucket-b.result _ c.look-word.result c.bucket-b.ensures.is c.look-word.ensures.word (frame_near c.look-word.result _ e.1 e.2), refl)

pub returns-in-Ok-publish_local-clause-fetched : goal.returns-in-Ok-publish_local-clause-fetched
returns-in-Ok-publish_local-clause-fetched g c =
    let e = c.in-Ok-publish_local.ensures in
    let f = e.follows in
    let far = c.in-Device.ensures.1 in
    moved_over g.K.FarObject.enc g.J.Naming.limits c.bucket-b.result _ c.look-word.result f.0 (λ (p : ℕ). p ≡ far_place) (IsInFrame c.args.self.now.frames (bucket g.K.FarObject.enc g.J.Naming.limits.buckets c.args.key.now))
    c.args.caller.now.limbo c.count-in-Ok-publish_local.new.self c.look-word.ensures.pass c.bucket-b.ensures.is far (rw (← c.bucket-b.ensures.is) f.1) f.2 (c.count-in-Ok-publish_local.ensures ∙ rw c.count-2.ensures at e.left)

pub returns-clause-refused : goal.returns-clause-refused
returns-clause-refused g c = unpublished_refused g.K.FarObject.enc g.V.FarObject.enc g.J.Naming.limits c.bucket-b.result _ c.look-word.result c.in-Err-publish_local.refusal c.look-word.ensures.pass c.in-Err-publish_local.ensures.goes c.bucket-b.ensures.is c.look-word.ensures.word c.in-Err-publish_local.ensures.why

pub returns-in-Err-clause-refused : goal.returns-in-Err-clause-refused
returns-in-Err-clause-refused g c = unread_far_refused g.K.FarObject.enc g.V.FarObject.enc g.J.Naming.limits c.args.caller.now.pass c.look-word.new.pass _ c.in-Err.refusal c.in-Err.ensures.why

pub returns-in-Ok-publish_local-clause-goes : goal.returns-in-Ok-publish_local-clause-goes
returns-in-Ok-publish_local-clause-goes g c = goes_trans c.look-word.ensures.pass c.in-Ok-publish_local.ensures.made

pub returns-clause-goes : goal.returns-clause-goes
returns-clause-goes g c = goes_trans c.look-word.ensures.pass c.in-Err-publish_local.ensures.goes

pub returns-in-Err-clause-given_up : goal.returns-in-Err-clause-given_up
returns-in-Err-clause-given_up g c = unread_left g.J.Naming.limits.honest _ _ _ _ c.in-Err.refusal c.in-Err.ensures.why c.count.ensures
