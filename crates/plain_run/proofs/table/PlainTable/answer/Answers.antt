use Rattle.std.proofs.Common.{refl}
use Rattle.run_lines.specs.Calls.{operation_of}
use Rattle.table_core.specs.Machines.{buckets_of}
use Rattle.plain_run.proofs.Calls.{found, checked, check_refused, unmade, unchanged_fits, changed_fits, vain_same, is_contents, install_refused, installed}
use Rattle.plain_run.proofs.table.PlainTable.answer.Goals as goal

pub returns-in-Err : goal.returns-in-Err
returns-in-Err c = λ log at room.
    let o = operation_of c.args.command.now in
    let at_key = found c.bucket_of-bucket.result c.buckets.result (buckets_of c.args.self.now.machine) c.key_of.result.now o c.bucket_of-bucket.ensures c.key_of.ensures c.buckets.ensures.is c.buckets.ensures.some in
    unmade c.args.self.now log at o c.bucket_of-bucket.result at_key.0 at_key.1 c.in-Err.refusal c.in-Err.ensures

pub for_memory-requires : goal.for_memory-requires
for_memory-requires c =
    let o = operation_of c.args.command.now in
    let at_key = found c.bucket_of-bucket.result c.buckets.result (buckets_of c.args.self.now.machine) c.key_of.result.now o c.bucket_of-bucket.ensures c.key_of.ensures c.buckets.ensures.is c.buckets.ensures.some in
    let made = rw c.in_default.is at c.in-Ok.ensures in
    let refused = c.in-Err-call.ensures.refused c.requires.stands.0 c.requires.stands.1.machine in
    check_refused c.args.self.now c.requires.stands.0 c.requires.stands.1 o c.bucket_of-bucket.result c.in-Err-call.fault.rule at_key.0 at_key.1 made.0 refused.breaks

pub returns-in-Ok-call : goal.returns-in-Ok-call
returns-in-Ok-call c = λ log at room.
    let o = operation_of c.args.command.now in
    let at_key = found c.bucket_of-bucket.result c.buckets.result (buckets_of c.args.self.now.machine) c.key_of.result.now o c.bucket_of-bucket.ensures c.key_of.ensures c.buckets.ensures.is c.buckets.ensures.some in
    let made = rw c.in_default.is at c.in-Ok.ensures in
    checked c.args.self.now log at c.call.new.machine o c.in-Ok-call.answer (c.in-Ok-call.ensures.ok log at.machine) (unchanged_fits c.args.self.now log at o c.bucket_of-bucket.result at_key.0 at_key.1 made.1)

pub draw-requires-clause-contents : goal.draw-requires-clause-contents
draw-requires-clause-contents c =
    let o = operation_of c.args.command.now in
    let at_key = found c.bucket_of-bucket.result c.buckets.result (buckets_of c.args.self.now.machine) c.key_of.result.now o c.bucket_of-bucket.ensures c.key_of.ensures c.buckets.ensures.is c.buckets.ensures.some in
    let made = rw c.in-Some.is at c.in-Ok.ensures in
    is_contents c.args.self.now c.requires.stands.0 c.requires.stands.1 o c.bucket_of-bucket.result c.in-Some.object at_key.0 at_key.1 made.0

pub for_memory-requires-in-Err-call-2 : goal.for_memory-requires-in-Err-call-2
for_memory-requires-in-Err-call-2 c =
    let o = operation_of c.args.command.now in
    let at_key = found c.bucket_of-bucket.result c.buckets.result (buckets_of c.args.self.now.machine) c.key_of.result.now o c.bucket_of-bucket.ensures c.key_of.ensures c.buckets.ensures.is c.buckets.ensures.some in
    let made = rw c.in-Some.is at c.in-Ok.ensures in
    let drawn = c.in-Ok-draw.ensures.drawn c.requires.stands.0 c.requires.stands.1.machine in
    let refused = c.in-Err-call-2.ensures.refused _ drawn.1.stands in
    install_refused c.args.self.now c.requires.stands.0 c.requires.stands.1 o c.bucket_of-bucket.result c.in-Some.object at_key.0 at_key.1 made.0 c.draw.new.machine drawn.1 c.in-Ok-draw.word drawn.0 c.in-Err-call-2.fault.rule refused.breaks

pub returns-in-Err-call-2 : goal.returns-in-Err-call-2
returns-in-Err-call-2 c = λ log at room.
    let o = operation_of c.args.command.now in
    let at_key = found c.bucket_of-bucket.result c.buckets.result (buckets_of c.args.self.now.machine) c.key_of.result.now o c.bucket_of-bucket.ensures c.key_of.ensures c.buckets.ensures.is c.buckets.ensures.some in
    let made = rw c.in-Some.is at c.in-Ok.ensures in
    let drawn = c.in-Ok-draw.ensures.drawn log at.machine in
    vain_same c.args.self.now log at o c.bucket_of-bucket.result c.in-Some.object at_key.0 at_key.1 made.0 c.draw.new.machine drawn.1 c.call-2.new.machine c.in-Err-call-2.ensures.err c.for_memory-in-Err-call-2.result c.for_memory-in-Err-call-2.ensures

pub returns : goal.returns
returns c = λ log at room.
    let o = operation_of c.args.command.now in
    let at_key = found c.bucket_of-bucket.result c.buckets.result (buckets_of c.args.self.now.machine) c.key_of.result.now o c.bucket_of-bucket.ensures c.key_of.ensures c.buckets.ensures.is c.buckets.ensures.some in
    let made = rw c.in-Some.is at c.in-Ok.ensures in
    let drawn = c.in-Ok-draw.ensures.drawn log at.machine in
    installed c.args.self.now log at o c.bucket_of-bucket.result c.in-Some.object at_key.0 at_key.1 made.0 c.draw.new.machine drawn.1 c.in-Ok-draw.word drawn.0 c.call-2.new.machine c.in-Ok-call-2.answer (c.in-Ok-call-2.ensures.ok _ drawn.1.stands)
    (changed_fits c.args.self.now log at o c.bucket_of-bucket.result at_key.0 at_key.1 c.in-Some.object made.0 made.1) _ refl refl refl
