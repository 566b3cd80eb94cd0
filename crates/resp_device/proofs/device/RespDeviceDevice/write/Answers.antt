use Rattle.resp_device.proofs.Calls.{writes_ok, writes_no_more, writes_failed, written_whole}
use Rattle.resp_device.proofs.device.RespDeviceDevice.write.Goals as goal

pub returns-in-Err-clause-writes : goal.returns-in-Err-clause-writes
returns-in-Err-clause-writes g c =
    writes_failed c.args.self.now.index.objects.entries c.remove.new.self.objects.entries c.args.self.now.failures.count c.add-in-Err.new.self.count c.args.id c.args.bytes.now c.add-in-Err.result c.add-in-Err.ensures.failed c.remove.ensures c.add-in-Err.ensures.counted

pub returns-in-Err-enter-clause-writes : goal.returns-in-Err-enter-clause-writes
returns-in-Err-enter-clause-writes g c =
    writes_no_more c.args.self.now.index.objects.entries c.remove.new.self.objects.entries c.enter.new.self.objects.entries c.args.self.now.failures.count c.args.id c.args.bytes.now c.remove.ensures c.in-Err-enter.ensures.refused

pub returns-in-Ok-clause-writes : goal.returns-in-Ok-clause-writes
returns-in-Ok-clause-writes g c =
    let same = written_whole c.of-kept.result c.args.bytes.now c.clear.new.self.items c.extend_from_slice.new.self.items c.of-kept.ensures.written c.in_ok-extend_from_slice.ensures.items c.clear.ensures.items in
    writes_ok c.args.self.now.index.objects.entries c.remove.new.self.objects.entries c.enter.new.self.objects.entries c.args.self.now.failures.count c.args.id c.of-kept.result c.args.bytes.now same c.remove.ensures c.in-Ok.ensures.entered
