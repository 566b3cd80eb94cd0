use Rattle.std.proofs.Common.{arith, rules}
use Rattle.far_device.proofs.Shortened.{Keeps, Appends-shortened, same-shortened, known-shortened}
use Rattle.far_device.proofs.lying_device.LyingDeviceDevice.read.Goals as goal

pub returns-clause-reads : goal.returns-clause-reads
returns-clause-reads g c =
    let before = c.args.out.now.items in
    let read = c.read.new.out.items in
    let keeps : Keeps c.max.result before read = omega arith in
    record {
      found = search rules;
      appended = Appends-shortened c.in_ok-there.there c.max.result before read c.truncate.new.self.items keeps c.truncate.ensures.items c.in_ok-there.ensures.reads.appended;
      honest = λ never. cc;
      absent = same-shortened c.in_ok-there.there c.max.result before read c.truncate.new.self.items keeps c.truncate.ensures.items c.in_ok-there.ensures.reads.absent;
      fault = tt;
      kept = search rules;
      counted = search rules;
    }

pub returns-clause-lies : goal.returns-clause-lies
returns-clause-lies g c = λ honest.
    let keeps : Keeps c.max.result c.args.out.now.items c.read.new.out.items = omega arith in
    known-shortened c.in_ok-there.there _ c.max.result c.args.out.now.items c.read.new.out.items c.truncate.new.self.items keeps c.truncate.ensures.items (rw (← c.self.view_is) (c.in_ok-there.ensures.reads.honest honest))
