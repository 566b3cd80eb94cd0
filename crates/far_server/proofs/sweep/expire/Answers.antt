use Rattle.std.proofs.Common.{IsTrue, Ok, Err}
use Rattle.far_server.proofs.Swept.{expires}
use Rattle.far_server.proofs.sweep.expire.Goals as goal

pub returns-in-Ok : goal.returns-in-Ok
returns-in-Ok g c evicts =
    let is_true : IsTrue c.is_over.result = search in
    expires g.S.Calls.limits evicts (g.S.Calls.shown c.args.me.now) (g.S.Calls.shown c.remove_if.new.self) (record {
      key = c.args.key.now;
      expired = c.args.value.now;
      now = c.args.now;
      looked = c.requires;
      is_over = c.is_over.ensures is_true;
      result = Ok c.in-Ok.removal;
      called = record { answers = c.in-Ok.ensures.answers; counts = record { stats = c.in-Ok.ensures.counts.stats; limit = c.in-Ok.ensures.counts.limit } };
      met = c.in-Ok.ensures.met;
    })

pub returns-in-Err : goal.returns-in-Err
returns-in-Err g c evicts =
    let is_true : IsTrue c.is_over.result = search in
    expires g.S.Calls.limits evicts (g.S.Calls.shown c.args.me.now) (g.S.Calls.shown c.remove_if.new.self) (record {
      key = c.args.key.now;
      expired = c.args.value.now;
      now = c.args.now;
      looked = c.requires;
      is_over = c.is_over.ensures is_true;
      result = Err c.in-Err.why;
      called = record { answers = c.in-Err.ensures.answers; counts = record { stats = c.in-Err.ensures.counts.stats; limit = c.in-Err.ensures.counts.limit } };
      met = tt;
    })
