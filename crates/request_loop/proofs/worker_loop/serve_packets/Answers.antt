use Rattle.std.proofs.Common.{◌≡◌, [], Ok, ap, sym, ◌∙◌, subst, rules}
use Rattle.resp.specs.declared.limits.Limits.{Limits}
use Rattle.request_loop.specs.Workers.{AreSettled}
use Rattle.request_loop.specs.Slots.{Views}
use Rattle.request_loop.specs.Standing.{Standing}
use Rattle.request_loop.proofs.Framing.{settled, stands_faulty}
use Rattle.request_loop.proofs.Resuming.{resumes, nothing_came, packet_came, went_on, fails_on}
use Rattle.request_loop.proofs.worker_loop.serve_packets.Goals as goal

pub loop-round-init : goal.loop-round-init
loop-round-init g c =
    let empty : c.new-out.result.items ≡ [] = search rules in
    record {
      stands = λ start past h.
          let P : Views → Type 0 = λ v. Standing g.D.Duplex.tells c.limits-limits.result start c.args.duplex.now v past in
          resumes g.D.Duplex.tells g.S.Service.does c.limits-limits.result past start c.args.duplex.now c.args.service.now c.holds.inside.slots (subst P (sym c.holds.view_is) h);
      empty = empty;
      limits = sym c.limits-limits.ensures;
      limits_then = sym c.limits-limits.ensures;
    }

pub read-requires : goal.read-requires
read-requires g c =
    let inv = c.loop-round.invariant in
    let L = c.limits-limits.result in
    let A : Limits → Type 0 = λ k. Standing g.D.Duplex.tells k c.requires.0 c.args.duplex.now c.args.holds c.requires.1 in
    let s = inv.stands c.requires.0 c.requires.1 (subst A inv.limits_then c.requires.2) in
    let P : Limits → Type 0 = λ k. AreSettled k s.came s.sent in
    record { settled = (c.requires.0, s.came, s.sent, s.told, subst P (sym inv.limits) (settled L c.loop-round.slots s.came s.sent _ s.stand)) }

pub returns-in-Ok-None-clause-stood : goal.returns-in-Ok-None-clause-stood
returns-in-Ok-None-clause-stood g c =
    let kept = nothing_came g.D.Duplex.tells c.loop-round.duplex c.read.new.self c.read.new.room.items c.in-Ok-None.field-0 c.in-Ok-None.field-0-is c.in-Ok-None.ensures.came in
    went_on g.D.Duplex.tells g.S.Service.does c.limits-limits.result (g.D.Duplex.limits c.args.duplex.now) c.args.duplex.now c.loop-round.duplex c.read.new.self c.args.service.now c.loop-round.service c.args.holds c.loop-round.slots c.loop-round.invariant.limits_then kept c.loop-round.invariant.stands

pub returns-in-Err-clause-fault : goal.returns-in-Err-clause-fault
returns-in-Err-clause-fault g c =
    let L = c.limits-limits.result in
    fails_on g.D.Duplex.tells g.S.Service.does L (g.D.Duplex.limits c.args.duplex.now) c.args.duplex.now c.read.new.self c.args.service.now c.args.holds c.loop-round.invariant.limits_then
    (λ start past h. stands_faulty g.D.Duplex.tells g.S.Service.does L past start c.loop-round.duplex c.read.new.self c.args.service.now c.loop-round.service c.loop-round.slots (λ came sent told. c.in-Err.ensures.failed start came sent told) (c.loop-round.invariant.stands start past h))

pub returns-in-Ok-Leave-clause-stood : goal.returns-in-Ok-Leave-clause-stood
returns-in-Ok-Leave-clause-stood g c =
    let inv = c.loop-round.invariant in
    let L = c.limits-limits.result in
    went_on g.D.Duplex.tells g.S.Service.does L (g.D.Duplex.limits c.args.duplex.now) c.args.duplex.now c.take_packet.new.duplex c.take_packet.new.duplex c.args.service.now c.take_packet.new.service c.args.holds c.take_packet.new.slots inv.limits_then (λ start came sent told. told)
    (λ start past h. c.in-Ok-Leave.ensures.stands start c.args.service.now past (packet_came g.D.Duplex.tells g.S.Service.does L past start c.loop-round.duplex c.read.new.self c.args.service.now c.loop-round.service c.loop-round.slots c.read.new.room.items c.as_slice.result.now c.in-Ok-Some.field-0 c.in-Ok-Some.head c.in-Ok-Some.field-0-is c.as_slice.ensures.value c.in-Ok-Some.ensures.came (inv.stands start past h)))

pub returns-in-Ok-Leave-clause-whole : goal.returns-in-Ok-Leave-clause-whole
returns-in-Ok-Leave-clause-whole g c =
    let same : c.take_packet.new.duplex ≡ c.read.new.self = c.in-Ok-Leave.ensures.leaves c.in-Ok-Leave.field-0-is in
    let W = λ (d : g.row.D.Denot). g.D.Duplex.whole d in
    subst W (sym same) c.in-Ok-Some.ensures.whole

pub returns-in-Err-take_packet-clause-fault : goal.returns-in-Err-take_packet-clause-fault
returns-in-Err-take_packet-clause-fault g c =
    let inv = c.loop-round.invariant in
    let L = c.limits-limits.result in
    fails_on g.D.Duplex.tells g.S.Service.does L (g.D.Duplex.limits c.args.duplex.now) c.args.duplex.now c.take_packet.new.duplex c.args.service.now c.args.holds inv.limits_then
    (λ start past h. c.in-Err-take_packet.ensures.begun start c.args.service.now past (packet_came g.D.Duplex.tells g.S.Service.does L past start c.loop-round.duplex c.read.new.self c.args.service.now c.loop-round.service c.loop-round.slots c.read.new.room.items c.as_slice.result.now c.in-Ok-Some.field-0 c.in-Ok-Some.head c.in-Ok-Some.field-0-is c.as_slice.ensures.value c.in-Ok-Some.ensures.came (inv.stands start past h)))

pub loop-round-preserved : goal.loop-round-preserved
loop-round-preserved g c =
    let inv = c.loop-round.invariant in
    let L = c.limits-limits.result in
    record {
      stands = λ start past h. c.in-Ok-Stay.ensures.stands start c.args.service.now past (packet_came g.D.Duplex.tells g.S.Service.does L past start c.loop-round.duplex c.read.new.self c.args.service.now c.loop-round.service c.loop-round.slots c.read.new.room.items c.as_slice.result.now c.in-Ok-Some.field-0 c.in-Ok-Some.head c.in-Ok-Some.field-0-is c.as_slice.ensures.value c.in-Ok-Some.ensures.came (inv.stands start past h));
      empty = c.empty-in-Ok-Stay-2.ensures;
      limits = c.in-Ok-Stay.ensures.limits ∙ (c.in-Ok-Some.ensures.limits ∙ inv.limits);
      limits_then = inv.limits_then;
    }

pub returns-clause-fault : goal.returns-clause-fault
returns-clause-fault g c =
    let L = c.limits-limits.result in
    fails_on g.D.Duplex.tells g.S.Service.does L (g.D.Duplex.limits c.args.duplex.now) c.args.duplex.now c.loop-round.duplex c.args.service.now c.args.holds c.loop-round.invariant.limits_then
    (λ start past h. stands_faulty g.D.Duplex.tells g.S.Service.does L past start c.loop-round.duplex c.loop-round.duplex c.args.service.now c.loop-round.service c.loop-round.slots (λ came sent told. told) (c.loop-round.invariant.stands start past h))

pub returns-in-Ok-Leave-clause-woken : goal.returns-in-Ok-Leave-clause-woken
returns-in-Ok-Leave-clause-woken g c = λ is. (c.loop-round.service, c.in-Ok-Leave.ensures.woken c.in-Ok-Leave.field-0-is)

pub returns-in-Ok-None-clause-ended : goal.returns-in-Ok-None-clause-ended
returns-in-Ok-None-clause-ended g c = λ is start past stood.
    let inv = c.loop-round.invariant in
    let A : Limits → Type 0 = λ k. Standing g.D.Duplex.tells k start c.args.duplex.now c.args.holds past in
    let s = inv.stands start past (subst A inv.limits_then stood) in
    c.read.ensures.end (c.in-Ok-None.is ∙ ap Ok c.in-Ok-None.field-0-is) start s.came s.sent s.told
