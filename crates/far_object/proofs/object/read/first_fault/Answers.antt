use Rattle.std.proofs.Common.{◌-◌, nat_eq, Bool, ap, sym, ◌∙◌, refl, length, take, drop}
use Rattle.far_object.specs.Faults.{fault_of, fault_in}
use Rattle.far_object.proofs.Faulting.{at_key, disorder, short_value, next_pair, not_first}
use Rattle.far_object.proofs.object.read.first_fault.Goals as goal

pub returns-then-not-may_follow-clause-first : goal.returns-then-not-may_follow-clause-first
returns-then-not-may_follow-clause-first g c =
    let h = at_key g.K.FarObject.enc g.V.FarObject.enc g.K.FarObject.dec g.V.FarObject.dec g.K.FarObject.admits g.K.FarObject.laws (fault_of g.K.FarObject.enc g.V.FarObject.enc g.K.FarObject.dec g.V.FarObject.dec c.args.bytes.now) c.loop-i.invariant.0 c.loop-i.i c.from_be_bytes-count.result c.in-Ok.own (nat_eq c.loop-i.i 0) c.loop-i.last.now c.loop-i.rest.now c.split_at.result.0.now c.split_at.result.1.now c.loop-i.invariant.1 c.loop-i-test.true c.loop-i.invariant.2 c.in-Ok.ensures.is c.in-Ok.ensures.bytes c.split_at.ensures.front c.split_at.ensures.back in
    disorder g.K.FarObject.enc g.V.FarObject.enc g.K.FarObject.dec g.V.FarObject.dec g.K.FarObject.admits g.K.FarObject.laws (fault_of g.K.FarObject.enc g.V.FarObject.enc g.K.FarObject.dec g.V.FarObject.dec c.args.bytes.now) c.loop-i.i c.from_be_bytes-count.result (nat_eq c.loop-i.i 0) c.loop-i.last.now c.split_at.result.0.now c.split_at.result.1.now h c.may_follow.result c.may_follow.ensures c.if-not-may_follow.true

pub returns-in-Err-skip_within-clause-first : goal.returns-in-Err-skip_within-clause-first
returns-in-Err-skip_within-clause-first g c =
    let h = at_key g.K.FarObject.enc g.V.FarObject.enc g.K.FarObject.dec g.V.FarObject.dec g.K.FarObject.admits g.K.FarObject.laws (fault_of g.K.FarObject.enc g.V.FarObject.enc g.K.FarObject.dec g.V.FarObject.dec c.args.bytes.now) c.loop-i.invariant.0 c.loop-i.i c.from_be_bytes-count.result c.in-Ok.own (nat_eq c.loop-i.i 0) c.loop-i.last.now c.loop-i.rest.now c.split_at.result.0.now c.split_at.result.1.now c.loop-i.invariant.1 c.loop-i-test.true c.loop-i.invariant.2 c.in-Ok.ensures.is c.in-Ok.ensures.bytes c.split_at.ensures.front c.split_at.ensures.back in
    short_value g.K.FarObject.enc g.V.FarObject.enc g.K.FarObject.dec g.V.FarObject.dec g.K.FarObject.admits g.K.FarObject.laws (fault_of g.K.FarObject.enc g.V.FarObject.enc g.K.FarObject.dec g.V.FarObject.dec c.args.bytes.now) c.loop-i.i c.from_be_bytes-count.result (nat_eq c.loop-i.i 0) c.loop-i.last.now c.split_at.result.0.now c.split_at.result.1.now h c.may_follow.result c.may_follow.ensures c.if-not-may_follow.false c.in-Err-skip_within.field-0 c.in-Err-skip_within.ensures.is

pub loop-i-preserved : goal.loop-i-preserved
loop-i-preserved g c =
    let h = at_key g.K.FarObject.enc g.V.FarObject.enc g.K.FarObject.dec g.V.FarObject.dec g.K.FarObject.admits g.K.FarObject.laws (fault_of g.K.FarObject.enc g.V.FarObject.enc g.K.FarObject.dec g.V.FarObject.dec c.args.bytes.now) c.loop-i.invariant.0 c.loop-i.i c.from_be_bytes-count.result c.in-Ok.own (nat_eq c.loop-i.i 0) c.loop-i.last.now c.loop-i.rest.now c.split_at.result.0.now c.split_at.result.1.now c.loop-i.invariant.1 c.loop-i-test.true c.loop-i.invariant.2 c.in-Ok.ensures.is c.in-Ok.ensures.bytes c.split_at.ensures.front c.split_at.ensures.back in
    let rest = take (length c.split_at.result.1.now - c.in-Ok-skip_within.size) (drop c.in-Ok-skip_within.size c.split_at.result.1.now) in (
      h.n,
      h.count_is,
      ap (λ (z : Bool). fault_in g.K.FarObject.enc g.V.FarObject.enc g.K.FarObject.dec g.V.FarObject.dec h.n z c.split_at.result.0.now rest) (sym (not_first g.K.FarObject.enc g.V.FarObject.enc g.K.FarObject.dec g.V.FarObject.dec g.K.FarObject.admits g.K.FarObject.laws c.loop-i.i))
          ∙ next_pair g.K.FarObject.enc g.V.FarObject.enc g.K.FarObject.dec g.V.FarObject.dec g.K.FarObject.admits g.K.FarObject.laws (fault_of g.K.FarObject.enc g.V.FarObject.enc g.K.FarObject.dec g.V.FarObject.dec c.args.bytes.now) c.loop-i.i c.from_be_bytes-count.result (nat_eq c.loop-i.i 0) c.loop-i.last.now c.split_at.result.0.now c.split_at.result.1.now h c.may_follow.result c.may_follow.ensures c.if-not-may_follow.false c.in-Ok-skip_within.size rest c.in-Ok-skip_within.ensures.is refl,
    )
