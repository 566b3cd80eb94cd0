use Rattle.std.proofs.Common.{◌∙◌, sym}
use Rattle.swapper.proofs.Settles.{settled_more, settled_rest, settled_went, settled_few, settled_none_left}
use Rattle.swapper.proofs.queue.SpareQueue.settle.Goals as goal

pub returns : goal.returns
returns g c =
    let s = c.left.invariant.settled in
    let none = c.in_default.ensures.limbo in record {
      most = (settled_few _ _ _ _ _ s).0;
      rest = none.1 ∙ (sym none.0 ∙ settled_rest _ _ _ _ _ s);
      went = settled_went _ _ _ _ _ s;
      full = λ more. absurd (settled_none_left _ _ _ _ _ s none.0 more);
      pass = c.take_spare.ensures.pass ∙ c.left.invariant.pass;
    }

pub left-preserved : goal.left-preserved
left-preserved g c = record {
  settled = settled_more _ c.left.caller.limbo c.take_spare.new.self.limbo c.left.went c.in-Some.oldest _ c.left.seat c.hand_over.new.seat c.left.invariant.settled c.in-Some.ensures.limbo c.in_default-hand_over.ensures;
  pass = c.in-Some.ensures.pass ∙ c.left.invariant.pass;
  few = c.left.invariant.few;
}
