use Rattle.std.proofs.Common.{refl, inl, subst, length, Some, None, List}
use Rattle.hash_table.specs.Calls.{AtMostOneMore}
use Rattle.hash_table.proofs.Fronts.{goes_trans}
use Rattle.swapper.proofs.Collecting.{asked_goes}
use Rattle.swapper.proofs.clock.Clock.give_up.Goals as goal

pub returns-in_default-clause-goes : goal.returns-in_default-clause-goes
returns-in_default-clause-goes g c =
    let w = c.in_default.ensures.walked in
    let a = asked_goes (length c.args.self.now.marks) c.args.self.now.hand w.0 c.args.caller.now c.walk.new.state w.2 in a.0

pub returns-in_default-clause-given : goal.returns-in_default-clause-given
returns-in_default-clause-given g c =
    let w = c.in_default.ensures.walked in
    let a = asked_goes (length c.args.self.now.marks) c.args.self.now.hand w.0 c.args.caller.now c.walk.new.state w.2 in record {
      picked = c.walk.new.state.pass;
      goes = a.0;
      asked = w.0;
      victim = None;
      walked = w.1;
      none = (refl, refl, a.1);
      limbo = inl a.1;
      swapped = tt;
      given_up = tt;
      refused = tt;
      full = tt;
      only = tt;
      answered = tt;
    }

pub returns-clause-goes : goal.returns-clause-goes
returns-clause-goes g c =
    let w = c.in-Some.ensures.walked in
    let a = asked_goes (length c.args.self.now.marks) c.args.self.now.hand w.0 c.args.caller.now c.walk.new.state w.2 in
    goes_trans a.0 c.swap_out.ensures.goes

pub returns-clause-given : goal.returns-clause-given
returns-clause-given g c =
    let w = c.in-Some.ensures.walked in
    let a = asked_goes (length c.args.self.now.marks) c.args.self.now.hand w.0 c.args.caller.now c.walk.new.state w.2 in
    let s = c.swap_out.ensures in record {
      picked = c.walk.new.state.pass;
      goes = a.0;
      asked = w.0;
      victim = Some c.in-Some.frame;
      walked = w.1;
      none = tt;
      limbo = subst (λ (l : List _). AtMostOneMore l c.swap_out.new.caller.limbo) a.1 s.limbo;
      swapped = rw (← a.1) s.swapped;
      given_up = rw (← a.1) s.given_up;
      refused = s.refused;
      full = rw (← a.1) s.full;
      only = s.only;
      answered = s.answered;
    }
