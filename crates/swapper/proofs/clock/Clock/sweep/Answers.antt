use Rattle.std.proofs.Common.{Some, None, length, arith}
use Rattle.swapper.specs.Chances.{flag, at}
use Rattle.swapper.proofs.Clocks.{swept_by, swept_none}
use Rattle.swapper.proofs.clock.Clock.sweep.Goals as goal

pub returns-in-Some-clause-swept : goal.returns-in-Some-clause-swept
returns-in-Some-clause-swept c =
    let w = c.in-Some.ensures.walked in
    swept_by c.args.held.now c.args.self.now.marks c.args.self.now.hand w.0 c.walk.new.self.marks c.walk.new.self.hand (Some c.in-Some.victim) w.1

pub returns-in-None-clause-swept : goal.returns-in-None-clause-swept
returns-in-None-clause-swept c =
    let w = c.in-None.ensures.walked in
    swept_by c.args.held.now c.args.self.now.marks c.args.self.now.hand w.0 c.walk.new.self.marks c.walk.new.self.hand None w.1

pub returns-in-None-clause-still : goal.returns-in-None-clause-still
returns-in-None-clause-still c =
    let w = c.in-None.ensures.walked in
    let is = c.hand-hand.ensures.is in
    let below = c.hand-hand.ensures.below in
    let swept = swept_by c.args.held.now c.args.self.now.marks c.args.self.now.hand w.0 c.walk.new.self.marks c.walk.new.self.hand None w.1 in
    let same = swept_none (λ k. flag c.args.held.now (at (length c.args.self.now.marks) c.args.self.now.hand k)) c.args.self.now.marks c.args.self.now.hand c.walk.new.self.marks c.walk.new.self.hand (omega (arith, is, below)) swept in
    λ i. record { marks = same.0 i; hand = same.1 i }
