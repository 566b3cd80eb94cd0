use Rattle.std.proofs.Common.{arith, ◌+◌, ◌<◌, ◌≡◌, ◌∙◌, ap, sym, subst, length, refl, Option, ℕ}
use Rattle.swapper.specs.Chances.{next}
use Rattle.swapper.proofs.Clocks.{Walked, walked_none, walked_held, walked_marked, walked_free, frame_below, walked_found, walked_lost, asks_more, asks_end, here_is}
use Rattle.swapper.proofs.clock.Clock.walk.Goals as goal
use Rattle.swapper.proofs.clock.Clock.walk.Goals.{in-Held, in-Marked}

pub loop-k-init : goal.loop-k-init
loop-k-init g c =
    let is = c.hand-frame.ensures.is in
    let below = c.hand-frame.ensures.below in
    let h : c.args.self.now.hand < length c.args.self.now.marks = omega (arith, is, below) in record {
      walked = walked_none c.args.self.now.marks c.args.self.now.hand _ _ (g.A.FrameFlags.guess c.args.asked.now) c.hand-frame.result is h (g.met.A.FrameFlags.guessed c.args.asked.now);
      asks = refl;
      hand = refl;
      within = h;
      count = c.frames-count.ensures;
    }

pub meet-requires-clause-here : goal.meet-requires-clause-here
meet-requires-clause-here g c =
    let i = c.loop-k.invariant in
    let is = i.count in
    let lt = c.loop-k-test.true in
    (frame_below c.args.self.now.marks c.args.self.now.hand _ _ c.loop-k.self.marks c.loop-k.frame c.loop-k._k c.loop-k.spared i.within (omega (arith, is, lt)) i.walked).1

pub returns-in-Free-clause-walked : goal.returns-in-Free-clause-walked
returns-in-Free-clause-walked g c =
    let i = c.loop-k.invariant in
    let is = i.count in
    let lt = c.loop-k-test.true in
    let below : c.loop-k._k < length c.args.self.now.marks = omega (arith, is, lt) in
    let e = c.stop_behind.ensures in (
      c.loop-k._k + 1,
      walked_free c.args.self.now.marks c.args.self.now.hand _ _ i.within c.loop-k.self.marks c.loop-k.frame c.loop-k._k c.loop-k.spared below i.walked c.meet.new.self.marks c.stop_behind.new.self.marks c.stop_behind.new.self.hand c.meet.result c.in-Free.is c.meet.ensures.met e.marks e.hand,
      asks_more g.A.FrameFlags.goes (length c.args.self.now.marks) c.args.self.now.hand c.loop-k._k c.loop-k.frame c.args.state.now c.loop-k.state c.meet.new.state (here_is _ _ _ _ _ _ _ _ i.walked) i.asks c.meet.ensures.goes,
    )

pub loop-k-preserved : goal.loop-k-preserved
loop-k-preserved g c =
    let i = c.loop-k.invariant in
    let is = i.count in
    let test = c.loop-k-test.true in
    let lt : c.loop-k._k < length c.args.self.now.marks = omega (arith, is, test) in
    let at : next (length c.args.self.now.marks) c.loop-k.frame ≡ c.following-frame.result = sym (c.following-frame.ensures.is ∙ ap (λ (n : ℕ). next n c.loop-k.frame) is) in
    let P : ℕ × Option ℕ → Type 0 = λ p. Walked c.args.self.now.marks c.args.self.now.hand (g.A.FrameFlags.may_hold c.args.asked.now) (g.A.FrameFlags.may_touch c.args.asked.now) c.meet.new.self.marks p.0 p.1 (c.loop-k._k + 1) in record {
      walked = elim c.match-meet.branch [
        | in-Held w ↦ subst P (λ j. (at j, sym w.spared-is j)) (walked_held c.args.self.now.marks c.args.self.now.hand _ _ i.within c.loop-k.self.marks c.loop-k.frame c.loop-k._k c.loop-k.spared lt i.walked c.meet.new.self.marks c.meet.result w.in-Held.is c.meet.ensures.met)
        | in-Marked w ↦ subst P (λ j. (at j, sym (w.spared-is ∙ w.or_this-spared.ensures) j)) (walked_marked c.args.self.now.marks c.args.self.now.hand _ _ i.within c.loop-k.self.marks c.loop-k.frame c.loop-k._k c.loop-k.spared lt i.walked c.meet.new.self.marks c.meet.result w.in-Marked.is c.meet.ensures.met)
      ];
      asks = asks_more g.A.FrameFlags.goes (length c.args.self.now.marks) c.args.self.now.hand c.loop-k._k c.loop-k.frame c.args.state.now c.loop-k.state c.meet.new.state (here_is _ _ _ _ _ _ _ _ i.walked) i.asks c.meet.ensures.goes;
      hand = c.meet.ensures.hand ∙ i.hand;
      within = i.within;
      count = is;
    }

pub returns-in-Some-clause-walked : goal.returns-in-Some-clause-walked
returns-in-Some-clause-walked g c =
    let i = c.loop-k.invariant in
    let is = i.count in
    let past = c.loop-k-test.false in
    let end = c.loop-k.auto._k-end in
    let all : c.loop-k._k ≡ length c.args.self.now.marks = omega (arith, is, past, end) in
    let e = c.stop_behind-in-Some.ensures in (
      length c.args.self.now.marks,
      walked_found c.args.self.now.marks c.args.self.now.hand _ _ c.loop-k.self.marks c.loop-k.frame c.loop-k._k c.loop-k.spared c.in-Some.frame c.stop_behind-in-Some.new.self.hand c.stop_behind-in-Some.new.self.marks all c.in-Some.is i.walked e.marks e.hand,
      asks_end g.A.FrameFlags.goes (length c.args.self.now.marks) c.args.self.now.hand c.loop-k._k (length c.args.self.now.marks) c.args.state.now c.loop-k.state all i.asks,
    )

pub returns-in_default-clause-walked : goal.returns-in_default-clause-walked
returns-in_default-clause-walked g c =
    let i = c.loop-k.invariant in
    let is = i.count in
    let past = c.loop-k-test.false in
    let end = c.loop-k.auto._k-end in
    let all : c.loop-k._k ≡ length c.args.self.now.marks = omega (arith, is, past, end) in (
      length c.args.self.now.marks,
      walked_lost c.args.self.now.marks c.args.self.now.hand _ _ c.loop-k.self.marks c.loop-k.frame c.loop-k._k c.loop-k.spared c.loop-k.self.hand all c.in_default.is i.walked i.hand,
      asks_end g.A.FrameFlags.goes (length c.args.self.now.marks) c.args.self.now.hand c.loop-k._k (length c.args.self.now.marks) c.args.state.now c.loop-k.state all i.asks,
    )
