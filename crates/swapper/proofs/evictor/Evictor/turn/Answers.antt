use Rattle.std.proofs.Common.{refl, Some, None}
use Rattle.swapper.proofs.Collecting.{shown_more, turns_collect, turns_pick, turns_give_up, turns_trans}
use Rattle.swapper.proofs.evictor.Evictor.turn.Goals as goal

pub returns-in_default-clause-turn : goal.returns-in_default-clause-turn
returns-in_default-clause-turn g c =
    let first = c.collect-first.ensures in
    let last = c.collect-last.ensures in record {
      collected = c.collect-first.new.self;
      picked = c.victim.new.self;
      given_up = c.victim.new.self;
      victim = None;
      first = first.gone;
      second = last.gone;
      first_failed = _;
      second_failed = _;
      collects = first.collects;
      picks = c.in_default.ensures;
      gives_up = (refl, refl);
      collects_again = last.collects;
      reclaimed = shown_more first.gone last.gone _ _ _ first.reclaimed last.reclaimed c.saturating_add.ensures;
      kept = last.kept;
    }

pub returns-in_default-clause-turns : goal.returns-in_default-clause-turns
returns-in_default-clause-turns g c =
    turns_trans (turns_trans (turns_collect _ _ c.collect-first.ensures.gone _ c.collect-first.ensures.collects) (turns_pick _ _ None c.in_default.ensures))
    (turns_collect _ _ c.collect-last.ensures.gone _ c.collect-last.ensures.collects)

pub returns-in-Err-clause-refused : goal.returns-in-Err-clause-refused
returns-in-Err-clause-refused g c =
    let first = c.collect-first.ensures in record {
      collected = c.collect-first.new.self;
      picked = c.victim.new.self;
      victim = c.in-Some.frame;
      first = first.gone;
      failed = _;
      collects = first.collects;
      picks = c.in-Some.ensures;
      gives_up = c.in-Err.ensures;
    }

pub returns-in-Err-clause-turns : goal.returns-in-Err-clause-turns
returns-in-Err-clause-turns g c =
    turns_trans (turns_trans (turns_collect _ _ c.collect-first.ensures.gone _ c.collect-first.ensures.collects) (turns_pick _ _ (Some c.in-Some.frame) c.in-Some.ensures))
    (turns_give_up _ _ _ _ _ _ c.in-Some.frame c.give_up.result c.give_up.ensures)

pub returns-clause-turn : goal.returns-clause-turn
returns-clause-turn g c =
    let first = c.collect-first.ensures in
    let last = c.collect-last-2.ensures in record {
      collected = c.collect-first.new.self;
      picked = c.victim.new.self;
      given_up = c.give_up.new.self;
      victim = Some c.in-Some.frame;
      first = first.gone;
      second = last.gone;
      first_failed = _;
      second_failed = _;
      collects = first.collects;
      picks = c.in-Some.ensures;
      gives_up = c.in-Ok.ensures;
      collects_again = last.collects;
      reclaimed = shown_more first.gone last.gone _ _ _ first.reclaimed last.reclaimed c.saturating_add-2.ensures;
      kept = last.kept;
    }

pub returns-clause-turns : goal.returns-clause-turns
returns-clause-turns g c =
    turns_trans (turns_trans (turns_trans (turns_collect _ _ c.collect-first.ensures.gone _ c.collect-first.ensures.collects) (turns_pick _ _ (Some c.in-Some.frame) c.in-Some.ensures))
    (turns_give_up _ _ _ _ _ _ c.in-Some.frame c.give_up.result c.give_up.ensures)) (turns_collect _ _ c.collect-last-2.ensures.gone _ c.collect-last-2.ensures.collects)
