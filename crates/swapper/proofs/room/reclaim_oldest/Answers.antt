use Rattle.std.proofs.Common.{◌≤◌, ◌∷◌, ◌∙◌, List, ap, sym, arith, length}
use Rattle.swapper.proofs.Settles.{put_back}
use Rattle.swapper.proofs.Rooms.{recycled_none, recycled_gone, recycled_back}
use Rattle.swapper.proofs.room.reclaim_oldest.Goals as goal

pub returns-in_default-clause-limbo : goal.returns-in_default-clause-limbo
returns-in_default-clause-limbo g c = let none = c.in_default.ensures.limbo in recycled_none _ _ none.0 none.1

pub returns-in_default-reclaim-clause-limbo : goal.returns-in_default-reclaim-clause-limbo
returns-in_default-reclaim-clause-limbo g c =
    recycled_gone c.in-Some.spare _ _ _ c.in-Some.ensures.limbo c.reclaim.ensures.tried c.in_default-reclaim.ensures.reclaimed c.reclaim.ensures.limbo

pub returns-clause-limbo : goal.returns-clause-limbo
returns-clause-limbo g c =
    let oldest = c.in-Some.ensures.limbo in
    let few = c.limbo_len-few.ensures in
    let more : length c.args.caller.now.limbo ≤ 64 = omega (arith, few.is, few.few) in
    let back = put_back c.args.caller.now.limbo c.reclaim.new.caller.limbo _ c.in-Some.spare _ c.return_spare.result (oldest ∙ ap (λ (l : List _). c.in-Some.spare ∷ l) (sym c.reclaim.ensures.limbo)) c.in-Err.ensures.back more c.return_spare.ensures.limbo in
    recycled_back c.in-Some.spare _ c.take_spare.new.self.limbo _ oldest c.reclaim.ensures.tried (back ∙ oldest)
