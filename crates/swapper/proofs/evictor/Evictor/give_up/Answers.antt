use Rattle.std.proofs.Common.{refl}
use Rattle.swapper.proofs.evictor.Evictor.give_up.Goals as goal

pub returns : goal.returns
returns g c =
    let s = c.swap_out.ensures in
    rw (← c.self.view_is) (record {
      works = record { goes = s.goes; clock = refl; room = refl };
      limbo = s.limbo;
      kept = refl;
      seat = refl;
      swapped = s.swapped;
      given_up = s.given_up;
      refused = s.refused;
      full = s.full;
      only = s.only;
      answered = s.answered;
    })
