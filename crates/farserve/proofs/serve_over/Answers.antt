use Rattle.std.proofs.Common.{◌≡◌, ◌-◌, true, List, vec_len, rules, subst}
use Rattle.std.specs.Prelude.{All, OnOk}
use Rattle.farserve.specs.Serving.{End, is_served}
use Rattle.farserve.proofs.Served.{served}
use Rattle.farserve.proofs.serve_over.Goals as goal

pub returns : goal.returns
returns g c =
    let workers = c.pop-2.new.self.items in
    let all_served = subst (λ (ends : List End). OnOk c.check_ends.result (All (λ end. is_served end ≡ true) ends)) c.as_slice.ensures.value c.check_ends.ensures.served in
    record {
      served = served c.check_ends.result c.args.settings (vec_len c.pop.new.self) (vec_len c.args.devices - 1) g.D.Device.HONEST c.in-Ok.ends.items workers c.in-Some-pop._sweep c.in-Ok.ensures.served.0 (search rules) c.in-Some-pop.ensures.items c.in-Ok.ensures.served.1 all_served;
    }
