use Rattle.std.proofs.Common.{◌≡◌, ◌-◌, true, List, vec_len, rules, subst}
use Rattle.std.specs.Prelude.{All, OnOk}
use Rattle.farcalls.specs.Runs.{End, is_served}
use Rattle.farcalls.proofs.Served.{served}
use Rattle.farcalls.proofs.serve_over.Goals as goal

pub returns : goal.returns
returns g c =
    let ends = c.in-Ok.ends.items in
    let all_served = subst (λ (all : List End). OnOk c.check_ends.result (All (λ end. is_served end ≡ true) all)) c.as_slice.ensures.value c.check_ends.ensures.served in
    record {
      served = served c.check_ends.result c.args.settings (vec_len c.pop.new.self) (vec_len c.args.devices - 1) g.D.Device.HONEST ends c.in-Ok.ensures.served.0 (search rules) c.in-Ok.ensures.served.1 all_served;
    }
