use Rattle.std.proofs.Common.{◌≡◌, subst, rules}
use mathlib.Core.List.{IsPrefix}
use Rattle.far_map.specs.Views.{Log}
use Rattle.far_map.proofs.Turning.{fault_later}
use Rattle.far_map.proofs.map.FarMap.turns_for.Goals as goal

pub returns-clause-why : goal.returns-clause-why
returns-clause-why g c =
    let same : c.mark.result ≡ c.turns.new.evictor.pass.front = search rules in
    fault_later g.V.FarObject.enc g.J.Naming.limits c.turns.new.evictor.pass.front c.learn-in-Err.new.caller.pass.front c.in-Err.refusal
    (subst (λ (x : Log g.row.V.Denot). IsPrefix x c.learn-in-Err.new.caller.pass.front) same c.learn-in-Err.ensures.told) c.learn-in-Err.ensures.lawful c.in-Err.ensures.why
