use Rattle.std.proofs.Common.{◌≡◌, subst, rules}
use mathlib.Core.List.{IsPrefix}
use Rattle.far_map.specs.Views.{Log}
use Rattle.far_map.proofs.Turning.{fault_later, turn_fault}
use Rattle.far_map.proofs.map.FarMap.turn.Goals as goal

pub returns-clause-why : goal.returns-clause-why
returns-clause-why g c =
    let l = g.J.Naming.limits in
    let same : c.mark.result ≡ c.turn.new.self.pass.front = search rules in
    fault_later g.V.FarObject.enc l c.turn.new.self.pass.front c.learn-in-Err.new.caller.pass.front c.in-Err.refusal
    (subst (λ (x : Log g.row.V.Denot). IsPrefix x c.learn-in-Err.new.caller.pass.front) same c.learn-in-Err.ensures.told) c.learn-in-Err.ensures.lawful
    (turn_fault g.V.FarObject.enc l c.args.self.now.table.format c.deref_mut.result.now c.turn.new.self c.in-Err.refusal c.in-Err.ensures.refused)
