use Rattle.std.proofs.Common.{w64}
use Rattle.std.proofs.lemmas.Int.{to_z-of_z}
use Rattle.std.proofs.lemmas.Result.{on_ok_weaker}
use Rattle.server_commands.proofs.Growing.{tells_more, number_as}
use Rattle.server_commands.proofs.greeting.put_figure.Goals as goal

pub returns-clause-told : goal.returns-clause-told
returns-clause-told c =
    let name = rw c.as_bytes.ensures.value at c.in_ok-put_string.ensures.told in
    on_ok_weaker c.put_number.result (λ p. tells_more _ _ _ _ _ name (number_as _ _ _ _ (to_z-of_z w64 c.args.number c.ranges.number) p)) c.put_number.ensures.told
