use Rattle.std.proofs.Common.{arith}
use Rattle.resp.specs.Laws.{AreNumbers}
use Rattle.resp.proofs.Receiving.{token_again}
use Rattle.resp.proofs.tokens.parse_token.Goals as goal

pub returns-clause-again : goal.returns-clause-again
returns-clause-again c =
    let fits : AreNumbers c.args.limits = record { arguments = omega arith; bytes = omega arith; line = omega arith } in
    token_again c.args.limits c.args.bytes.now c.receive.result fits c.receive.ensures
