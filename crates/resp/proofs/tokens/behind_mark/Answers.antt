use Rattle.std.proofs.Common.{◌<◌, length, arith}
use Rattle.resp.proofs.Receiving.{other_first}
use Rattle.resp.proofs.tokens.behind_mark.Goals as goal

pub returns : goal.returns
returns c =
    let some : 0 < length c.args.bytes.now = omega (arith, c.requires) in
    other_first c.args.limits c.args.bytes.now some c.if-bytes-eq43.false c.if-bytes-eq45-4.false c.if-bytes-eq36.false c.if-bytes-eq58.false c.if-bytes-eq42.false
