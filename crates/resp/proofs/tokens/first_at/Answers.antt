use Rattle.std.proofs.Common.{◌<◌, length, arith}
use Rattle.resp.specs.Laws.{AreNumbers}
use Rattle.resp.proofs.Commands.{alone_first}
use Rattle.resp.proofs.Receiving.{simple_first, failure_first, string_first, number_first, count_first, other_first}
use Rattle.resp.proofs.tokens.first_at.Goals as goal

pub returns-then-bytes-eq43 : goal.returns-then-bytes-eq43
returns-then-bytes-eq43 c =
    let bytes = c.args.bytes.now in
    let limits = c.args.limits in
    let is = alone_first bytes 43 c.requires c.if-bytes-eq43.true in
    simple_first limits bytes is

pub returns-then-bytes-eq45 : goal.returns-then-bytes-eq45
returns-then-bytes-eq45 c =
    let bytes = c.args.bytes.now in
    let limits = c.args.limits in
    let is = alone_first bytes 45 c.requires c.if-bytes-eq45.true in
    failure_first limits bytes is

pub returns-then-bytes-eq36 : goal.returns-then-bytes-eq36
returns-then-bytes-eq36 c =
    let bytes = c.args.bytes.now in
    let limits = c.args.limits in
    let fits : AreNumbers c.args.limits = record { arguments = omega arith; bytes = omega arith; line = omega arith } in
    let is = alone_first bytes 36 c.requires c.if-bytes-eq36.true in
    string_first limits bytes fits is

pub returns-then-bytes-eq58 : goal.returns-then-bytes-eq58
returns-then-bytes-eq58 c =
    let bytes = c.args.bytes.now in
    let limits = c.args.limits in
    let fits : AreNumbers c.args.limits = record { arguments = omega arith; bytes = omega arith; line = omega arith } in
    let is = alone_first bytes 58 c.requires c.if-bytes-eq58.true in
    number_first limits bytes fits is

pub returns-then-bytes-eq42 : goal.returns-then-bytes-eq42
returns-then-bytes-eq42 c =
    let bytes = c.args.bytes.now in
    let limits = c.args.limits in
    let fits : AreNumbers c.args.limits = record { arguments = omega arith; bytes = omega arith; line = omega arith } in
    let is = alone_first bytes 42 c.requires c.if-bytes-eq42.true in
    count_first limits bytes fits is

pub returns : goal.returns
returns c =
    let some : 0 < length c.args.bytes.now = omega (arith, c.requires) in
    other_first c.args.limits c.args.bytes.now some c.if-bytes-eq43.false c.if-bytes-eq45.false c.if-bytes-eq36.false c.if-bytes-eq58.false c.if-bytes-eq42.false
