use Rattle.std.proofs.Common.{◌≢◌, ◌+◌, ◌-◌, drop, length, sym, arith, rules, take_all, length-drop}
use Rattle.std.proofs.lemmas.Bool.{eqb-false}
use Rattle.command_file.proofs.Cutting.{cut_at, cut_last}
use Rattle.command_file.proofs.part.first_line.Goals as goal

pub returns-in-Some : goal.returns-in-Some
returns-in-Some c =
    let bytes = c.args.bytes.now in
    let at = c.in-Some.at in
    let e = c.in-Some.ensures in
    cut_at bytes _ at e.0 e.2 e.1 (take_all (length bytes - (at + 1)) (drop (at + 1) bytes) (omega (arith, length-drop (at + 1) bytes)))

pub returns-in-None : goal.returns-in-None
returns-in-None c =
    let some : length c.args.bytes.now ≢ 0 = eqb-false (length c.args.bytes.now) 0 (sym c.if-is_empty.ensures) in
    cut_last c.args.bytes.now _ (omega (arith, some)) c.in-None.ensures (search rules)
