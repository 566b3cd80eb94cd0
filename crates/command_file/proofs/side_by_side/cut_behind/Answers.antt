use Rattle.std.proofs.Common.{◌-◌, drop, length, arith, take_all, length-drop}
use Rattle.command_file.proofs.Joining.{cut_at_feed}
use Rattle.command_file.proofs.side_by_side.cut_behind.Goals as goal

pub returns-in-Some-clause-cut : goal.returns-in-Some-clause-cut
returns-in-Some-clause-cut c =
    let bytes = c.args.bytes.now in
    let place = c.args.place in
    let e = c.in-Some.ensures in
    let split = c.split_at.ensures in
    cut_at_feed bytes _ c.split_at.result.0.now c.split_at.result.1.now place c.in-Some.at
    (take_all (length bytes - place) (drop place bytes) (omega (arith, length-drop place bytes))) e.0 e.1 split.front split.back
