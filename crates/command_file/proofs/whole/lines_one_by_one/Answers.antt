use Rattle.std.proofs.Common.{◌≡◌, ◌-◌, length, take, drop, arith, take_all, length-drop}
use Rattle.command_file.proofs.Windows.{whole_next}
use Rattle.command_file.proofs.whole.lines_one_by_one.Goals as goal

pub loop-count-preserved : goal.loop-count-preserved
loop-count-preserved c =
    let bytes = c.args.bytes.now in
    let end = c.loop-count.end in
    let rest : take (length bytes - end) (drop end bytes) ≡ drop end bytes = take_all (length bytes - end) (drop end bytes) (omega (arith, length-drop end bytes)) in
    let e = rw rest at c.in-Some.ensures in
    whole_next bytes end c.loop-count.count c.in-Some.at c.loop-count.invariant e.0 e.1 e.2 c.if-at-le-LONGEST_LINE.true
