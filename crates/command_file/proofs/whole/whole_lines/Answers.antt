use Rattle.std.proofs.Common.{◌≡◌, ◌-◌, length, take, drop, arith, take_all, length-drop}
use Rattle.command_file.proofs.Windows.{whole_more}
use Rattle.command_file.proofs.whole.whole_lines.Goals as goal

pub loop-count-preserved : goal.loop-count-preserved
loop-count-preserved c =
    let bytes = c.args.bytes.now in
    let end = c.loop-count.end in
    let old = c.loop-count.invariant in
    let got = c.some_lines-more.result in
    let rest : take (length bytes - end) (drop end bytes) ≡ drop end bytes = take_all (length bytes - end) (drop end bytes) (omega (arith, length-drop end bytes)) in
    let e = rw rest at c.some_lines-more.ensures in
    record {
      whole = whole_more bytes end c.loop-count.count got.0 got.1 old.whole e.whole e.within;
      few = omega (arith, old.few, e.few);
    }
