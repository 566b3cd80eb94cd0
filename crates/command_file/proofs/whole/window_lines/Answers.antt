use Rattle.std.proofs.Common.{◌+◌, take, subst, sym, arith}
use Rattle.command_file.specs.Reading.{AreWhole}
use Rattle.command_file.proofs.Windows.{window}
use Rattle.command_file.proofs.whole.window_lines.Goals as goal

pub returns-in-Some-clause-whole : goal.returns-in-Some-clause-whole
returns-in-Some-clause-whole c =
    let bytes = c.args.bytes.now in
    let at = c.in-Some.at in
    let width = c.min.result in
    subst (AreWhole (take (at + 1) bytes)) (sym c.times.ensures)
    (window bytes width at (omega (arith, c.min.ensures)) (omega (arith, c.min.ensures)) c.in-Some.ensures.0 c.in-Some.ensures.1)
