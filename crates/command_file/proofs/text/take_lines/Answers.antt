use Rattle.std.proofs.Common.{◌≡◌, ◌+◌, ℕ, List, Err, IfSome, subst, sym, arith}
use Rattle.command_file.specs.declared.fault.FileFault.TheVariants.{Memory}
use Rattle.command_file.specs.Lines.{lines_of}
use Rattle.command_file.specs.Texts.{EndsSo}
use Rattle.command_file.specs.Reading.{TakesLine}
use Rattle.command_file.proofs.Progress.{more_left}
use Rattle.command_file.proofs.Texts.{Taken, taken_whole, taken_line, taken_all, taken_to_long, taken_most, taken_stops, none_left}
use Rattle.command_file.proofs.text.take_lines.Goals as goal

pub returns-in-Err-clause-lines : goal.returns-in-Err-clause-lines
returns-in-Err-clause-lines g c =
    let a = g.R.Read.remaining c.args.file.now in
    let stops = taken_stops a (g.R.Read.remaining c.loop-count.file) (c.loop-count.count + 1) c.loop-count.text.items c.in-Err.fault c.loop-count.invariant.taken c.in-Err.ensures.fault in
    subst (λ (text : List ℕ). IfSome a (λ bytes. EndsSo (lines_of bytes) (lines_of text) (Err c.in-Err.fault))) (sym {A = List ℕ} c.in-Err.ensures.err) stops

pub returns-in-Err-next_line-clause-lines : goal.returns-in-Err-next_line-clause-lines
returns-in-Err-next_line-clause-lines g c =
    let a = g.R.Read.remaining c.args.file.now in
    let b = g.R.Read.remaining c.take_shown.new.file in
    let number = c.loop-count.count + c.in-Ok.more + 1 in
    let text = c.take_shown.new.text.items in
    let taken : Taken a b number text = taken_whole a (g.R.Read.remaining c.loop-count.file) b (c.loop-count.count + 1) number c.in-Ok.more c.loop-count.text.items text c.loop-count.invariant.taken c.in-Ok.ensures.lines (omega arith) in
    taken_stops a b number text _ taken c.in-Err-next_line.ensures.fault

pub returns-in-End-clause-lines : goal.returns-in-End-clause-lines
returns-in-End-clause-lines g c =
    let a = g.R.Read.remaining c.args.file.now in
    let b = g.R.Read.remaining c.take_shown.new.file in
    let number = c.loop-count.count + c.in-Ok.more + 1 in
    let text = c.take_shown.new.text.items in
    let taken : Taken a b number text = taken_whole a (g.R.Read.remaining c.loop-count.file) b (c.loop-count.count + 1) number c.in-Ok.more c.loop-count.text.items text c.loop-count.invariant.taken c.in-Ok.ensures.lines (omega arith) in
    let read = rw c.in-End.is at c.in-Ok-next_line.ensures.read in
    taken_all a b number text taken (omega (arith, c.in-Ok.ensures.few)) read.0

pub returns-in-TooLong-clause-lines : goal.returns-in-TooLong-clause-lines
returns-in-TooLong-clause-lines g c =
    let a = g.R.Read.remaining c.args.file.now in
    let b = g.R.Read.remaining c.take_shown.new.file in
    let number = c.loop-count.count + c.in-Ok.more + 1 in
    let text = c.take_shown.new.text.items in
    let taken : Taken a b number text = taken_whole a (g.R.Read.remaining c.loop-count.file) b (c.loop-count.count + 1) number c.in-Ok.more c.loop-count.text.items text c.loop-count.invariant.taken c.in-Ok.ensures.lines (omega arith) in
    let long = rw c.in-TooLong.is at c.in-Ok-next_line.ensures.read in
    taken_to_long a b number text taken long (omega (arith, c.in-Ok.ensures.few))

pub loop-count-preserved : goal.loop-count-preserved
loop-count-preserved g c =
    let a = g.R.Read.remaining c.args.file.now in
    let b = g.R.Read.remaining c.take_shown.new.file in
    let rest = g.R.Read.remaining c.next_line.new.file in
    let number = c.loop-count.count + c.in-Ok.more + 1 in
    let text = c.take_shown.new.text.items in
    let taken : Taken a b number text = taken_whole a (g.R.Read.remaining c.loop-count.file) b (c.loop-count.count + 1) number c.in-Ok.more c.loop-count.text.items text c.loop-count.invariant.taken c.in-Ok.ensures.lines (omega arith) in
    let read = rw c.in-Line.is at c.in-Ok-next_line.ensures.read in
    let takes = subst (TakesLine b rest) (sym c.as_slice.ensures.value) read.0 in
    record {
      taken = taken_line a b rest number text c.as_slice.result.now c.add.new.text.items taken takes c.in-Ok-add.ensures.ok;
      few = omega (arith, c.in-Ok.ensures.few);
    }

pub returns-in-Err-add-clause-lines : goal.returns-in-Err-add-clause-lines
returns-in-Err-add-clause-lines g c =
    let a = g.R.Read.remaining c.args.file.now in
    let b = g.R.Read.remaining c.take_shown.new.file in
    let number = c.loop-count.count + c.in-Ok.more + 1 in
    let text = c.take_shown.new.text.items in
    let taken : Taken a b number text = taken_whole a (g.R.Read.remaining c.loop-count.file) b (c.loop-count.count + 1) number c.in-Ok.more c.loop-count.text.items text c.loop-count.invariant.taken c.in-Ok.ensures.lines (omega arith) in
    subst (λ (text : List ℕ). IfSome a (λ bytes. EndsSo (lines_of bytes) (lines_of text) (Err Memory))) (sym {A = List ℕ} c.in-Err-add.ensures.err) (taken_stops a b number text Memory taken tt)

pub returns-in-Ok-true-clause-lines : goal.returns-in-Ok-true-clause-lines
returns-in-Ok-true-clause-lines g c =
    let b = g.R.Read.remaining c.loop-count.file in
    taken_all (g.R.Read.remaining c.args.file.now) b (c.loop-count.count + 1) c.loop-count.text.items c.loop-count.invariant.taken (omega (arith, c.loop-count.invariant.few))
    (none_left b c.in-Ok-true.field-0 c.in-Ok-true.ensures.value c.in-Ok-true.field-0-test)

pub returns-in-Ok-false-clause-lines : goal.returns-in-Ok-false-clause-lines
returns-in-Ok-false-clause-lines g c =
    let a = g.R.Read.remaining c.args.file.now in
    let b = g.R.Read.remaining c.loop-count.file in
    let last : c.loop-count.count + 1 ≡ 65537 = omega (arith, c.loop-count.invariant.few) in
    taken_most a b c.loop-count.text.items (subst (λ n. Taken a b n c.loop-count.text.items) last c.loop-count.invariant.taken)
    (more_left b c.in-Ok-false.field-0 c.in-Ok-false.ensures.value c.in-Ok-false.field-0-test)

pub returns-clause-lines : goal.returns-clause-lines
returns-clause-lines g c =
    taken_stops (g.R.Read.remaining c.args.file.now) (g.R.Read.remaining c.loop-count.file) (c.loop-count.count + 1) c.loop-count.text.items _ c.loop-count.invariant.taken c.in-Err-is_at_end.ensures.fault
