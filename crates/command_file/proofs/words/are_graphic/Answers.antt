use Rattle.command_file.proofs.Printing.{none_yet, one_more, all_print}
use Rattle.command_file.proofs.words.are_graphic.Goals as goal

pub loop-byte-init : goal.loop-byte-init
loop-byte-init c = none_yet c.args.bytes.now

pub loop-byte-preserved : goal.loop-byte-preserved
loop-byte-preserved c = one_more c.args.bytes.now c.loop-byte.byte-index c.loop-byte.all c.is_ascii_graphic-all.result c.is_ascii_graphic-all.ensures.value c.loop-byte.invariant

pub returns : goal.returns
returns c = all_print c.args.bytes.now c.loop-byte.byte-index c.loop-byte.all c.loop-byte-test.false c.loop-byte.auto.byte-index-end c.loop-byte.invariant
