use Rattle.std.proofs.Common.{◌∙◌, rules}
use Rattle.std.proofs.lemmas.Result.{on_ok_weaker}
use Rattle.file_device.proofs.Files.{written, others}
use Rattle.file_device.proofs.file_disk.FileDiskDisk.write_slot.Goals as goal

pub returns-clause-written : goal.returns-clause-written
returns-clause-written g c = λ honest.
    on_ok_weaker c.write_to.result (written g.D.File.SlotFile.byte c.make.new.self.files c.write_to.new.place c.args.slot c.args.bytes.now c.offset.result (search rules) c.requires.fits c.offset.ensures.value) (c.write_to.ensures.written honest)

pub returns-clause-others : goal.returns-clause-others
returns-clause-others g c = λ other differs.
    others g.D.File.SlotFile.byte c.make.new.self.files c.index-self-slot.result c.write_to.new.place c.args.slot other c.offset.result _ (search rules) c.requires.fits c.offset.ensures.value (c.offset.ensures.apart other) c.write_to.ensures.others differs ∙ c.in_ok-make.ensures other
