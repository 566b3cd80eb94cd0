use Rattle.std.proofs.Common.{rules}
use Rattle.file_device.proofs.Offsets.{apart, ends_low, fits_at}
use Rattle.file_device.proofs.slot.Slot.offset.Goals as goal

pub overflow_mul-result : goal.overflow_mul-result
overflow_mul-result c = record { fits = fits_at c.args.self.number c.args.self.class c.from.result c.bytes.result c.from.ensures c.bytes.ensures (search rules) c.requires }

pub returns-clause-short : goal.returns-clause-short
returns-clause-short c = ends_low c.args.self.number c.args.self.class (search rules) c.requires

pub returns-clause-apart : goal.returns-clause-apart
returns-clause-apart c = λ other. apart c.args.self other
