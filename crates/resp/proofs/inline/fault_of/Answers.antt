use Rattle.resp.proofs.Inlines.{not_plain_is}
use Rattle.resp.proofs.inline.fault_of.Goals as goal

pub returns : goal.returns
returns c = not_plain_is c.args.byte c.requires.other c.if-byte-eq34.false c.if-byte-eq39.false c.requires.spoilt
