use Rattle.std.proofs.lemmas.Nat.{be_bytes_2}
use Rattle.far_object.proofs.text.length_of.Goals as goal

pub returns-clause-bytes : goal.returns-clause-bytes
returns-clause-bytes c = be_bytes_2 c.args.front.now c.from_be_bytes.result c.told-front c.fits-front c.from_be_bytes.ensures
