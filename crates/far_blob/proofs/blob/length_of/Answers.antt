use Rattle.std.proofs.lemmas.Nat.{be_bytes_4}
use Rattle.far_blob.proofs.blob.length_of.Goals as goal

pub returns-clause-bytes : goal.returns-clause-bytes
returns-clause-bytes c = be_bytes_4 c.args.front.now c.from_be_bytes.result c.told-front c.fits-front c.from_be_bytes.ensures
