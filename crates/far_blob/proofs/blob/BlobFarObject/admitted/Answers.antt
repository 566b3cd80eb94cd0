use Rattle.std.proofs.Common.{subst}
use Rattle.far_blob.specs.Encodings.{IsBlob}
use Rattle.far_blob.proofs.blob.BlobFarObject.admitted.Goals as goal

pub returns : goal.returns
returns c = subst IsBlob c.self.view_is c.self.invariant
