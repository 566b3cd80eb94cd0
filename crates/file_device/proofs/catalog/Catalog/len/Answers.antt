use Rattle.std.proofs.Common.{sym, ◌∙◌}
use Rattle.file_device.proofs.Contents.{len-contents_of}
use Rattle.file_device.proofs.catalog.Catalog.len.Goals as goal

pub returns : goal.returns
returns c = c.len.ensures.len ∙ sym (len-contents_of c.args.self.now.index.entries c.len.ensures.unique)
