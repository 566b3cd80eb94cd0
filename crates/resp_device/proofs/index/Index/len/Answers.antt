use Rattle.std.proofs.Common.{sym, ◌∙◌}
use Rattle.resp_device.proofs.Contents.{len-contents_of}
use Rattle.resp_device.proofs.index.Index.len.Goals as goal

pub returns : goal.returns
returns c = c.len.ensures.len ∙ sym (len-contents_of c.args.self.now.objects.entries c.len.ensures.unique)
