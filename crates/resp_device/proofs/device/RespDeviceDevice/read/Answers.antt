use Rattle.std.proofs.Common.{sym, ap, ◌∙◌}
use Rattle.std.specs.Option.{option_copied}
use Rattle.resp_device.proofs.Calls.{reads_absent, reads_there, gives_alike}
use Rattle.resp_device.proofs.device.RespDeviceDevice.read.Goals as goal

pub returns-in_default-clause-reads : goal.returns-in_default-clause-reads
returns-in_default-clause-reads g c =
    reads_absent c.args.self.now.index.objects.entries c.args.self.now.failures.count c.args.id c.args.out.now.items (sym c.kept.ensures ∙ ap option_copied c.in_default.is)

pub fits-requires : goal.fits-requires
fits-requires g c =
    let found = sym (ap option_copied c.in-Some.is) ∙ c.kept.ensures in
    c.args.self.now.sound c.args.id c.in-Some.kept.now (sym found)

pub returns-clause-reads : goal.returns-clause-reads
returns-clause-reads g c =
    let found = sym (ap option_copied c.in-Some.is) ∙ c.kept.ensures in
    reads_there c.args.self.now.index.objects.entries c.args.self.now.failures.count c.args.id c.in-Some.kept.now c.args.out.now.items c.part-bytes.result.now c.extend_from_slice.new.self.items found c.in_ok-extend_from_slice.ensures.items c.if-not-fits.ensures.same

pub returns-clause-alike : goal.returns-clause-alike
returns-clause-alike g c =
    let found = sym (ap option_copied c.in-Some.is) ∙ c.kept.ensures in
    let sound = c.args.self.now.sound c.args.id c.in-Some.kept.now (sym found) in
    gives_alike c.args.self.now.keys c.args.self.now.index.objects.entries c.args.id c.in-Some.kept.now c.args.out.now.items c.part-bytes.result.now c.extend_from_slice.new.self.items sound found c.in_ok-extend_from_slice.ensures.items c.if-not-fits.ensures.alike
