use Rattle.std.proofs.Common.{ap, ◌∙◌, sym, refl}
use Rattle.std.specs.Option.{option_copied}
use Rattle.file_device.proofs.Kept.{kept_same}
use Rattle.file_device.proofs.Read.{reads_labelled, gives_alike}
use Rattle.file_device.proofs.device.FileDeviceDevice.read_labelled.Goals as goal

pub read_place-requires : goal.read_place-requires
read_place-requires g c =
    let found = sym (ap option_copied c.in-Some.is) ∙ c.place.ensures in
    (c.args.self.now.kept c.args.id c.in-Some.found.now (sym found)).1

pub invariant_of-self-2 : goal.invariant_of-self-2
invariant_of-self-2 g c = record {
  kept = kept_same g.K.Disk.HONEST (g.K.Disk.kept c.args.self.now.disk) (g.K.Disk.kept c.read_place.new.disk) c.args.self.now.keys c.args.self.now.catalog.index.entries c.args.self.now.kept (λ id place there. c.read_place.ensures.kept _);
}

pub returns-clause-reads : goal.returns-clause-reads
returns-clause-reads g c =
    let found = sym (ap option_copied c.in-Some.is) ∙ c.place.ensures in
    let entries = c.args.self.now.catalog.index.entries in
    let gives = c.in_ok-read_place.ensures in
    reads_labelled g.K.Disk.HONEST (g.K.Disk.kept c.args.self.now.disk) c.args.self.now.keys entries entries c.args.self.now.failures.count c.read_place.new.failures.count c.args.id c.in-Some.found.now c.in-Some-label.label c.args.out.now.items c.read_place.new.out.items c.args.self.now.kept found c.in-Some-label.is (gives.alike.given, gives.alike.appended) gives.honest gives.same refl gives.counted

pub returns-clause-alike : goal.returns-clause-alike
returns-clause-alike g c =
    let found = sym (ap option_copied c.in-Some.is) ∙ c.place.ensures in
    let sound = (c.args.self.now.kept c.args.id c.in-Some.found.now (sym found)).1 in
    gives_alike c.args.self.now.keys c.args.self.now.catalog.index.entries c.args.id c.in-Some.found.now c.args.out.now.items c.read_place.new.out.items sound found c.in_ok-read_place.ensures.alike
