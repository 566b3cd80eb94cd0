use Rattle.std.proofs.Common.{ap, ◌∙◌, sym, refl}
use Rattle.std.specs.Option.{option_copied, is_some}
use Rattle.file_device.proofs.Contents.{contains_key-contents_of}
use Rattle.file_device.proofs.Kept.{kept_same}
use Rattle.file_device.proofs.Read.{reads_there, gives_alike}
use Rattle.file_device.proofs.device.FileDeviceDevice.read.Goals as goal

pub read_place-requires : goal.read_place-requires
read_place-requires g c =
    let found = sym (ap option_copied c.in-Some.is) ∙ c.place.ensures in
    (c.args.self.now.kept c.args.id c.in-Some.place.now (sym found)).1

pub invariant_of-self-2 : goal.invariant_of-self-2
invariant_of-self-2 g c = record {
  kept = kept_same g.K.Disk.HONEST (g.K.Disk.kept c.args.self.now.disk) (g.K.Disk.kept c.read_place.new.disk) c.args.self.now.keys c.args.self.now.catalog.index.entries c.args.self.now.kept (λ id place there. c.read_place.ensures.kept _);
}

pub returns-in_default-clause-reads : goal.returns-in_default-clause-reads
returns-in_default-clause-reads g c =
    let entries = c.args.self.now.catalog.index.entries in
    record {
      found = ap is_some (sym (ap option_copied c.in_default.is)) ∙ (ap is_some c.place.ensures ∙ sym (contains_key-contents_of entries c.args.id));
      appended = tt;
      honest = λ _. tt;
      absent = refl;
      fault = tt;
      kept = refl;
      counted = refl;
    }

pub returns-clause-reads : goal.returns-clause-reads
returns-clause-reads g c =
    let found = sym (ap option_copied c.in-Some.is) ∙ c.place.ensures in
    let entries = c.args.self.now.catalog.index.entries in
    let gives = c.in_ok-read_place.ensures in
    reads_there g.K.Disk.HONEST (g.K.Disk.kept c.args.self.now.disk) c.args.self.now.keys entries entries c.args.self.now.failures.count c.read_place.new.failures.count c.args.id c.in-Some.place.now c.args.out.now.items c.read_place.new.out.items c.args.self.now.kept found (gives.alike.given, gives.alike.appended) gives.honest gives.same refl gives.counted

pub returns-clause-alike : goal.returns-clause-alike
returns-clause-alike g c =
    let found = sym (ap option_copied c.in-Some.is) ∙ c.place.ensures in
    let sound = (c.args.self.now.kept c.args.id c.in-Some.place.now (sym found)).1 in
    gives_alike c.args.self.now.keys c.args.self.now.catalog.index.entries c.args.id c.in-Some.place.now c.args.out.now.items c.read_place.new.out.items sound found c.in_ok-read_place.ensures.alike
