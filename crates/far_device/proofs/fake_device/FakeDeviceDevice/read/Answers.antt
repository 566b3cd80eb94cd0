use Rattle.std.proofs.Common.{◌≡◌, ◌++◌, ap, ◌∙◌, sym, refl, subst, Some}
use Rattle.std.specs.Option.{IfSome, option_copied, is_some}
use Rattle.far_device.proofs.Kept.{contains_key-contents_of, get-of_kept}
use Rattle.far_device.proofs.fake_device.FakeDeviceDevice.read.Goals as goal

pub returns-in_default-clause-reads : goal.returns-in_default-clause-reads
returns-in_default-clause-reads c = record {
  found = ap is_some (sym (ap option_copied c.in_default.is))
      ∙ sym (contains_key-contents_of c.self.inside.kept.entries c.args.self.now c.args.id (option_copied c.get.result) c.self.view_is c.get.ensures.value);
  appended = tt;
  honest = λ _. tt;
  absent = refl;
  fault = tt;
  kept = refl;
  counted = refl;
}

pub returns-clause-reads : goal.returns-clause-reads
returns-clause-reads c =
    let entries = c.self.inside.kept.entries in
    let found = sym (ap option_copied c.in-Some.is) ∙ c.get.ensures.value in
    let appended = c.in_ok-extend_from_slice.ensures.items ∙ ap (λ bytes. c.args.out.now.items ++ bytes) c.deref.ensures.value in
    record {
      found = sym (contains_key-contents_of entries c.args.self.now c.args.id (Some c.in-Some.bytes.now) c.self.view_is found);
      appended = (c.in-Some.bytes.now.items, appended);
      honest = λ _. subst (λ o. IfSome o (λ bytes. c.extend_from_slice.new.self.items ≡ c.args.out.now.items ++ bytes))
          (sym (get-of_kept entries c.args.self.now c.args.id c.in-Some.bytes.now c.self.view_is found)) appended;
      absent = tt;
      fault = tt;
      kept = refl;
      counted = refl;
    }
