use Rattle.std.proofs.Common.{IsSome, refl, subst}
use Rattle.file_device.proofs.Labels.{unlabels, owned_unlabelled}
use Rattle.file_device.proofs.catalog.Catalog.unlabel.Goals as goal

pub returns-in-Some : goal.returns-in-Some
returns-in-Some c =
    let there = subst IsSome c.in-Some.ensures.value refl in
    unlabels c.args.self.now.index.entries _ c.args.id c.in-Some.place.now _ c.in-Some.ensures.value ((c.get_mut.follows.holds _).3 there).0

pub invariant_of-self : goal.invariant_of-self
invariant_of-self c =
    let there = subst IsSome c.in-Some.ensures.value refl in
    record {
      owned = owned_unlabelled c.args.self.now.index.entries _ c.args.self.now.owners.ledgers c.args.id c.args.self.now.owned (unlabels c.args.self.now.index.entries _ c.args.id c.in-Some.place.now _ c.in-Some.ensures.value ((c.get_mut.follows.holds _).3 there).0);
    }
