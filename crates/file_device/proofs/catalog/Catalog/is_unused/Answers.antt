use Rattle.std.proofs.Common.{ℕ, subst, arith, below_more}
use Rattle.file_device.specs.Places.{IsFree}
use Rattle.file_device.proofs.Owned.{unused_by_all}
use Rattle.file_device.proofs.catalog.Catalog.is_unused.Goals as goal

pub loop-place-preserved : goal.loop-place-preserved
loop-place-preserved c =
    let P : ℕ → Type 0 = λ number. IsFree c.args.self.now.index.entries (record { class = c.args.class; number = number }) in
    below_more P c.loop-place.place c.loop-place.invariant (subst P c.in-Ok.ensures.1 c.if-not-is_free.ensures)

pub returns : goal.returns
returns c =
    unused_by_all c.args.self.now.index.entries c.args.self.now.owners.ledgers c.args.class c.args.self.now.owned
    (λ number below. c.loop-place.invariant number (omega (arith, c.count-place-end.ensures, below, c.loop-place-test.false)))
