use Rattle.far_driver.specs.Sources.{was_not_opened}
use Rattle.far_driver.proofs.sources.open_source.Goals as goal

pub returns-in-Err : goal.returns-in-Err
returns-in-Err g c = (λ is. let e = rw is at c.eq.ensures in cc, was_not_opened c.args.name.now)
