use Rattle.std.proofs.Common.{arith}
use Rattle.far_driver.proofs.Files.{given_count}
use Rattle.far_driver.proofs.run.run_files.Goals as goal

pub run_files-requires-clause-some : goal.run_files-requires-clause-some
run_files-requires-clause-some g c κs lives = omega (arith, given_count (λ f. g.B.Read.remaining f) c.args.files.items c.in_ok-scripts.scripts.items c.in_ok-scripts.ensures.said, c.requires.some)

pub run_files-requires-clause-few : goal.run_files-requires-clause-few
run_files-requires-clause-few g c κs lives = omega (arith, given_count (λ f. g.B.Read.remaining f) c.args.files.items c.in_ok-scripts.scripts.items c.in_ok-scripts.ensures.said, c.requires.few)
