use Rattle.std.proofs.Common.{refl, rules}
use Rattle.std.proofs.lemmas.Result.{on_ok_weaker}
use Rattle.server_commands.specs.Greeting.{greeting}
use Rattle.server_commands.proofs.Growing.{replies_of}
use Rattle.server_commands.proofs.greeting.hello.Goals as goal

pub returns-clause-done : goal.returns-clause-done
returns-clause-done c = on_ok_weaker c.restored.result (replies_of 1 (greeting c.args.client) _ _ refl) (search rules)
