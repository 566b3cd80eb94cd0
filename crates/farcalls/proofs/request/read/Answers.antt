use Rattle.commands.specs.Arguments.{listed}
use Rattle.farcalls.proofs.Reading.{spelled}
use Rattle.farcalls.proofs.request.read.Goals as goal

pub returns : goal.returns
returns c = spelled (listed c.args.arguments) c.in_ok-word.word.now (listed c.in_ok-word.rest) c.in_ok-name.name c.of_name.result c.in_ok-word.ensures c.in_ok-name.ensures c.of_name.ensures
