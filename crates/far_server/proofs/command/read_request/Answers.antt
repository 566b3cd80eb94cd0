use Rattle.commands.specs.Arguments.{listed}
use Rattle.far_server.proofs.Passing.{is_read_at}
use Rattle.far_server.proofs.command.read_request.Goals as goal

pub returns : goal.returns
returns c = is_read_at c.args.now (listed c.args.request) c.read.result c.read.ensures.spelt c.read.ensures.counted
