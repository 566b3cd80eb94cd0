-- The arguments of a request.
use Rattle.std.specs.Prelude.{ℕ, List}
use Rattle.resp.specs.Parsing.{arguments_in}
use Rattle.commands.specs.declared.arguments.Arguments.{Arguments}

abbrev pub listed : Arguments → List (List ℕ)
listed arguments = arguments_in arguments.bytes.now arguments.spans.now
