-- The requests that wait for EXEC.
use Rattle.std.specs.Prelude.{ℕ, List, map}
use Rattle.resp.specs.Parsing.{arguments_in}
use Rattle.far_server.specs.declared.queue.Request.{Request}
use Rattle.far_server.specs.declared.queue.Queue.{Queue}

-- the arguments of a request that waits
abbrev pub held : Request → List (List ℕ)
held request = arguments_in request.bytes.items request.spans.items

-- all of them, in order
abbrev pub waiting : Queue → List (List (List ℕ))
waiting queue = map held queue.requests.items
