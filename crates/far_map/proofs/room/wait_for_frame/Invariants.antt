use Rattle.version_words.specs.Views.{Goes}
use Rattle.far_map.specs.Spares.{LosesNone}
use Rattle.far_map.proofs.room.wait_for_frame.Given as goal

abbrev pub invariant-loop : goal.invariant-loop
invariant-loop g l = Goes l.fn.session_state.caller.pass l.session_state.caller.pass × LosesNone l.fn.session_state.caller.limbo l.fn.session_state.seat l.session_state.caller.limbo l.session_state.seat
