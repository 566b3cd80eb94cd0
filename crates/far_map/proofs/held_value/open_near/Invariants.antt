use mathlib.Core.List.{IsPrefix}
use Rattle.version_words.specs.Views.{Goes}
use Rattle.far_map.proofs.held_value.open_near.Given as goal

abbrev pub invariant-loop : goal.invariant-loop
invariant-loop g l = Goes l.fn.caller.pass l.caller.pass × IsPrefix l.fn.caller.limbo l.caller.limbo
