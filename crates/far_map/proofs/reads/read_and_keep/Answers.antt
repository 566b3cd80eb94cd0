use Rattle.std.specs.Fn.{FnOnceReturnsAt}
use Rattle.far_map.proofs.Trying.{read_on}
use Rattle.far_map.proofs.Losses.{loses_trans}
use Rattle.far_map.proofs.reads.read_and_keep.Goals as goal

pub returns-clause-read : goal.returns-clause-read
returns-clause-read g c =
    read_on g.V.FarObject.enc g.J.Naming.limits c.args.map.now.table.limit c.args.session_state.now.caller.pass c.read_value-made.new.session_state.caller.pass c.after_call.new.session_state.caller.pass c.args.key.now (λ v. FnOnceReturnsAt g.F.FnOnce c.args.read (g.V.Value.shows v)) c.read_value-made.result
    c.read_value-made.ensures.read c.after_call.ensures.goes

pub returns-clause-none_lost : goal.returns-clause-none_lost
returns-clause-none_lost g c = loses_trans _ _ _ _ _ _ c.read_value-made.ensures.none_lost c.after_call.ensures.none_lost
