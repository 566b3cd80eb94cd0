use Rattle.std.proofs.Common.{refl, inl, inr}
use Rattle.run_lines.specs.Replies.{IsPlaceLine}
use Rattle.threaded_run.proofs.Adding.{line_so}
use Rattle.threaded_run.proofs.command.push_state.Goals as goal

pub returns-in-Empty : goal.returns-in-Empty
returns-in-Empty c = line_so c.push_place.result c.args.lines.now.items c.push_place.new.lines.items _ IsPlaceLine (_, inl refl) c.push_place.ensures

pub returns-in-Local : goal.returns-in-Local
returns-in-Local c = line_so c.push_place-in-Local.result c.args.lines.now.items c.push_place-in-Local.new.lines.items _ IsPlaceLine (_, inr (inl refl)) c.push_place-in-Local.ensures

pub returns-in-Far : goal.returns-in-Far
returns-in-Far c = line_so c.push_place-in-Far.result c.args.lines.now.items c.push_place-in-Far.new.lines.items _ IsPlaceLine (_, inr (inr refl)) c.push_place-in-Far.ensures
