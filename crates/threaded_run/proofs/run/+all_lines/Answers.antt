use Rattle.std.proofs.Common.{map, rules, arith, Err}
use Rattle.threaded_run.proofs.Working.{have_front, have_last, given_here, mapped}
use Rattle.threaded_run.proofs.run.+all_lines.Goals as goal

pub returns : goal.returns
returns t c =
    given_here c.pop.new.self.items c.args.outs.items (map (λ t. t.items) c.in_ok-texts.texts.items) (map (λ t. t.items) c.push.new.self.items) c.in-Ok.lines (search rules) (mapped c.push.new.self.items c.in_ok-texts.texts.items c.in-Ok.lines (search rules)) c.in_ok-texts.ensures

pub unreachable-requires : goal.unreachable-requires
unreachable-requires t c = have_last c.pop.new.self.items c.args.outs.items (Err c.in-Err._fault) (search rules) c.requires

pub all_lines-requires : goal.all_lines-requires
all_lines-requires t c = (search (rules, arith), have_front c.pop.new.self.items c.args.outs.items c.in-Some.last (search rules) c.requires)
