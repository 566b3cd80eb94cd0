use Rattle.std.proofs.Common.{List, ℕ, map, subst}
use Rattle.wordcount.specs.Tops.{GoesOn, counted, words_in}
use Rattle.wordcount.proofs.Counting.{first_of_all, handed_of}
use Rattle.wordcount.proofs.count.Goals as goal

pub returns : goal.returns
returns g c =
    let run = handed_of c.in-Ok.both.1 c.in-Ok-ended.field-0 c.in-Ok-ended.is c.in-Ok.ensures.ran in
    let before = words_in c.new-top.result.kept in
    let after = words_in c.run_through-ran.new.taker.kept in
    let words = map counted run.handed.0 in
    record {
      counted = record {
        config = _;
        opened = c.in-Ok.ensures.opened;
        passes = run.passes;
        pairs = run.handed.0;
        ended = run.handed.2;
        first = first_of_all c.args.asked.now.top before words after c.new-top.ensures.none (subst (λ (most : ℕ). GoesOn most before words after) c.new-top.ensures.most run.handed.1.1);
      };
    }
