use Rattle.std.proofs.Common.{rules, ◌≡◌, ◌∙◌, ◌≤◌, ◌<◌, arith}
use Rattle.wordcount.proofs.Keeping.{word_stays, word_or_last_goes}
use Rattle.wordcount.proofs.top.Top.take_word.Goals as goal

pub returns-then-len-self-clause-first : goal.returns-then-len-self-clause-first
returns-then-len-self-clause-first c = word_or_last_goes c.args.self.now.most _ _ c.args.self.now.kept c.push.new.self c.pop.new.self _ c.pop.result c.count_of.ensures (c.in_ok-word.ensures.items ∙ c.as_bytes.ensures) c.in_ok-push.ensures.permutation
    (search rules) (c.in_ok-push.ensures.heap_order c.args.self.now.ordered) c.pop.ensures.permutation c.pop.ensures.heap_order c.pop.ensures.none

pub returns-else-len-self-clause-first : goal.returns-else-len-self-clause-first
returns-else-len-self-clause-first c = word_stays c.args.self.now.most _ _ c.args.self.now.kept c.push.new.self _ c.count_of.ensures (c.in_ok-word.ensures.items ∙ c.as_bytes.ensures) c.in_ok-push.ensures.permutation (search rules)
