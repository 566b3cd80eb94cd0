use Rattle.std.proofs.Common.{sym, ◌∙◌, true≢false}
use Rattle.command_file.proofs.Spelling.{words_in-word, only_word}
use Rattle.command_file.proofs.words.one_word.Goals as goal

pub returns-then-is_word : goal.returns-then-is_word
returns-then-is_word c = let is = c.is_word.ensures.0 c.if-is_word.true in (words_in-word c.args.bytes.now is, is)

pub returns-else-is_word : goal.returns-else-is_word
returns-else-is_word c = λ are. true≢false (sym (c.is_word.ensures.1 (only_word c.args.bytes.now are)) ∙ c.if-is_word.false)
