use Rattle.command_file.proofs.words.two_words.Goals as goal

pub returns-in_err-first : goal.returns-in_err-first
returns-in_err-first c = rw c.from_residual.ensures (c.in_err-first.ensures 0)
