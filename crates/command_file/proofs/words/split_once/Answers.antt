use Rattle.std.proofs.Common.{◌≡◌, ◌≢◌, ◌+◌, ◌-◌, ◌<◌, get_or, length, take, drop, false, All, sym, ap, ◌∙◌, ne_eqb, arith, rules, take_all, length-drop, ◌∷◌}
use Rattle.std.specs.Prelude.{◌==◌}
use Rattle.std.proofs.lemmas.List.Elements.{All-weaker}
use Rattle.std.proofs.lemmas.Grind.{common_steps}
use Rattle.command_file.specs.Words.{words_in}
use Rattle.command_file.proofs.Spelling.{words_in-one, split-at}
use Rattle.command_file.proofs.words.split_once.Goals as goal

pub returns-in_err-at-clause-parts : goal.returns-in_err-at-clause-parts
returns-in_err-at-clause-parts c =
    let none : All (λ byte. byte ≢ 32) c.args.bytes.now = search rules in
    let one = words_in-one c.args.bytes.now (All-weaker (λ byte. byte ≢ 32) (λ byte. (byte == 32) ≡ false) (λ byte ne. ne_eqb byte 32 ne) c.args.bytes.now none) in
    rw c.from_residual.ensures one

pub returns-clause-parts : goal.returns-clause-parts
returns-clause-parts c =
    let bytes = c.args.bytes.now in
    let at = c.in_ok-at.at in
    let inside : at < length bytes = search rules in
    let front : All (λ byte. byte ≢ 32) (take at bytes) = grind (arith, common_steps) in
    let space : get_or bytes at 0 ≡ 32 = search rules in
    let rest : take (length bytes - (at + 1)) (drop (at + 1) bytes) ≡ drop (at + 1) bytes = take_all (length bytes - (at + 1)) (drop (at + 1) bytes) (omega (arith, length-drop (at + 1) bytes)) in
    split-at bytes at inside front space ∙ ap (λ l. take at bytes ∷ words_in l) (sym rest)
