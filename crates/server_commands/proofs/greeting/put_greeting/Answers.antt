use Rattle.std.proofs.Common.{◌≡◌, min, pos, to_z, w64, ap, ◌∙◌, rules, arith}
use Rattle.std.proofs.lemmas.Int.{to_z_pos}
use Rattle.std.proofs.lemmas.Result.{on_ok_weaker}
use Rattle.server_commands.proofs.Growing.{tells_more, tells_one, figure_as, grows_on}
use Rattle.server_commands.proofs.greeting.put_greeting.Goals as goal

pub returns-clause-told : goal.returns-clause-told
returns-clause-told c =
    let least : c.min-id.result ≡ min c.args.client 9223372036854775807 = search rules in
    let number : to_z w64 c.min-id.result ≡ pos c.min-id.result = to_z_pos w64 c.min-id.result (omega (arith, least)) in
    let id = figure_as _ _ _ _ _ (number ∙ ap pos least) c.in_ok-put_figure-2.ensures.told in
    let front = tells_more _ _ _ _ _ (tells_one _ _ _ c.in_ok-put_count.ensures.done) (tells_more _ _ _ _ _ c.in_ok-put_word.ensures.told c.in_ok-put_word-2.ensures.told) in
    let four = tells_more _ _ _ _ _ front (tells_more _ _ _ _ _ c.in_ok-put_figure.ensures.told id) in
    let six = tells_more _ _ _ _ _ four (tells_more _ _ _ _ _ c.in_ok-put_word-3.ensures.told c.in_ok-put_word-4.ensures.told) in
    on_ok_weaker c.put_modules.result (tells_more _ _ _ _ _ six) c.put_modules.ensures.told

pub returns-in_err-put_figure-2-clause-grown : goal.returns-in_err-put_figure-2-clause-grown
returns-in_err-put_figure-2-clause-grown c =
    let two = grows_on _ _ _ c.in_ok-put_count.ensures.grown (grows_on _ _ _ c.in_ok-put_word.ensures.grown c.in_ok-put_word-2.ensures.grown) in
    grows_on _ _ _ two (grows_on _ _ _ c.in_ok-put_figure.ensures.grown c.in_err-put_figure-2.ensures.grown)

pub returns-in_err-put_word-3-clause-grown : goal.returns-in_err-put_word-3-clause-grown
returns-in_err-put_word-3-clause-grown c =
    let two = grows_on _ _ _ c.in_ok-put_count.ensures.grown (grows_on _ _ _ c.in_ok-put_word.ensures.grown c.in_ok-put_word-2.ensures.grown) in
    let four = grows_on _ _ _ two (grows_on _ _ _ c.in_ok-put_figure.ensures.grown c.in_ok-put_figure-2.ensures.grown) in
    grows_on _ _ _ four c.in_err-put_word-3.ensures.grown

pub returns-in_err-put_word-4-clause-grown : goal.returns-in_err-put_word-4-clause-grown
returns-in_err-put_word-4-clause-grown c =
    let two = grows_on _ _ _ c.in_ok-put_count.ensures.grown (grows_on _ _ _ c.in_ok-put_word.ensures.grown c.in_ok-put_word-2.ensures.grown) in
    let four = grows_on _ _ _ two (grows_on _ _ _ c.in_ok-put_figure.ensures.grown c.in_ok-put_figure-2.ensures.grown) in
    grows_on _ _ _ four (grows_on _ _ _ c.in_ok-put_word-3.ensures.grown c.in_err-put_word-4.ensures.grown)

pub returns-clause-grown : goal.returns-clause-grown
returns-clause-grown c =
    let two = grows_on _ _ _ c.in_ok-put_count.ensures.grown (grows_on _ _ _ c.in_ok-put_word.ensures.grown c.in_ok-put_word-2.ensures.grown) in
    let four = grows_on _ _ _ two (grows_on _ _ _ c.in_ok-put_figure.ensures.grown c.in_ok-put_figure-2.ensures.grown) in
    let six = grows_on _ _ _ four (grows_on _ _ _ c.in_ok-put_word-3.ensures.grown c.in_ok-put_word-4.ensures.grown) in
    grows_on _ _ _ six c.put_modules.ensures.grown
