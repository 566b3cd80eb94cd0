use Rattle.std.proofs.Common.{◌≡◌, ℕ, List, length, arith, rules, sym, subst}
use Rattle.std.proofs.lemmas.List.{nil_from_length}
use Rattle.resp.specs.Lines.{Lacks}
use Rattle.resp.specs.Laws.{AreNumbers}
use Rattle.resp.specs.Replies.{token, IsTaken}
use Rattle.resp.proofs.Receiving.{nothing_received}
use Rattle.resp.proofs.tokens.receive.Goals as goal

pub returns-then-is_empty : goal.returns-then-is_empty
returns-then-is_empty c =
    let fits : AreNumbers c.args.limits = record { arguments = omega arith; bytes = omega arith; line = omega arith } in
    let none : length c.args.bytes.now ≡ 0 = search rules in
    let P : List ℕ → Type 0 = λ l. Lacks token (IsTaken c.args.limits) l 3 in
    subst P (sym (nil_from_length c.args.bytes.now none)) (nothing_received c.args.limits fits)
