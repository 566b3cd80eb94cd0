use Rattle.std.proofs.Common.{◌+◌, ℕ, List, [], ◌∷◌, drop, subst, arith, refl}
use Rattle.std.proofs.lemmas.List.{take_rest}
use Rattle.resp.specs.Lines.{number, Spoilt, IsPositive}
use Rattle.resp.proofs.Commands.{behind_two}
use Rattle.resp.proofs.Outcomes.{front_spoilt}
use Rattle.resp.proofs.array.negative_at.Goals as goal

pub returns-in-Bad : goal.returns-in-Bad
returns-in-Bad c =
    let bytes = c.args.bytes.now in
    let at = c.in-Bad.at in
    let P : List ℕ → Type 0 = λ l. Spoilt number (IsPositive 9223372036854775808) l at in
    let bad : Spoilt number (IsPositive 9223372036854775808) (drop 2 bytes) at = subst P (take_rest bytes 2) c.in-Bad.ensures in
    (front_spoilt number (IsPositive 9223372036854775808) (42 ∷ 45 ∷ []) (drop 2 bytes) bytes at (at + 2) (behind_two bytes 42 45 c.requires.some c.requires.marked c.requires.minus) (omega arith) bad, refl)
