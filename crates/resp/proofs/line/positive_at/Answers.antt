use Rattle.std.proofs.Common.{◌≡◌, ◌<◌, length, ℕ, List, arith, sym, subst, rules}
use Rattle.std.proofs.lemmas.List.{nil_from_length}
use Rattle.resp.specs.Lines.{number, Lacks, IsPositive}
use Rattle.resp.proofs.Numbers.{first_taken}
use Rattle.resp.proofs.Positives.{positive_yet, zero_first, positive_is}
use Rattle.resp.proofs.line.positive_at.Goals as goal

pub returns-then-is_empty : goal.returns-then-is_empty
returns-then-is_empty c =
    let none : length c.args.bytes.now ≡ 0 = search rules in
    let P : List ℕ → Type 0 = λ l. Lacks number (IsPositive c.args.most) l 3 in
    (subst P (sym (nil_from_length c.args.bytes.now none)) (positive_yet c.args.most (omega arith) (omega arith)), omega arith)

pub returns-then-bytes-eq48 : goal.returns-then-bytes-eq48
returns-then-bytes-eq48 c =
    let bytes = c.args.bytes.now in
    let some : 0 < length bytes = search rules in
    zero_first c.args.most bytes (omega arith) (omega arith) some (first_taken bytes 48 some c.if-bytes-eq48.true)

pub returns : goal.returns
returns c =
    let bytes = c.args.bytes.now in
    let some : 0 < length bytes = search rules in
    positive_is c.args.most bytes c.number_at.result (omega arith) some c.if-bytes-eq48.false c.number_at.ensures
