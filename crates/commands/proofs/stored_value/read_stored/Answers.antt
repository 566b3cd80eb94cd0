-- Eight bytes are what their number is written as.
use Rattle.std.proofs.Common.{◌≡◌, ◌++◌, take, drop, length, arith, sym, ap, ◌∙◌, take-append-drop, length-take-le}
use Rattle.std.specs.Int.{w64, to_be_bytes, from_be_bytes}
use Rattle.std.proofs.lemmas.Nat.{be_bytes_8}
use Rattle.commands.proofs.Numbers.{bytes_taken}
use Rattle.commands.proofs.stored_value.read_stored.Goals as goal

pub returns : goal.returns
returns c =
    let bytes = c.args.bytes.now in
    let front = c.in_ok-front.ensures.cases in
    let n = c.from_be_bytes.result in
    let value : n ≡ from_be_bytes w64 (take 8 bytes) = c.from_be_bytes.ensures ∙ ap (from_be_bytes w64) front.0 in
    let long : length (take 8 bytes) ≡ 8 = length-take-le 8 bytes (omega arith) in
    let back : to_be_bytes w64 n ≡ take 8 bytes = be_bytes_8 (take 8 bytes) n long (bytes_taken 8 bytes (λ i. omega (arith, c.type_inv.bytes i))) value in
    sym (take-append-drop 8 bytes) ∙ (ap (λ l. l ++ drop 8 bytes) (sym back) ∙ ap (λ l. to_be_bytes w64 n ++ l) (sym front.1))
