use Rattle.std.proofs.Common.{◌≡◌, ◌<◌, ◌≤◌, ℤ, pos, w64, to_z, of_z, FitsSigned, sym, subst, ◌∙◌, arith, rules}
use Rattle.std.specs.Int.{FitsUnsignedBits}
use Rattle.std.proofs.lemmas.Int.{ints, to_z-of_z}
use Rattle.commands.proofs.Numbers.{fits_byte, one_number}
use Rattle.commands.proofs.connection.database_in.Goals as goal

pub returns-in_default-clause-refused : goal.returns-in_default-clause-refused
returns-in_default-clause-refused c = λ d within is. c.in_default.ensures _ (fits_byte d (omega (arith, within))) is

pub returns-else-database-last-clause-refused : goal.returns-else-database-last-clause-refused
returns-else-database-last-clause-refused c = λ d within is.
    let fits : FitsSigned w64 c.in-Some.number = search rules in
    let number : c.in-Some.number ≡ pos d = one_number c.in-Some.number fits d (omega (arith, within)) c.args.index.now c.in-Some.ensures is in
    let round : to_z w64 (of_z w64 c.in-Some.number) ≡ pos d = to_z-of_z w64 c.in-Some.number fits ∙ number in
    absurd (omega (arith, ints, c.if-database-last.false, within, round, c.in-Ok.ensures.1))

pub returns-in-Err-clause-refused : goal.returns-in-Err-clause-refused
returns-in-Err-clause-refused c = λ d within is.
    let fits : FitsSigned w64 c.in-Some.number = search rules in
    let number : c.in-Some.number ≡ pos d = one_number c.in-Some.number fits d (omega (arith, within)) c.args.index.now c.in-Some.ensures is in
    let round : to_z w64 (of_z w64 c.in-Some.number) ≡ pos d = to_z-of_z w64 c.in-Some.number fits ∙ number in
    let small : FitsUnsignedBits 8 (pos d) = search rules in
    c.in-Err.ensures (subst (λ (z : ℤ). FitsUnsignedBits 8 z) (sym round) small)
