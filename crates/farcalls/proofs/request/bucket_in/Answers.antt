use Rattle.std.proofs.Common.{◌≡◌, ◌<ℤ◌, ◌≤ℤ◌, Bool, ℕ, ℤ, pos, to_z, of_z, w64, sym, subst, ◌∙◌, arith}
use Rattle.std.specs.Prelude.{MatchBool}
use Rattle.std.proofs.lemmas.Int.{to_z-of_z}
use Rattle.farcalls.proofs.Buckets.{negative, too_high}
use Rattle.farcalls.proofs.request.bucket_in.Goals as goal

pub returns-in_default : goal.returns-in_default
returns-in_default c bucket small is = c.in_default.ensures (pos bucket) (omega (arith, small)) is

pub returns-then-is_negative : goal.returns-then-is_negative
returns-then-is_negative c bucket small is =
    let z = c.in-Some.number in
    let passed : ℤ = to_z w64 (of_z w64 z) in
    let back : passed ≡ z = grind (arith, to_z-of_z) in
    let below : passed <ℤ pos 0 = subst (λ (b : Bool). MatchBool b (passed <ℤ pos 0) (pos 0 ≤ℤ passed)) c.if-is_negative.true c.is_negative.ensures in
    negative z bucket small (subst (λ (x : ℤ). x <ℤ pos 0) back below) (sym c.in-Some.ensures ∙ is)

pub returns-then-is_too_high : goal.returns-then-is_too_high
returns-then-is_too_high c bucket small is =
    let z = c.in-Some.number in
    let passed : ℤ = to_z w64 (of_z w64 z) in
    let back : passed ≡ z = grind (arith, to_z-of_z) in
    let high : (pos 4294967295 <ℤ passed) × (passed <ℤ pos 9223372036854775808) = subst (λ (b : Bool). MatchBool b ((pos 4294967295 <ℤ passed) × (passed <ℤ pos 9223372036854775808)) (passed ≤ℤ pos 4294967295)) c.if-is_too_high.true c.is_too_high.ensures in
    too_high z bucket small (subst (λ (x : ℤ). pos 4294967295 <ℤ x) back high.0) (subst (λ (x : ℤ). x <ℤ pos 9223372036854775808) back high.1) (sym c.in-Some.ensures ∙ is)
