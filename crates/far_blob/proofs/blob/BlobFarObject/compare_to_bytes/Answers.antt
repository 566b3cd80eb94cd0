use Rattle.std.proofs.Common.{◌≡◌, ◌++◌, ◌<◌, ◌^◌, subst, ◌∙◌, ap, arith, length}
use Rattle.std.specs.Int.{w32, to_be_bytes}
use Rattle.std.specs.Ordering.{nat_cmp, ordering_then}
use Rattle.std.specs.Cmp.Lexicographic.{slice_cmp}
use Rattle.std.proofs.lemmas.List.{take-append-drop}
use Rattle.far_object.proofs.Spelled.{others_decide, equals_leave}
use Rattle.far_blob.specs.Encodings.{IsBlob, enc_blob}
use Rattle.far_blob.proofs.Lengths.{lengths_decide}
use Rattle.far_blob.proofs.blob.BlobFarObject.compare_to_bytes.Goals as goal
use Rattle.far_blob.proofs.blob.BlobFarObject.compare_to_bytes.Goals.{After-cmp-in-Some}

-- the lengths decide, and else the bytes
decide : (c : After-cmp-in-Some) → ordering_then c.cmp-in-Some.result (slice_cmp nat_cmp c.args.self.now c.in-Some.rest.now) ≡ slice_cmp nat_cmp (enc_blob c.args.self.now) c.args.bytes.now
decide c =
    let cases = c.in-Some.ensures.cases in
    let is : IsBlob c.args.self.now = subst IsBlob c.self.view_is c.self.invariant in
    let few : length c.args.self.now < 2 ^ 32 = omega (arith, is.0) in
    let bytes : to_be_bytes w32 c.length_of.result ++ c.in-Some.rest.now ≡ c.args.bytes.now =
    (λ i. (c.length_of.ensures.bytes ∙ cases.0) i ++ cases.1 i) ∙ take-append-drop 4 c.args.bytes.now in
    let told : c.cmp-in-Some.result ≡ nat_cmp (length c.args.self.now) c.length_of.result = c.cmp-in-Some.ensures ∙ ap (λ m. nat_cmp m c.length_of.result) (omega (arith, c.self.inside.bytes.ok.0, ap length c.self.view_is)) in
    ap (λ o. ordering_then o (slice_cmp nat_cmp c.args.self.now c.in-Some.rest.now)) told
    ∙ lengths_decide (length c.args.self.now) c.length_of.result c.args.self.now c.in-Some.rest.now few c.length_of.ensures.below
    ∙ ap (slice_cmp nat_cmp (enc_blob c.args.self.now)) bytes

pub returns-in-Equal : goal.returns-in-Equal
returns-in-Equal c =
    c.order.ensures ∙ ap (λ z. slice_cmp nat_cmp z c.in-Some.rest.now) c.as_bytes.ensures
    ∙ equals_leave c.cmp-in-Some.result _ c.in-Equal.is ∙ decide (goal.at.returns-in-Equal c).After-cmp-in-Some

pub returns-in_default : goal.returns-in_default
returns-in_default c = others_decide c.cmp-in-Some.result _ c.in_default.not-Equal ∙ decide (goal.at.returns-in_default c).After-cmp-in-Some
