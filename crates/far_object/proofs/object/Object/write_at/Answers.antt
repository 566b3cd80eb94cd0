use Rattle.std.proofs.Common.{◌≡◌, ◌++◌, List, ℕ, ap, sym, ◌∙◌, append_assoc}
use Rattle.far_object.specs.Formats.{header_of, spelling}
use Rattle.far_object.specs.Objects.{object_of}
use Rattle.far_object.proofs.object.Object.write_at.Goals as goal

joined : (old reserved headed all header object front back : List ℕ) → reserved ≡ old → headed ≡ reserved ++ header → all ≡ headed ++ object → header ≡ front → object ≡ back → all ≡ old ++ (front ++ back)
joined old reserved headed all header object front back r h a f b =
    a ∙ (ap (λ z. z ++ object) (h ∙ ap (λ z. z ++ header) r) ∙ (append_assoc old header object ∙ (ap (λ z. old ++ (z ++ object)) f ∙ ap (λ z. old ++ (front ++ z)) b)))

pub returns-in_ok-extend_from_slice-in-Two-2-clause-ok : goal.returns-in_ok-extend_from_slice-in-Two-2-clause-ok
returns-in_ok-extend_from_slice-in-Two-2-clause-ok g c =
    joined _ _ _ _ _ _ (header_of c.args.bucket c.args.name) (object_of g.K.FarObject.enc g.V.FarObject.enc c.args.self.now) c.reserve.ensures.items c.in_ok-extend_from_slice-in-Two.ensures.items c.in_ok-extend_from_slice-in-Two-2.ensures.items c.header.ensures c.as_bytes-object.ensures.is
    ∙ ap (λ z. c.args.out.now.items ++ spelling g.K.FarObject.enc g.V.FarObject.enc z c.args.bucket c.args.name c.args.self.now) (sym c.in-Two.is)
