-- No writing begins another, and values and maps that are written alike are the same.
use Rattle.std.proofs.Common.{◌≡◌, ℕ, List, [], ◌∷◌, length, drop, refl, ap, sym, ◌∙◌, arith, length-append}
use Rattle.std.proofs.lemmas.List.{append-nil}
use Rattle.std.specs.Prelude.{Option, Some}
use Rattle.far_object.specs.Encodings.{FarLaws}
use Rattle.far_object.specs.Objects.{object_of}
use Rattle.far_object.specs.Laws.{ReadsWhatBegins, BeginNoOther, AreDistinct, MapsAreDistinct, SpellingsAreDistinct}
use Rattle.far_object.proofs.Reading.{is_read}
use Rattle.far_object.proofs.Placing.{same_start}

module _ {X : Type 0} (enc : X → List ℕ) (dec : List ℕ → Option X) (A : X → Type 0) (laws : FarLaws enc dec A) where
  pub reads_what_begins : ReadsWhatBegins enc dec A
  reads_what_begins x bytes b = (
    λ e. (let p = laws.read x bytes b e in (p.0, (drop (length (enc x)) bytes, p.1))),
    λ p. ap dec p.1.1 ∙ laws.reads x p.1.0 p.0,
  )

  pub same_value : AreDistinct enc A
  same_value x y a b e =
      let p : dec (enc x) ≡ Some x = sym (ap dec (append-nil (enc x))) ∙ laws.reads x [] a in
      let q : dec (enc y) ≡ Some y = sym (ap dec (append-nil (enc y))) ∙ laws.reads y [] b in
      let r : Some x ≡ Some y = sym p ∙ (ap dec e ∙ q) in
      cc

  pub none_begins : BeginNoOther enc A
  none_begins x y rest a b e =
      let q : dec (enc y) ≡ Some y = sym (ap dec (append-nil (enc y))) ∙ laws.reads y [] b in
      let r : Some x ≡ Some y = sym (laws.reads x rest a) ∙ (ap dec (sym e) ∙ q) in
      let s : y ≡ x = cc in
      let l : length (enc y) ≡ length (enc x) = ap (λ z. length (enc z)) s in
      empty rest (omega (arith, l, ap length e, length-append (enc x) rest))
    where
      empty : (z : List ℕ) → length z ≡ 0 → z ≡ []
      empty [] h = refl
      empty (w ∷ z) h = absurd (omega arith)

module _ {K V : Type 0} (ek : K → List ℕ) (ev : V → List ℕ) (dk : List ℕ → Option K) (dv : List ℕ → Option V) (AK : K → Type 0) (AV : V → Type 0) (lk : FarLaws ek dk AK) (lv : FarLaws ev dv AV) where
  pub same_map : MapsAreDistinct ek ev AK AV
  same_map es fs m n e =
      sym (is_read ek ev dk dv AK AV lk lv (object_of ek ev es) es refl m) ∙ is_read ek ev dk dv AK AV lk lv (object_of ek ev es) fs e n

  pub same_spelling : SpellingsAreDistinct ek ev AK AV
  same_spelling f g bucket name bucket' name' es fs m n e =
      let p = same_start ek ev AK AV f g bucket name bucket' name' es fs m n e in
      (p.0, same_map es fs m n p.1)
