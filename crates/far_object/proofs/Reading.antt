-- The pairs that an object's bytes are read as.
use Rattle.std.proofs.Common.{◌≡◌, ℕ, ◌+◌, ◌≤◌, List, [], ◌∷◌, ◌++◌, length, drop, take, refl, ap, sym, ◌∙◌, subst, arith, length-append, ◌-◌}
use Rattle.std.specs.Prelude.{Option, Ok, Err}
use Rattle.std.specs.List.{AllByRecursion}
use Rattle.std.proofs.lemmas.Nat.{from_be_bytes-to_be_bytes_4}
use Rattle.std.proofs.lemmas.List.{drop_at, take_rest}
use Rattle.far_object.specs.declared.fault.ObjectFault.{ObjectFault}
use Rattle.far_object.specs.Encodings.{FarLaws, skipped}
use Rattle.far_object.specs.Objects.{body_of, object_of, IsMap}
use Rattle.far_object.specs.Decoded.{pairs_in, decoded_pairs, IsObject, BeginsWith}

module _ {K V : Type 0} (ek : K → List ℕ) (ev : V → List ℕ) (dk : List ℕ → Option K) (dv : List ℕ → Option V) (AK : K → Type 0) (AV : V → Type 0) (lk : FarLaws ek dk AK) (lv : FarLaws ev dv AV) where
  read_pairs : (es : List (K × V)) → AllByRecursion (λ e. AK e.0 × AV e.1) es → pairs_in ek ev dk dv (length es) (body_of ek ev es) ≡ es
  read_pairs [] h = refl
  read_pairs (e ∷ es) h =
      let more = body_of ek ev es in
      let a = lk.reads e.0 (ev e.1 ++ more) h.0.0 in
      let b = drop_at (ek e.0) (ev e.1 ++ more) (length (ek e.0)) refl in
      let c = lv.reads e.1 more h.0.1 in
      let d = drop_at (ev e.1) more (length (ev e.1)) refl in
      rw (a, b, c, d) (ap (λ (w : List (K × V)). e ∷ w) (read_pairs es h.1))

  read_back : (es : List (K × V)) → IsMap ek AK AV es → decoded_pairs ek ev dk dv (object_of ek ev es) ≡ es
  read_back es m =
      let f = m.few in
      let n = from_be_bytes-to_be_bytes_4 (length es) (omega (arith, f)) in
      rw n (read_pairs es m.admitted)

  -- an object's bytes are read as its pairs
  pub is_read : (bytes : List ℕ) (es : List (K × V)) → bytes ≡ object_of ek ev es → IsMap ek AK AV es → decoded_pairs ek ev dk dv bytes ≡ es
  is_read bytes es is m = ap (λ z. decoded_pairs ek ev dk dv z) is ∙ read_back es m

  pub is_object : (bytes : List ℕ) (es : List (K × V)) → bytes ≡ object_of ek ev es → IsMap ek AK AV es → IsObject ek ev dk dv AK AV bytes
  is_object bytes es is m =
      let r = is_read bytes es is m in
      record { is = is ∙ ap (λ (z : List (K × V)). object_of ek ev z) (sym r); map = subst (λ (z : List (K × V)). IsMap ek AK AV z) (sym r) m }

  -- the lengths of the pair that the bytes begin with
  pub key_skip : (bytes : List ℕ) (e : K × V) → BeginsWith ek ev AK AV bytes e → skipped ek (dk bytes) ≡ Ok (length (ek e.0))
  key_skip bytes e h = rw (h.is, lk.reads e.0 (ev e.1 ++ h.more) h.key) refl

  pub value_skip : (bytes : List ℕ) (e : K × V) → BeginsWith ek ev AK AV bytes e → skipped ev (dv (drop (length (ek e.0)) bytes)) ≡ Ok (length (ev e.1))
  value_skip bytes e h =
      rw (h.is, drop_at (ek e.0) (ev e.1 ++ h.more) (length (ek e.0)) refl, lv.reads e.1 h.more h.value) refl

  pub first_length : (bytes : List ℕ) (e : K × V) (key : ℕ) → BeginsWith ek ev AK AV bytes e → Ok key ≡ skipped ek (dk bytes) → key ≡ length (ek e.0)
  first_length bytes e key h x = let a = key_skip bytes e h in let y : Ok key ≡ Ok (length (ek e.0)) = x ∙ a in cc

  rest_skip : (bytes : List ℕ) (e : K × V) (key : ℕ) → BeginsWith ek ev AK AV bytes e → Ok key ≡ skipped ek (dk bytes) → skipped ev (dv (take (length bytes - key) (drop key bytes))) ≡ Ok (length (ev e.1))
  rest_skip bytes e key h x =
      let k = first_length bytes e key h x in
      ap (λ z. skipped ev (dv z)) (take_rest bytes key) ∙ (ap (λ n. skipped ev (dv (drop n bytes))) k ∙ value_skip bytes e h)

  pub both_lengths : (bytes : List ℕ) (e : K × V) (key value : ℕ) → BeginsWith ek ev AK AV bytes e → Ok key ≡ skipped ek (dk bytes) → Ok value ≡ skipped ev (dv (take (length bytes - key) (drop key bytes))) → (key ≡ length (ek e.0)) × (value ≡ length (ev e.1))
  both_lengths bytes e key value h x y =
      let b = rest_skip bytes e key h x in let z : Ok value ≡ Ok (length (ev e.1)) = y ∙ b in (first_length bytes e key h x, cc)

  pub no_fault : {X : Type 0} (bytes : List ℕ) (e : K × V) (key : ℕ) (f : ObjectFault) → BeginsWith ek ev AK AV bytes e → Ok key ≡ skipped ek (dk bytes) → Err f ≡ skipped ev (dv (take (length bytes - key) (drop key bytes))) → X
  no_fault bytes e key f h x y = let b = rest_skip bytes e key h x in let z : Err f ≡ Ok (length (ev e.1)) = y ∙ b in cc

  pub no_first_fault : {X : Type 0} (bytes : List ℕ) (e : K × V) (f : ObjectFault) → BeginsWith ek ev AK AV bytes e → Err f ≡ skipped ek (dk bytes) → X
  no_first_fault bytes e f h x = let a = key_skip bytes e h in let z : Err f ≡ Ok (length (ek e.0)) = x ∙ a in cc

  pub pair_within : (bytes : List ℕ) (e : K × V) → BeginsWith ek ev AK AV bytes e → length (ek e.0) + length (ev e.1) ≤ length bytes
  pair_within bytes e h =
      let i = ap length h.is in omega (arith, length-append (ek e.0) (ev e.1 ++ h.more), length-append (ev e.1) h.more)
