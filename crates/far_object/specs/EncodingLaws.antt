-- The laws that the encodings of numbers and of texts keep, proved.
use Rattle.std.specs.Prelude.{zero, suc, ◌≡◌, ℕ, ◌+◌, ◌^◌, ◌<◌, ◌≤◌, Bool, true, false, ltb, if◌then◌else◌, List, [], ◌∷◌, ◌++◌, length, take, drop, Option, Some, None}
use Rattle.std.proofs.Common.{refl, ap, sym, ◌∙◌, subst, arith, length-append}
use Rattle.std.specs.Int.{w16, w64, to_be_bytes, from_be_bytes}
use Rattle.std.proofs.lemmas.Nat.{be_bytes_2, be_bytes_8, from_be_bytes-to_be_bytes_2, from_be_bytes-to_be_bytes_8}
use Rattle.std.proofs.lemmas.List.{take_at, length-take-le, take-append-drop, drop-drop}
use Rattle.std.proofs.lemmas.Bool.Decides.{nat_tests}
use Rattle.far_object.specs.Encodings.{AreBytes, FarLaws, enc_u64, dec_u64, enc_text, dec_text, IsText, text_after}

-- ---- lists of bytes

pub bytes_take : (n : ℕ) (bs : List ℕ) → AreBytes bs → AreBytes (take n bs)
bytes_take zero bs h i = omega arith
bytes_take (suc n) [] h i = h i
bytes_take (suc n) (b ∷ bs) h zero = h 0
bytes_take (suc n) (b ∷ bs) h (suc i) = bytes_take n bs (λ j. h (suc j)) i

pub bytes_drop : (n : ℕ) (bs : List ℕ) → AreBytes bs → AreBytes (drop n bs)
bytes_drop zero bs h i = h i
bytes_drop (suc n) [] h i = h i
bytes_drop (suc n) (b ∷ bs) h i = bytes_drop n bs (λ j. h (suc j)) i

pub bytes_append : (xs ys : List ℕ) → AreBytes xs → AreBytes ys → AreBytes (xs ++ ys)
bytes_append [] ys h g i = g i
bytes_append (x ∷ xs) ys h g zero = h 0
bytes_append (x ∷ xs) ys h g (suc i) = bytes_append xs ys (λ j. h (suc j)) g i

-- a front of n is there
pub front_there : (n : ℕ) (xs rest : List ℕ) → length xs ≡ n → ltb (length (xs ++ rest)) n ≡ false
front_there n xs rest h = let e = length-append xs rest in grind (arith, nat_tests)

pub some_from_if : {X : Type 0} (b : Bool) (y x : X) → (if b then None else Some y) ≡ Some x → (b ≡ false) × (y ≡ x)
some_from_if true y x e = cc
some_from_if false y x e = (refl, cc)

pub some_from_else : {X : Type 0} (b : Bool) (o : Option X) (x : X) → (if b then None else o) ≡ Some x → (b ≡ false) × (o ≡ Some x)
some_from_else true o x e = cc
some_from_else false o x e = (refl, e)

at_least : (n m : ℕ) → ltb n m ≡ false → m ≤ n
at_least n m h = grind (arith, nat_tests)

-- ---- numbers

u64_reads : (x : ℕ) (rest : List ℕ) → x < 2 ^ 64 → dec_u64 (enc_u64 x ++ rest) ≡ Some x
u64_reads x rest h =
    let e = from_be_bytes-to_be_bytes_8 x h in
    let f = front_there 8 (to_be_bytes w64 x) rest refl in
    rw f (ap Some e)

u64_read : (x : ℕ) (bs : List ℕ) → AreBytes bs → dec_u64 bs ≡ Some x → (x < 2 ^ 64) × (bs ≡ enc_u64 x ++ drop (length (enc_u64 x)) bs)
u64_read x bs h e =
    let p = some_from_if (ltb (length bs) 8) (from_be_bytes w64 (take 8 bs)) x e in
    let n = length-take-le 8 bs (at_least (length bs) 8 p.0) in
    let b = bytes_take 8 bs h in
    let t : to_be_bytes w64 x ≡ take 8 bs = be_bytes_8 (take 8 bs) x n b (sym p.1) in
    (below_64 (take 8 bs) x b (sym p.1), sym (take-append-drop 8 bs) ∙ ap (λ w. w ++ drop 8 bs) (sym t))
  where
    below_64 : (ys : List ℕ) (x : ℕ) → AreBytes ys → x ≡ from_be_bytes w64 ys → x < 2 ^ 64
    below_64 ys x b e = omega (arith, b 0, b 1, b 2, b 3, b 4, b 5, b 6, b 7)

u64_bytes : (x : ℕ) → x < 2 ^ 64 → AreBytes (enc_u64 x)
u64_bytes x h zero = omega arith
u64_bytes x h (suc zero) = omega arith
u64_bytes x h (suc (suc zero)) = omega arith
u64_bytes x h (suc (suc (suc zero))) = omega arith
u64_bytes x h (suc (suc (suc (suc zero)))) = omega arith
u64_bytes x h (suc (suc (suc (suc (suc zero))))) = omega arith
u64_bytes x h (suc (suc (suc (suc (suc (suc zero)))))) = omega arith
u64_bytes x h (suc (suc (suc (suc (suc (suc (suc zero))))))) = omega arith
u64_bytes x h (suc (suc (suc (suc (suc (suc (suc (suc i)))))))) = omega arith

pub u64_laws : FarLaws enc_u64 dec_u64 (λ x. x < 2 ^ 64)
u64_laws = record { reads = u64_reads; read = u64_read; bytes = u64_bytes; few = λ x h. omega arith }

-- ---- texts

text_reads : (t rest : List ℕ) → IsText t → dec_text (enc_text t ++ rest) ≡ Some t
text_reads t rest h =
    let e = from_be_bytes-to_be_bytes_2 (length t) h.0 in
    let f : ltb (length (enc_text t ++ rest)) 2 ≡ false = front_there 2 (to_be_bytes w16 (length t)) (t ++ rest) refl in
    let g = front_there (length t) t rest refl in
    rw (f, e, g) (ap Some (take_at t rest (length t) refl))

text_read : (t bs : List ℕ) → AreBytes bs → dec_text bs ≡ Some t → IsText t × (bs ≡ enc_text t ++ drop (length (enc_text t)) bs)
text_read t bs h e =
    let p = some_from_else (ltb (length bs) 2) (text_after (from_be_bytes w16 (take 2 bs)) (drop 2 bs)) t e in
    let n = from_be_bytes w16 (take 2 bs) in
    let q = some_from_if (ltb (length (drop 2 bs)) n) (take n (drop 2 bs)) t p.1 in
    let l : length t ≡ n = ap length (sym q.1) ∙ length-take-le n (drop 2 bs) (at_least (length (drop 2 bs)) n q.0) in
    let b = bytes_take 2 bs h in
    let w : to_be_bytes w16 (length t) ≡ take 2 bs =
    be_bytes_2 (take 2 bs) (length t) (length-take-le 2 bs (at_least (length bs) 2 p.0)) b l in
    let m : n < 2 ^ 16 = below_16 (take 2 bs) n b refl in
    let split : drop 2 bs ≡ t ++ drop n (drop 2 bs) = sym (take-append-drop n (drop 2 bs)) ∙ ap (λ z. z ++ drop n (drop 2 bs)) q.1 in
    let k : 2 + n ≡ suc (suc (length t)) = omega arith in
    let last : drop n (drop 2 bs) ≡ drop (suc (suc (length t))) bs = drop-drop n 2 bs ∙ ap (λ j. drop j bs) k in
    let all : bs ≡ to_be_bytes w16 (length t) ++ (t ++ drop (suc (suc (length t))) bs) =
    sym (take-append-drop 2 bs) ∙ (ap (λ z. z ++ drop 2 bs) (sym w) ∙ ap (λ z. to_be_bytes w16 (length t) ++ z) (split ∙ ap (λ z. t ++ z) last)) in
    ((omega arith, subst AreBytes q.1 (bytes_take n (drop 2 bs) (bytes_drop 2 bs h))), all)
  where
    below_16 : (ys : List ℕ) (x : ℕ) → AreBytes ys → x ≡ from_be_bytes w16 ys → x < 2 ^ 16
    below_16 ys x b e = omega (arith, b 0, b 1)

text_bytes : (t : List ℕ) → IsText t → AreBytes (enc_text t)
text_bytes t h zero = omega arith
text_bytes t h (suc zero) = omega arith
text_bytes t h (suc (suc i)) = h.1 i

pub text_laws : FarLaws enc_text dec_text IsText
text_laws = record { reads = text_reads; read = text_read; bytes = text_bytes; few = λ t h. omega (arith, h.0) }
