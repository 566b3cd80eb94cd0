-- The laws that the encoding of blobs keeps, proved.
use Rattle.std.specs.Prelude.{zero, suc, ◌≡◌, ℕ, ◌+◌, ◌^◌, ◌<◌, ◌≤◌, false, ltb, if◌then◌else◌, List, ◌++◌, length, take, drop, Option, Some, None}
use Rattle.std.proofs.Common.{refl, ap, sym, ◌∙◌, subst, arith}
use Rattle.std.specs.Int.{w32, to_be_bytes, from_be_bytes}
use Rattle.std.proofs.lemmas.Nat.{be_bytes_4, from_be_bytes-to_be_bytes_4}
use Rattle.std.proofs.lemmas.List.{take_at, length-take-le, take-append-drop, drop-drop}
use Rattle.std.proofs.lemmas.Bool.Decides.{nat_tests}
use Rattle.far_object.specs.Encodings.{AreBytes, FarLaws}
use Rattle.far_object.specs.EncodingLaws.{bytes_take, bytes_drop, front_there, some_from_if, some_from_else}
use Rattle.far_blob.specs.Encodings.{most_bytes, enc_blob, dec_blob, IsBlob, blob_after}

at_least : (n m : ℕ) → ltb n m ≡ false → m ≤ n
at_least n m h = grind (arith, nat_tests)

not_above : (n m : ℕ) → m ≤ n → ltb n m ≡ false
not_above n m h = grind (arith, nat_tests)

blob_reads : (t rest : List ℕ) → IsBlob t → dec_blob (enc_blob t ++ rest) ≡ Some t
blob_reads t rest h =
    let e = from_be_bytes-to_be_bytes_4 (length t) (omega (arith, h.0)) in
    let f : ltb (length (enc_blob t ++ rest)) 4 ≡ false = front_there 4 (to_be_bytes w32 (length t)) (t ++ rest) refl in
    let m : ltb most_bytes (length t) ≡ false = not_above most_bytes (length t) h.0 in
    let g = front_there (length t) t rest refl in
    rw (f, e, m, g) (ap Some (take_at t rest (length t) refl))

blob_read : (t bs : List ℕ) → AreBytes bs → dec_blob bs ≡ Some t → IsBlob t × (bs ≡ enc_blob t ++ drop (length (enc_blob t)) bs)
blob_read t bs h e =
    let n = from_be_bytes w32 (take 4 bs) in
    let p = some_from_else (ltb (length bs) 4) (blob_after n (drop 4 bs)) t e in
    let s = some_from_else (ltb most_bytes n) (if ltb (length (drop 4 bs)) n then None else Some (take n (drop 4 bs))) t p.1 in
    let q = some_from_if (ltb (length (drop 4 bs)) n) (take n (drop 4 bs)) t s.1 in
    let l : length t ≡ n = ap length (sym q.1) ∙ length-take-le n (drop 4 bs) (at_least (length (drop 4 bs)) n q.0) in
    let b = bytes_take 4 bs h in
    let w : to_be_bytes w32 (length t) ≡ take 4 bs =
    be_bytes_4 (take 4 bs) (length t) (length-take-le 4 bs (at_least (length bs) 4 p.0)) b l in
    let m : n ≤ most_bytes = at_least most_bytes n s.0 in
    let split : drop 4 bs ≡ t ++ drop n (drop 4 bs) = sym (take-append-drop n (drop 4 bs)) ∙ ap (λ z. z ++ drop n (drop 4 bs)) q.1 in
    let k : 4 + n ≡ suc (suc (suc (suc (length t)))) = omega arith in
    let last : drop n (drop 4 bs) ≡ drop (suc (suc (suc (suc (length t))))) bs = drop-drop n 4 bs ∙ ap (λ j. drop j bs) k in
    let all : bs ≡ to_be_bytes w32 (length t) ++ (t ++ drop (suc (suc (suc (suc (length t))))) bs) =
    sym (take-append-drop 4 bs) ∙ (ap (λ z. z ++ drop 4 bs) (sym w) ∙ ap (λ z. to_be_bytes w32 (length t) ++ z) (split ∙ ap (λ z. t ++ z) last)) in
    ((subst (λ j. j ≤ most_bytes) (sym l) m, subst AreBytes q.1 (bytes_take n (drop 4 bs) (bytes_drop 4 bs h))), all)

blob_bytes : (t : List ℕ) → IsBlob t → AreBytes (enc_blob t)
blob_bytes t h zero = omega arith
blob_bytes t h (suc zero) = omega arith
blob_bytes t h (suc (suc zero)) = omega arith
blob_bytes t h (suc (suc (suc zero))) = omega arith
blob_bytes t h (suc (suc (suc (suc i)))) = h.1 i

pub blob_laws : FarLaws enc_blob dec_blob IsBlob
blob_laws = record { reads = blob_reads; read = blob_read; bytes = blob_bytes; few = λ t h. omega (arith, h.0) }
