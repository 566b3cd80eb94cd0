-- A vector that loses its last item, but none of those that it had before.
use Rattle.std.proofs.Common.{◌≡◌, ℕ, ◌+◌, ◌-◌, max, Bool, true, false, List, ◌++◌, length, take, Option, Some, None, ap, ◌∙◌, arith, length-append}
use Rattle.std.proofs.Math.Seq.{take-append-add, take-length}
use Rattle.std.specs.Bool.{OnTrue, OnFalse}
use Rattle.std.specs.Option.{IfSome}
use Rattle.far_device.specs.Calls.{Appends}
use Rattle.far_device.specs.Lying.{without_last}

-- what is left of ys where n items are kept, and xs are those before
abbrev pub Keeps : ℕ → List ℕ → List ℕ → Type 0
Keeps n xs ys = n ≡ max (length xs) (length ys - 1)

take-appended : (n : ℕ) (xs ys bytes : List ℕ) → Keeps n xs ys → ys ≡ xs ++ bytes → take n ys ≡ xs ++ without_last bytes
take-appended n xs ys bytes keeps appended =
    let count : n ≡ length xs + (length bytes - 1) = omega (arith, keeps, ap length appended, length-append xs bytes) in
    ap (take n) appended ∙ ap (λ k. take k (xs ++ bytes)) count ∙ take-append-add xs bytes (length bytes - 1)

pub Appends-shortened : (there : Bool) (n : ℕ) (xs ys zs : List ℕ) → Keeps n xs ys → zs ≡ take n ys → OnTrue there (Appends xs ys) → OnTrue there (Appends xs zs)
Appends-shortened true n xs ys zs keeps cut (bytes, appended) = (without_last bytes, cut ∙ take-appended n xs ys bytes keeps appended)
Appends-shortened false n xs ys zs keeps cut appended = tt

pub same-shortened : (there : Bool) (n : ℕ) (xs ys zs : List ℕ) → Keeps n xs ys → zs ≡ take n ys → OnFalse there (ys ≡ xs) → OnFalse there (zs ≡ xs)
same-shortened true n xs ys zs keeps cut same = tt
same-shortened false n xs ys zs keeps cut same =
    let count : n ≡ length xs = omega (arith, keeps, ap length same) in
    cut ∙ ap (take n) same ∙ ap (λ k. take k xs) count ∙ take-length xs

pub known-shortened : (there : Bool) (bytes : Option (List ℕ)) (n : ℕ) (xs ys zs : List ℕ) → Keeps n xs ys → zs ≡ take n ys → OnTrue there (IfSome bytes (λ b. ys ≡ xs ++ b)) → OnTrue there (IfSome bytes (λ b. zs ≡ xs ++ without_last b))
known-shortened true None n xs ys zs keeps cut known = tt
known-shortened true (Some bytes) n xs ys zs keeps cut known = cut ∙ take-appended n xs ys bytes keeps known
known-shortened false bytes n xs ys zs keeps cut known = tt
