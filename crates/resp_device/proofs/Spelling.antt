-- What is put together piece by piece is what it is spelled as.
use Rattle.std.proofs.Common.{◌≡◌, ◌≤◌, ℕ, List, [], ◌∷◌, ◌++◌, length, Result, Ok, Err, OnOk, append_assoc, append-nil, length-append, arith, ap, ◌∙◌}
use Rattle.resp.specs.declared.limits.Limits.{Limits}
use Rattle.resp.specs.declared.tokens.Token.{Token as Read}
use Rattle.resp.specs.declared.tokens.Received.TheVariants.{Reply}
use Rattle.resp.specs.Replies.{token, token_in, Receives}
use Rattle.resp_device.specs.Wire.{IsWhole}

pub on_ok : {A E : Type 0} (r : Result A E) {P Q : Type 0} → (P → Q) → OnOk r P → OnOk r Q
on_ok (Ok x) f p = f p
on_ok (Err e) f p = tt

-- two pieces with a byte between each
pub key_joined : (o0 o1 o2 o3 o4 o5 a b c : List ℕ) (x : ℕ) → o0 ≡ [] → o1 ≡ o0 ++ a → o2 ≡ o1 ++ x ∷ [] → o3 ≡ o2 ++ b → o4 ≡ o3 ++ x ∷ [] → o5 ≡ o4 ++ c → o5 ≡ a ++ x ∷ (b ++ x ∷ c)
key_joined o0 o1 o2 o3 o4 o5 a b c x e0 e1 e2 e3 e4 e5 =
    let s1 : o1 ≡ a = e1 ∙ ap (λ l. l ++ a) e0 in
    let s2 : o2 ≡ a ++ x ∷ [] = e2 ∙ ap (λ l. l ++ x ∷ []) s1 in
    let s3 : o3 ≡ a ++ x ∷ b = e3 ∙ (ap (λ l. l ++ b) s2 ∙ append_assoc a (x ∷ []) b) in
    let s4 : o4 ≡ a ++ x ∷ (b ++ x ∷ []) = e4 ∙ (ap (λ l. l ++ x ∷ []) s3 ∙ append_assoc a (x ∷ b) (x ∷ [])) in
    e5 ∙ (ap (λ l. l ++ c) s4 ∙ (append_assoc a (x ∷ (b ++ x ∷ [])) c ∙ ap (λ l. a ++ x ∷ l) (append_assoc b (x ∷ []) c)))

-- bytes that are no longer than their front
nothing_behind : (front rest bytes : List ℕ) → bytes ≡ front ++ rest → length bytes ≤ length front → bytes ≡ front
nothing_behind front [] bytes is short = is ∙ append-nil front
nothing_behind front (b ∷ rest) bytes is short = absurd (omega (arith, ap (λ (l : List ℕ). length l) is, length-append front (b ∷ rest)))

-- what was read is a token, and nothing stands behind it
pub whole : (limits : Limits) (bytes : List ℕ) (read : Read) (consumed : ℕ) → Receives limits bytes (Reply read consumed) → length bytes ≤ consumed → IsWhole limits bytes read
whole limits bytes read consumed receives short = record {
  is = nothing_behind (token (token_in bytes read)) receives.0.rest bytes receives.0.is (omega (arith, receives.0.long, short));
  may = receives.0.may;
  within = receives.2;
}
