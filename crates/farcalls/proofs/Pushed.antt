-- What is pushed behind a reply, and taken away again.
use Rattle.std.proofs.Common.{◌≡◌, List, [], ◌∷◌, ℕ, append_assoc, ◌++◌, length, take, sym, ap, ◌∙◌, append-nil, Result, Ok, Err}
use Rattle.std.specs.Prelude.{IfOk, OnOk}
use Rattle.std.proofs.Math.Seq.{take-append_seam}
use Rattle.std.specs.List.{flat_map}
use Rattle.std.proofs.lemmas.Grind.{flat_map-append}
use Rattle.resp.specs.Replies.{Token, token}

pub on_ok : {T E : Type 0} {P Q : Type 0} → (r : Result T E) → (P → Q) → OnOk r P → OnOk r Q
on_ok (Ok x) f p = f p
on_ok (Err e) f p = tt

-- what was pushed is taken away
pub cut : (n : ℕ) (before pushed now : List ℕ) → n ≡ length before → now ≡ before ++ pushed → take n now ≡ before
cut n before pushed now len is = ap (λ (l : List ℕ). take n l) is ∙ (ap (λ (m : ℕ). take m (before ++ pushed)) len ∙ take-append_seam before pushed)

-- tokens behind tokens
pub more_tokens : (before : List ℕ) (first rest : List Token) (mid now : List ℕ) → mid ≡ before ++ flat_map token first → now ≡ mid ++ flat_map token rest → now ≡ before ++ flat_map token (first ++ rest)
more_tokens before first rest mid now one two =
    two ∙ (ap (λ (l : List ℕ). l ++ flat_map token rest) one
    ∙ (append_assoc before (flat_map token first) (flat_map token rest) ∙ ap (λ (l : List ℕ). before ++ l) (sym (flat_map-append token first rest))))

-- one token is a list of tokens
pub single : (before : List ℕ) (t : Token) (now : List ℕ) → now ≡ before ++ token t → now ≡ before ++ flat_map token (t ∷ [])
single before t now is = is ∙ ap (λ (l : List ℕ). before ++ l) (sym (append-nil (token t)))

pub one_token : (before : List ℕ) (rs : List Token) (t : Token) (mid now : List ℕ) → mid ≡ before ++ flat_map token rs → now ≡ mid ++ token t → now ≡ before ++ flat_map token (rs ++ t ∷ [])
one_token before rs t mid now one two = more_tokens before rs (t ∷ []) mid now one (single mid t now two)

-- the first of what is left is done too
pub next_done : {A : Type 0} (all done rest behind first : List A) → all ≡ done ++ rest → rest ≡ first ++ behind → all ≡ (done ++ first) ++ behind
next_done all done rest behind first is split = is ∙ (ap (λ (l : List _). done ++ l) split ∙ sym (append_assoc done first behind))

pub all_done : {A : Type 0} (all done rest : List A) → all ≡ done ++ rest → rest ≡ [] → all ≡ done
all_done all done rest is none_left = is ∙ (ap (λ (l : List _). done ++ l) none_left ∙ append-nil done)

pub if_ok : {T E : Type 0} {P Q : T → Type 0} → (r : Result T E) → ((x : T) → P x → Q x) → IfOk r P → IfOk r Q
if_ok (Ok x) f p = f x p
if_ok (Err e) f p = tt

-- what was pushed behind what was pushed before
pub more_behind : (before first more mid now : List ℕ) → mid ≡ before ++ first → now ≡ mid ++ more → now ≡ before ++ (first ++ more)
more_behind before first more mid now one two = two ∙ (ap (λ (l : List ℕ). l ++ more) one ∙ append_assoc before first more)

pub kept_behind : (before first mid now : List ℕ) → mid ≡ before ++ first → now ≡ mid → (more : List ℕ) × (now ≡ before ++ more)
kept_behind before first mid now one two = (first, two ∙ one)
