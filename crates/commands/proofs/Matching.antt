-- Patterns and the texts that they match: a walk, and the last `*` alone is tried again.
use Rattle.std.proofs.Common.{◌≡◌, ◌≢◌, ℕ, zero, suc, ◌+◌, ◌≤◌, true, false, List, [], ◌∷◌, drop, length, refl, sym, ap, ◌∙◌, subst, arith}
use Rattle.std.proofs.lemmas.List.{drop-drop}
use Rattle.commands.specs.Patterns.{IsOne, takes, behind_part, Matches, Over, Many, One, Leads, Stay, Go}
use Rattle.commands.proofs.Classes.{part_short}

-- ---- the first part takes a byte

pub after_one : (pattern text : List ℕ) → IsOne pattern → Matches pattern text → Matches (behind_part pattern) (drop 1 text)
after_one pattern text one (Over is over) = absurd (subst IsOne is one)
after_one pattern text one (Many behind is taken few matches) = absurd (subst IsOne is one refl)
after_one pattern text one (One rest c is-one is takes matches) = subst (λ t. Matches (behind_part pattern) (drop 1 t)) (sym is) matches

-- nothing matches what the first part does not take
pub not_taken : (pattern text rest : List ℕ) (c : ℕ) → IsOne pattern → text ≡ c ∷ rest → takes pattern c ≡ false → Matches pattern text → ⊥
not_taken pattern text rest c one is not (Over empty over) = absurd (subst IsOne empty one)
not_taken pattern text rest c one is not (Many behind star taken few matches) = absurd (subst IsOne star one refl)
not_taken pattern text rest c one is not (One more d is-one first taken matches) =
    let same : d ≡ c = cc in
    let yes : takes pattern c ≡ true = subst (λ b. takes pattern b ≡ true) same taken in
    cc

pub not_empty : (pattern text : List ℕ) → IsOne pattern → text ≡ [] → Matches pattern text → ⊥
not_empty pattern text one is (Over empty over) = absurd (subst IsOne empty one)
not_empty pattern text one is (Many behind star taken few matches) = absurd (subst IsOne star one refl)
not_empty pattern text one is (One more d is-one first taken matches) = cc

pub not_over : (pattern text : List ℕ) → pattern ≡ [] → text ≢ [] → Matches pattern text → ⊥
not_over pattern text empty some (Over is over) = some over
not_over pattern text empty some (Many behind star taken few matches) = cc
not_over pattern text empty some (One more d is-one first taken matches) = subst IsOne empty is-one

-- ---- a walk

drop_one : (n : ℕ) (text : List ℕ) → drop n (drop 1 text) ≡ drop (suc n) text
drop_one n text =
    let sums : 1 + n ≡ suc n = omega arith in
    drop-drop n 1 text ∙ ap (λ m. drop m text) sums

pub leads_back : {n : ℕ} {pattern text left right : List ℕ} → Leads n pattern text left right → Matches left right → Matches pattern text
leads_back Stay matches = matches
leads_back (Go rest c one is taken more) matches = One rest c one is taken (leads_back more matches)

-- as many bytes of any text that the pattern matches are taken so
pub leads_on : {n : ℕ} {pattern text left right : List ℕ} → Leads n pattern text left right → (other : List ℕ) → Matches pattern other → Matches left (drop n other)
leads_on Stay other matches = matches
leads_on {n = suc n} {pattern = pattern} {left = left} (Go rest c one is taken more) other matches =
    subst (Matches left) (drop_one n other) (leads_on more (drop 1 other) (after_one pattern other one matches))

pub leads_rest : {n : ℕ} {pattern text left right : List ℕ} → Leads n pattern text left right → right ≡ drop n text
leads_rest Stay = refl
leads_rest {n = suc n} (Go rest c one is taken more) = leads_rest more ∙ sym (ap (drop (suc n)) is)

pub leads_short : {n : ℕ} {pattern text left right : List ℕ} → Leads n pattern text left right → (length left ≤ length pattern) × (length right ≤ length text)
leads_short Stay = (omega arith, omega arith)
leads_short {pattern = pattern} (Go rest c one is taken more) =
    let less = leads_short more in
    (omega (arith, part_short pattern, less.0), omega (arith, ap length is, less.1))

pub leads_further : {n : ℕ} {pattern text left right : List ℕ} → Leads n pattern text left right → (rest : List ℕ) (c : ℕ) → IsOne left → right ≡ c ∷ rest → takes left c ≡ true → Leads (suc n) pattern text (behind_part left) rest
leads_further Stay rest c one is taken = Go rest c one is taken Stay
leads_further (Go first d is-one begins takes more) rest c one is taken = Go first d is-one begins takes (leads_further more rest c one is taken)

-- ---- a `*`

pub star_takes : (behind rest : List ℕ) (c : ℕ) → Matches (42 ∷ behind) rest → Matches (42 ∷ behind) (c ∷ rest)
star_takes behind rest c (Over is over) = absurd (cc)
star_takes behind rest c (Many same is taken few matches) = Many same is (suc taken) (omega arith) matches
star_takes behind rest c (One more d is-one first taken matches) = absurd (is-one refl)

pub star_takes_many : (behind : List ℕ) (n : ℕ) (text : List ℕ) → Matches (42 ∷ behind) (drop n text) → Matches (42 ∷ behind) text
star_takes_many behind zero text matches = matches
star_takes_many behind (suc n) [] matches = matches
star_takes_many behind (suc n) (c ∷ text) matches = star_takes behind text c (star_takes_many behind n text matches)

pub star_takes_none : (behind text : List ℕ) → Matches behind text → Matches (42 ∷ behind) text
star_takes_none behind text matches = Many behind refl 0 (omega arith) matches

-- where the rest is stuck, the `*` takes a byte, if there is one
pub star_must : (behind rest : List ℕ) (c : ℕ) → (Matches behind (c ∷ rest) → ⊥) → Matches (42 ∷ behind) (c ∷ rest) → Matches (42 ∷ behind) rest
star_must behind rest c stuck (Over is over) = absurd (cc)
star_must behind rest c stuck (Many same is zero few matches) =
    let be : same ≡ behind = cc in
    absurd (stuck (subst (λ p. Matches p (c ∷ rest)) be matches))
star_must behind rest c stuck (Many same is (suc taken) few matches) = Many same is taken (omega arith) matches
star_must behind rest c stuck (One more d is-one first taken matches) = absurd (is-one refl)

drop_none : (n : ℕ) → let none : List ℕ = [] in drop n none ≡ none
drop_none zero = refl
drop_none (suc n) = refl

pub star_stuck : (behind : List ℕ) → (Matches behind [] → ⊥) → Matches (42 ∷ behind) [] → ⊥
star_stuck behind stuck (Over is over) = cc
star_stuck behind stuck (Many same is taken few matches) =
    let be : same ≡ behind = cc in
    stuck (subst (λ p. Matches p []) be (subst (Matches same) (drop_none taken) matches))
star_stuck behind stuck (One more d is-one first taken matches) = is-one refl

drop_drop : (n k : ℕ) (text : List ℕ) → drop n (drop k text) ≡ drop k (drop n text)
drop_drop n k text =
    let sums : k + n ≡ n + k = omega arith in
    drop-drop n k text ∙ (ap (λ m. drop m text) sums ∙ sym (drop-drop k n text))

-- from a `*` to the next one: whatever the first would take more, the second can take
pub star_on : {n : ℕ} {behind text further rest : List ℕ} → Leads n behind text (42 ∷ further) rest → Matches (42 ∷ behind) text → Matches (42 ∷ further) rest
star_on {behind = behind} leads (Over is over) = absurd (cc)
star_on {n = n} {behind = behind} {text = text} {further = further} {rest = rest} leads (Many same is taken few matches) =
    let be : same ≡ behind = cc in
    let on : Matches (42 ∷ further) (drop n (drop taken text)) = leads_on leads (drop taken text) (subst (λ p. Matches p (drop taken text)) be matches) in
    let there : drop n (drop taken text) ≡ drop taken rest = drop_drop n taken text ∙ sym (ap (drop taken) (leads_rest leads)) in
    star_takes_many further taken rest (subst (Matches (42 ∷ further)) there on)
star_on leads (One more d is-one first taken matches) = absurd (is-one refl)

pub star_back : {n : ℕ} {behind text further rest : List ℕ} → Leads n behind text (42 ∷ further) rest → Matches (42 ∷ further) rest → Matches (42 ∷ behind) text
star_back {behind = behind} {text = text} leads matches = star_takes_none behind text (leads_back leads matches)
