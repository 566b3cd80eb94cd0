-- What stands at the front of a reply's bytes, from what stands behind its mark.
use Rattle.std.proofs.Common.{◌≡◌, ◌≢◌, ℕ, ◌+◌, ◌^◌, ◌<◌, ◌≤◌, zero, suc, pos, negsuc, List, [], ◌∷◌, ◌++◌, length, take, drop, get_or, refl, sym, ap, ◌∙◌, arith, subst, append-nil, length-append}
use Rattle.std.specs.Prelude.{decimal}
use Rattle.std.proofs.lemmas.Fmt.{decimal_digit, decimal_nonempty}
use Rattle.resp.specs.declared.limits.Limits.{Limits}
use Rattle.resp.specs.declared.tokens.Received.{Received}
use Rattle.resp.specs.declared.tokens.Received.TheVariants.{Reply, Incomplete, Malformed}
use Rattle.resp.specs.Lines.{number, line, Lacks, Spoilt, Begins, LacksLine}
use Rattle.resp.specs.Laws.{AreNumbers}
use Rattle.resp.specs.Requests.{bulk, IsShortOf}
use Rattle.resp.specs.Replies.{Token, token, token_in, text_line, IsText, IsTaken, Receives, ReadsAgain}
use Rattle.resp.specs.Replies.{Simple, Failure, Number, String, Nothing, Count, NoArray}
use Rattle.resp.proofs.Numbers.{first_taken}
use Rattle.resp.proofs.Texts.{text_short}
use Rattle.resp.proofs.Marks.{differ, token_alone, only_simple, only_failure}
use Rattle.resp.proofs.Outcomes.{Only, front_begins, front_lacks, front_spoilt, taken_behind, kind_begins, kind_lacks, kind_spoilt, begins_not_lacks, begins_not_spoilt}

-- ---- a front and what is behind it

pub lift_begins : {X : Type 0} (limits : Limits) (spell : X → List ℕ) (May : X → Type 0) (kind : X → Token) (front rest bytes : List ℕ) (v : X) (len all : ℕ) → ((x : X) → May x → token (kind x) ≡ front ++ spell x) → ((x : X) → May x → IsTaken limits (kind x)) → bytes ≡ front ++ rest → all ≡ length front + len → Begins spell May rest v len → Begins token (IsTaken limits) bytes (kind v) all
lift_begins limits spell May kind front rest bytes v len all same may is sum begins =
    kind_begins (λ x. front ++ spell x) May token (IsTaken limits) kind same may bytes v all (front_begins spell May front rest bytes v len all is sum begins)

pub lift_lacks : {X : Type 0} (limits : Limits) (spell : X → List ℕ) (May : X → Type 0) (kind : X → Token) (front rest bytes : List ℕ) (n : ℕ) → ((x : X) → May x → token (kind x) ≡ front ++ spell x) → ((x : X) → May x → IsTaken limits (kind x)) → bytes ≡ front ++ rest → Only (λ x. front ++ spell x) May token (IsTaken limits) (front ++ rest) → Lacks spell May rest n → Lacks token (IsTaken limits) bytes n
lift_lacks limits spell May kind front rest bytes n same may is only lacks =
    let O : List ℕ → Type 0 = Only (λ x. front ++ spell x) May token (IsTaken limits) in
    kind_lacks (λ x. front ++ spell x) May token (IsTaken limits) kind same may bytes n (subst O (sym is) only) (front_lacks spell May front rest bytes n is lacks)

pub lift_spoilt : {X : Type 0} (limits : Limits) (spell : X → List ℕ) (May : X → Type 0) (kind : X → Token) (front rest bytes : List ℕ) (at all : ℕ) → ((x : X) → May x → token (kind x) ≡ front ++ spell x) → ((x : X) → May x → IsTaken limits (kind x)) → bytes ≡ front ++ rest → all ≡ length front + at → Only (λ x. front ++ spell x) May token (IsTaken limits) (front ++ take (at + 1) rest) → Spoilt spell May rest at → Spoilt token (IsTaken limits) bytes all
lift_spoilt limits spell May kind front rest bytes at all same may is sum only bad =
    let O : List ℕ → Type 0 = Only (λ x. front ++ spell x) May token (IsTaken limits) in
    kind_spoilt (λ x. front ++ spell x) May token (IsTaken limits) kind same may bytes all (subst O (sym (taken_behind front rest bytes at all is sum)) only) (front_spoilt spell May front rest bytes at all is sum bad)

pub behind_one : (bytes : List ℕ) (c : ℕ) → 0 < length bytes → get_or bytes 0 0 ≡ c → bytes ≡ c ∷ drop 1 bytes
behind_one [] c some one = absurd (omega arith)
behind_one (a ∷ r) c some one = cc

-- the byte behind the mark, and what is behind that
pub second_of : (bytes : List ℕ) → 1 < length bytes → (r : List ℕ) × (drop 1 bytes ≡ get_or bytes 1 0 ∷ r)
second_of [] some = absurd (omega arith)
second_of (a ∷ []) some = absurd (omega arith)
second_of (a ∷ b ∷ r) some = (r, refl)

pub second_taken : (bytes : List ℕ) (at : ℕ) → 1 < length bytes → (r : List ℕ) × (take (at + 1) (drop 1 bytes) ≡ get_or bytes 1 0 ∷ r)
second_taken bytes at some =
    let s = second_of bytes some in
    let next : at + 1 ≡ suc at = omega arith in
    (take at s.0, ap (λ l. take (at + 1) l) s.1 ∙ ap (λ n. take n (get_or bytes 1 0 ∷ s.0)) next)

pub plain_lacks : (most : ℕ) (bytes : List ℕ) (v n : ℕ) → LacksLine number most bytes v n → Lacks number (λ x. x ≤ most) bytes n
plain_lacks most bytes v n lacks = record {
  some = lacks.some;
  value = v;
  may = lacks.may;
  rest = lacks.rest;
  is = lacks.is;
  long = lacks.long;
  least = λ x more tail may e. (lacks.least x more tail may e).1;
}

pub bulk_later : (most at : ℕ) (bytes : List ℕ) → 0 < length bytes → get_or bytes 0 0 ≡ 36 → Spoilt bulk (IsShortOf most) bytes at → 0 < at
bulk_later most (suc at) bytes some is bad = omega arith
bulk_later most zero bytes some is bad =
    let front : take 1 bytes ≡ 36 ∷ [] = first_taken bytes 36 some is in
    absurd (bad.stuck [] (number 0 ++ 13 ∷ 10 ∷ []) [] (omega arith) (ap (λ l. l ++ (number 0 ++ 13 ∷ 10 ∷ [])) front ∙ sym (append-nil (bulk []))))

-- ---- at the first byte

length_number : (n : ℕ) → n < 2 ^ 64 → 3 ≤ length (number n)
length_number n small = omega (arith, length-append (decimal n) (13 ∷ 10 ∷ []), decimal_nonempty n small)

length_bulk : (b : List ℕ) → length b < 2 ^ 64 → 6 ≤ length (bulk b)
length_bulk b small = omega (arith, length-append (line 36 (length b)) (b ++ 13 ∷ 10 ∷ []), length-append b (13 ∷ 10 ∷ []), length_number (length b) small)

length_token : (limits : Limits) (y : Token) → AreNumbers limits → IsTaken limits y → 3 ≤ length (token y)
length_token limits (Simple t) fits may = omega (arith, length-append t (13 ∷ 10 ∷ []))
length_token limits (Failure t) fits may = omega (arith, length-append t (13 ∷ 10 ∷ []))
length_token limits (Number (pos n)) fits may = omega (arith, length_number n (omega arith))
length_token limits (Number (negsuc n)) fits may = omega (arith, length_number (suc n) (omega arith))
length_token limits (String b) fits may = omega (arith, length_bulk b (omega (arith, may, fits.bytes)))
length_token limits Nothing fits may = omega arith
length_token limits (Count n) fits may = omega (arith, length_number n (omega (arith, may, fits.arguments)))
length_token limits NoArray fits may = omega arith

number_least : (limits : Limits) (y : Token) (more tail : List ℕ) → AreNumbers limits → IsTaken limits y → 58 ∷ more ≡ token y ++ tail → 3 + length tail ≤ length more
number_least limits (Simple t) more tail fits may e = absurd (differ 58 43 _ _ (omega arith) e)
number_least limits (Failure t) more tail fits may e = absurd (differ 58 45 _ _ (omega arith) e)
number_least limits (Number (pos n)) more tail fits may e = omega (arith, ap length e, length-append (line 58 n) tail, length_number n (omega arith))
number_least limits (Number (negsuc n)) more tail fits may e = omega (arith, ap length e, length-append (58 ∷ 45 ∷ number (suc n)) tail, length_number (suc n) (omega arith))
number_least limits (String b) more tail fits may e = absurd (differ 58 36 _ _ (omega arith) e)
number_least limits Nothing more tail fits may e = absurd (differ 58 36 _ _ (omega arith) e)
number_least limits (Count n) more tail fits may e = absurd (differ 58 42 _ _ (omega arith) e)
number_least limits NoArray more tail fits may e = absurd (differ 58 42 _ _ (omega arith) e)

string_least : (limits : Limits) (y : Token) (more tail : List ℕ) → AreNumbers limits → IsTaken limits y → 36 ∷ more ≡ token y ++ tail → 4 + length tail ≤ length more
string_least limits (Simple t) more tail fits may e = absurd (differ 36 43 _ _ (omega arith) e)
string_least limits (Failure t) more tail fits may e = absurd (differ 36 45 _ _ (omega arith) e)
string_least limits (Number (pos n)) more tail fits may e = absurd (differ 36 58 _ _ (omega arith) e)
string_least limits (Number (negsuc n)) more tail fits may e = absurd (differ 36 58 _ _ (omega arith) e)
string_least limits (String b) more tail fits may e = omega (arith, ap length e, length-append (bulk b) tail, length_bulk b (omega (arith, may, fits.bytes)))
string_least limits Nothing more tail fits may e = omega (arith, ap length e)
string_least limits (Count n) more tail fits may e = absurd (differ 36 42 _ _ (omega arith) e)
string_least limits NoArray more tail fits may e = absurd (differ 36 42 _ _ (omega arith) e)

count_least : (limits : Limits) (y : Token) (more tail : List ℕ) → AreNumbers limits → IsTaken limits y → 42 ∷ more ≡ token y ++ tail → 3 + length tail ≤ length more
count_least limits (Simple t) more tail fits may e = absurd (differ 42 43 _ _ (omega arith) e)
count_least limits (Failure t) more tail fits may e = absurd (differ 42 45 _ _ (omega arith) e)
count_least limits (Number (pos n)) more tail fits may e = absurd (differ 42 58 _ _ (omega arith) e)
count_least limits (Number (negsuc n)) more tail fits may e = absurd (differ 42 58 _ _ (omega arith) e)
count_least limits (String b) more tail fits may e = absurd (differ 42 36 _ _ (omega arith) e)
count_least limits Nothing more tail fits may e = absurd (differ 42 36 _ _ (omega arith) e)
count_least limits (Count n) more tail fits may e = omega (arith, ap length e, length-append (line 42 n) tail, length_number n (omega (arith, may, fits.arguments)))
count_least limits NoArray more tail fits may e = omega (arith, ap length e)

pub nothing_received : (limits : Limits) → AreNumbers limits → Lacks token (IsTaken limits) [] 3
nothing_received limits fits = record {
  some = omega arith;
  value = Simple [];
  may = record { short = omega arith; plain = tt };
  rest = 43 ∷ 13 ∷ 10 ∷ [];
  is = refl;
  long = refl;
  least = λ x more tail may e. omega (arith, ap length e, length-append (token x) tail, length_token limits x fits may);
}

pub simple_first : (limits : Limits) (bytes : List ℕ) → bytes ≡ 43 ∷ [] → Lacks token (IsTaken limits) bytes 2
simple_first limits bytes is =
    lift_lacks limits text_line (IsText limits.line) Simple (43 ∷ []) [] bytes 2 (λ x h. refl) (λ x h. h) is (only_simple limits []) (text_short limits.line [] (record { short = omega arith; plain = tt }))

pub failure_first : (limits : Limits) (bytes : List ℕ) → bytes ≡ 45 ∷ [] → Lacks token (IsTaken limits) bytes 2
failure_first limits bytes is =
    lift_lacks limits text_line (IsText limits.line) Failure (45 ∷ []) [] bytes 2 (λ x h. refl) (λ x h. h) is (only_failure limits []) (text_short limits.line [] (record { short = omega arith; plain = tt }))

pub string_first : (limits : Limits) (bytes : List ℕ) → AreNumbers limits → bytes ≡ 36 ∷ [] → Lacks token (IsTaken limits) bytes 4
string_first limits bytes fits is = record {
  some = omega arith;
  value = Nothing;
  may = tt;
  rest = 45 ∷ 49 ∷ 13 ∷ 10 ∷ [];
  is = ap (λ l. l ++ 45 ∷ 49 ∷ 13 ∷ 10 ∷ []) is;
  long = refl;
  least = λ x more tail may e. string_least limits x more tail fits may (ap (λ l. l ++ more) (sym is) ∙ e);
}

pub number_first : (limits : Limits) (bytes : List ℕ) → AreNumbers limits → bytes ≡ 58 ∷ [] → Lacks token (IsTaken limits) bytes 3
number_first limits bytes fits is = record {
  some = omega arith;
  value = Number (pos 0);
  may = omega arith;
  rest = number 0;
  is = ap (λ l. l ++ number 0) is;
  long = ap (λ l. length (l ++ 13 ∷ 10 ∷ [])) (decimal_digit 0 (omega arith));
  least = λ x more tail may e. number_least limits x more tail fits may (ap (λ l. l ++ more) (sym is) ∙ e);
}

pub count_first : (limits : Limits) (bytes : List ℕ) → AreNumbers limits → bytes ≡ 42 ∷ [] → Lacks token (IsTaken limits) bytes 3
count_first limits bytes fits is = record {
  some = omega arith;
  value = Count 0;
  may = omega arith;
  rest = number 0;
  is = ap (λ l. l ++ number 0) is;
  long = ap (λ l. length (l ++ 13 ∷ 10 ∷ [])) (decimal_digit 0 (omega arith));
  least = λ x more tail may e. count_least limits x more tail fits may (ap (λ l. l ++ more) (sym is) ∙ e);
}

no_mark : (c : ℕ) (y : Token) (more tail : List ℕ) → c ≢ 43 → c ≢ 45 → c ≢ 36 → c ≢ 58 → c ≢ 42 → c ∷ more ≡ token y ++ tail → ⊥
no_mark c (Simple t) more tail one two three four five e = one cc
no_mark c (Failure t) more tail one two three four five e = two cc
no_mark c (Number (pos n)) more tail one two three four five e = four cc
no_mark c (Number (negsuc n)) more tail one two three four five e = four cc
no_mark c (String b) more tail one two three four five e = three cc
no_mark c Nothing more tail one two three four five e = three cc
no_mark c (Count n) more tail one two three four five e = five cc
no_mark c NoArray more tail one two three four five e = five cc

pub other_first : (limits : Limits) (bytes : List ℕ) → 0 < length bytes → get_or bytes 0 0 ≢ 43 → get_or bytes 0 0 ≢ 45 → get_or bytes 0 0 ≢ 36 → get_or bytes 0 0 ≢ 58 → get_or bytes 0 0 ≢ 42 → Spoilt token (IsTaken limits) bytes 0
other_first limits bytes some one two three four five = record {
  within = some;
  value = Nothing;
  may = tt;
  rest = token Nothing;
  is = refl;
  stuck = λ x more tail may e. no_mark (get_or bytes 0 0) x more tail one two three four five (ap (λ l. l ++ more) (sym (first_taken bytes (get_or bytes 0 0) some refl)) ∙ e);
}

-- ---- what is written is read again

pub token_again : (limits : Limits) (bytes : List ℕ) (r : Received) → AreNumbers limits → Receives limits bytes r → (value : Token) (rest : List ℕ) → IsTaken limits value → bytes ≡ token value ++ rest → ReadsAgain bytes value r
token_again limits bytes (Reply read consumed) fits found value rest may is =
    let begins = found.0 in
    let r = token_alone limits (token_in bytes read) value begins.rest rest fits begins.may may (sym begins.is ∙ is) in
    (r.0, sym begins.long ∙ ap (λ t. length (token t)) r.0)
token_again limits bytes (Incomplete n) fits lacks value rest may is = absurd (begins_not_lacks token (IsTaken limits) bytes value rest n may is lacks)
token_again limits bytes (Malformed at) fits bad value rest may is = absurd (begins_not_spoilt token (IsTaken limits) bytes value rest at may is bad)
