-- Tokens of replies as they are spelled: what follows from a token's first bytes.
use Rattle.std.proofs.Common.{◌≡◌, ◌≢◌, ℕ, ◌^◌, ◌<◌, ◌≤◌, suc, pos, negsuc, List, [], ◌∷◌, ◌++◌, length, refl, sym, ap, ◌∙◌, arith}
use Rattle.std.proofs.lemmas.Fmt.{decimal_digit}
use Rattle.resp.specs.declared.limits.Limits.{Limits}
use Rattle.resp.specs.Lines.{number, line, IsPositive}
use Rattle.resp.specs.Laws.{AreNumbers}
use Rattle.resp.specs.Requests.{bulk, IsShortOf}
use Rattle.resp.specs.Replies.{Token, token, text_line, IsText, IsTaken}
use Rattle.resp.specs.Replies.{Simple, Failure, Number, String, Nothing, Count, NoArray}
use Rattle.resp.proofs.Numbers.{number_alone}
use Rattle.resp.proofs.Bulks.{bulk_tail, bulk_alone}
use Rattle.resp.proofs.Texts.{text_alone}
use Rattle.resp.proofs.Commands.{no_minus}
use Rattle.resp.proofs.Outcomes.{Only}

pub differ : (c d : ℕ) (x y : List ℕ) → c ≢ d → c ∷ x ≡ d ∷ y → ⊥
differ c d x y ne e = ne cc

-- no minus stands where a number does
number_second : (mark n : ℕ) (r tail : List ℕ) → n < 2 ^ 64 → mark ∷ 45 ∷ r ≡ line mark n ++ tail → ⊥
number_second mark n r tail small e =
    let behind : 45 ∷ r ≡ number n ++ tail = cc in
    no_minus n r tail small behind

string_second : (b r tail : List ℕ) → length b < 2 ^ 64 → 36 ∷ 45 ∷ r ≡ bulk b ++ tail → ⊥
string_second b r tail small e = number_second 36 (length b) r (b ++ 13 ∷ 10 ∷ tail) small (e ∙ bulk_tail b tail)

pub minus_one : (mark : ℕ) → mark ∷ 45 ∷ number 1 ≡ mark ∷ 45 ∷ 49 ∷ 13 ∷ 10 ∷ []
minus_one mark = ap (λ l. mark ∷ 45 ∷ (l ++ 13 ∷ 10 ∷ [])) (decimal_digit 1 (omega arith))

-- ---- what begins so is of this kind

pub only_simple : (limits : Limits) (r : List ℕ) → Only (λ x. 43 ∷ text_line x) (IsText limits.line) token (IsTaken limits) (43 ∷ r)
only_simple limits r (Simple t) more tail may e = (t, may, refl)
only_simple limits r (Failure t) more tail may e = absurd (differ 43 45 _ _ (omega arith) e)
only_simple limits r (Number (pos n)) more tail may e = absurd (differ 43 58 _ _ (omega arith) e)
only_simple limits r (Number (negsuc n)) more tail may e = absurd (differ 43 58 _ _ (omega arith) e)
only_simple limits r (String b) more tail may e = absurd (differ 43 36 _ _ (omega arith) e)
only_simple limits r Nothing more tail may e = absurd (differ 43 36 _ _ (omega arith) e)
only_simple limits r (Count n) more tail may e = absurd (differ 43 42 _ _ (omega arith) e)
only_simple limits r NoArray more tail may e = absurd (differ 43 42 _ _ (omega arith) e)

pub only_failure : (limits : Limits) (r : List ℕ) → Only (λ x. 45 ∷ text_line x) (IsText limits.line) token (IsTaken limits) (45 ∷ r)
only_failure limits r (Simple t) more tail may e = absurd (differ 45 43 _ _ (omega arith) e)
only_failure limits r (Failure t) more tail may e = (t, may, refl)
only_failure limits r (Number (pos n)) more tail may e = absurd (differ 45 58 _ _ (omega arith) e)
only_failure limits r (Number (negsuc n)) more tail may e = absurd (differ 45 58 _ _ (omega arith) e)
only_failure limits r (String b) more tail may e = absurd (differ 45 36 _ _ (omega arith) e)
only_failure limits r Nothing more tail may e = absurd (differ 45 36 _ _ (omega arith) e)
only_failure limits r (Count n) more tail may e = absurd (differ 45 42 _ _ (omega arith) e)
only_failure limits r NoArray more tail may e = absurd (differ 45 42 _ _ (omega arith) e)

pub only_natural : (limits : Limits) (c : ℕ) (r : List ℕ) → c ≢ 45 → Only (λ x. 58 ∷ number x) (λ n. n ≤ 9223372036854775807) token (IsTaken limits) (58 ∷ c ∷ r)
only_natural limits c r ne (Simple t) more tail may e = absurd (differ 58 43 _ _ (omega arith) e)
only_natural limits c r ne (Failure t) more tail may e = absurd (differ 58 45 _ _ (omega arith) e)
only_natural limits c r ne (Number (pos n)) more tail may e = (n, omega arith, refl)
only_natural limits c r ne (Number (negsuc n)) more tail may e = absurd (ne cc)
only_natural limits c r ne (String b) more tail may e = absurd (differ 58 36 _ _ (omega arith) e)
only_natural limits c r ne Nothing more tail may e = absurd (differ 58 36 _ _ (omega arith) e)
only_natural limits c r ne (Count n) more tail may e = absurd (differ 58 42 _ _ (omega arith) e)
only_natural limits c r ne NoArray more tail may e = absurd (differ 58 42 _ _ (omega arith) e)

pub only_negative : (limits : Limits) (r : List ℕ) → Only (λ x. 58 ∷ 45 ∷ number x) (IsPositive (2 ^ 63)) token (IsTaken limits) (58 ∷ 45 ∷ r)
only_negative limits r (Simple t) more tail may e = absurd (differ 58 43 _ _ (omega arith) e)
only_negative limits r (Failure t) more tail may e = absurd (differ 58 45 _ _ (omega arith) e)
only_negative limits r (Number (pos n)) more tail may e = absurd (number_second 58 n (r ++ more) tail (omega arith) e)
only_negative limits r (Number (negsuc n)) more tail may e = (suc n, (omega arith, omega arith), refl)
only_negative limits r (String b) more tail may e = absurd (differ 58 36 _ _ (omega arith) e)
only_negative limits r Nothing more tail may e = absurd (differ 58 36 _ _ (omega arith) e)
only_negative limits r (Count n) more tail may e = absurd (differ 58 42 _ _ (omega arith) e)
only_negative limits r NoArray more tail may e = absurd (differ 58 42 _ _ (omega arith) e)

pub only_nothing : (limits : Limits) (r : List ℕ) → AreNumbers limits → Only (λ x. 36 ∷ 45 ∷ number x) (IsPositive 1) token (IsTaken limits) (36 ∷ 45 ∷ r)
only_nothing limits r fits (Simple t) more tail may e = absurd (differ 36 43 _ _ (omega arith) e)
only_nothing limits r fits (Failure t) more tail may e = absurd (differ 36 45 _ _ (omega arith) e)
only_nothing limits r fits (Number (pos n)) more tail may e = absurd (differ 36 58 _ _ (omega arith) e)
only_nothing limits r fits (Number (negsuc n)) more tail may e = absurd (differ 36 58 _ _ (omega arith) e)
only_nothing limits r fits (String b) more tail may e = absurd (string_second b (r ++ more) tail (omega (arith, may, fits.bytes)) e)
only_nothing limits r fits Nothing more tail may e = (1, (omega arith, omega arith), minus_one 36)
only_nothing limits r fits (Count n) more tail may e = absurd (differ 36 42 _ _ (omega arith) e)
only_nothing limits r fits NoArray more tail may e = absurd (differ 36 42 _ _ (omega arith) e)

pub only_string : (limits : Limits) (c : ℕ) (r : List ℕ) → c ≢ 45 → Only (λ x. bulk x) (IsShortOf limits.bytes) token (IsTaken limits) (36 ∷ c ∷ r)
only_string limits c r ne (Simple t) more tail may e = absurd (differ 36 43 _ _ (omega arith) e)
only_string limits c r ne (Failure t) more tail may e = absurd (differ 36 45 _ _ (omega arith) e)
only_string limits c r ne (Number (pos n)) more tail may e = absurd (differ 36 58 _ _ (omega arith) e)
only_string limits c r ne (Number (negsuc n)) more tail may e = absurd (differ 36 58 _ _ (omega arith) e)
only_string limits c r ne (String b) more tail may e = (b, may, refl)
only_string limits c r ne Nothing more tail may e = absurd (ne cc)
only_string limits c r ne (Count n) more tail may e = absurd (differ 36 42 _ _ (omega arith) e)
only_string limits c r ne NoArray more tail may e = absurd (differ 36 42 _ _ (omega arith) e)

pub only_no_array : (limits : Limits) (r : List ℕ) → AreNumbers limits → Only (λ x. 42 ∷ 45 ∷ number x) (IsPositive 1) token (IsTaken limits) (42 ∷ 45 ∷ r)
only_no_array limits r fits (Simple t) more tail may e = absurd (differ 42 43 _ _ (omega arith) e)
only_no_array limits r fits (Failure t) more tail may e = absurd (differ 42 45 _ _ (omega arith) e)
only_no_array limits r fits (Number (pos n)) more tail may e = absurd (differ 42 58 _ _ (omega arith) e)
only_no_array limits r fits (Number (negsuc n)) more tail may e = absurd (differ 42 58 _ _ (omega arith) e)
only_no_array limits r fits (String b) more tail may e = absurd (differ 42 36 _ _ (omega arith) e)
only_no_array limits r fits Nothing more tail may e = absurd (differ 42 36 _ _ (omega arith) e)
only_no_array limits r fits (Count n) more tail may e = absurd (number_second 42 n (r ++ more) tail (omega (arith, may, fits.arguments)) e)
only_no_array limits r fits NoArray more tail may e = (1, (omega arith, omega arith), minus_one 42)

pub only_count : (limits : Limits) (c : ℕ) (r : List ℕ) → c ≢ 45 → Only (λ x. 42 ∷ number x) (λ n. n ≤ limits.arguments) token (IsTaken limits) (42 ∷ c ∷ r)
only_count limits c r ne (Simple t) more tail may e = absurd (differ 42 43 _ _ (omega arith) e)
only_count limits c r ne (Failure t) more tail may e = absurd (differ 42 45 _ _ (omega arith) e)
only_count limits c r ne (Number (pos n)) more tail may e = absurd (differ 42 58 _ _ (omega arith) e)
only_count limits c r ne (Number (negsuc n)) more tail may e = absurd (differ 42 58 _ _ (omega arith) e)
only_count limits c r ne (String b) more tail may e = absurd (differ 42 36 _ _ (omega arith) e)
only_count limits c r ne Nothing more tail may e = absurd (differ 42 36 _ _ (omega arith) e)
only_count limits c r ne (Count n) more tail may e = (n, may, refl)
only_count limits c r ne NoArray more tail may e = absurd (ne cc)

-- no token is the beginning of another
pub token_alone : (limits : Limits) (a b : Token) (x y : List ℕ) → AreNumbers limits → IsTaken limits a → IsTaken limits b → token a ++ x ≡ token b ++ y → (a ≡ b) × (x ≡ y)
token_alone limits (Simple s) (Simple t) x y fits ha hb e =
    let behind : text_line s ++ x ≡ text_line t ++ y = cc in
    let r = text_alone limits.line s t x y ha hb behind in
    (ap Simple r.0, r.1)
token_alone limits (Simple s) (Failure t) x y fits ha hb e = absurd (differ 43 45 _ _ (omega arith) e)
token_alone limits (Simple s) (Number (pos n)) x y fits ha hb e = absurd (differ 43 58 _ _ (omega arith) e)
token_alone limits (Simple s) (Number (negsuc n)) x y fits ha hb e = absurd (differ 43 58 _ _ (omega arith) e)
token_alone limits (Simple s) (String b) x y fits ha hb e = absurd (differ 43 36 _ _ (omega arith) e)
token_alone limits (Simple s) Nothing x y fits ha hb e = absurd (differ 43 36 _ _ (omega arith) e)
token_alone limits (Simple s) (Count n) x y fits ha hb e = absurd (differ 43 42 _ _ (omega arith) e)
token_alone limits (Simple s) NoArray x y fits ha hb e = absurd (differ 43 42 _ _ (omega arith) e)
token_alone limits (Failure s) (Simple t) x y fits ha hb e = absurd (differ 45 43 _ _ (omega arith) e)
token_alone limits (Failure s) (Failure t) x y fits ha hb e =
    let behind : text_line s ++ x ≡ text_line t ++ y = cc in
    let r = text_alone limits.line s t x y ha hb behind in
    (ap Failure r.0, r.1)
token_alone limits (Failure s) (Number (pos n)) x y fits ha hb e = absurd (differ 45 58 _ _ (omega arith) e)
token_alone limits (Failure s) (Number (negsuc n)) x y fits ha hb e = absurd (differ 45 58 _ _ (omega arith) e)
token_alone limits (Failure s) (String b) x y fits ha hb e = absurd (differ 45 36 _ _ (omega arith) e)
token_alone limits (Failure s) Nothing x y fits ha hb e = absurd (differ 45 36 _ _ (omega arith) e)
token_alone limits (Failure s) (Count n) x y fits ha hb e = absurd (differ 45 42 _ _ (omega arith) e)
token_alone limits (Failure s) NoArray x y fits ha hb e = absurd (differ 45 42 _ _ (omega arith) e)
token_alone limits (Number (pos m)) (Simple t) x y fits ha hb e = absurd (differ 58 43 _ _ (omega arith) e)
token_alone limits (Number (pos m)) (Failure t) x y fits ha hb e = absurd (differ 58 45 _ _ (omega arith) e)
token_alone limits (Number (pos m)) (Number (pos n)) x y fits ha hb e =
    let behind : number m ++ x ≡ number n ++ y = cc in
    let r = number_alone m n x y (omega arith) (omega arith) behind in
    (ap (λ k. Number (pos k)) r.0, r.1)
token_alone limits (Number (pos m)) (Number (negsuc n)) x y fits ha hb e = absurd (number_second 58 m (number (suc n) ++ y) x (omega arith) (sym e))
token_alone limits (Number (pos m)) (String b) x y fits ha hb e = absurd (differ 58 36 _ _ (omega arith) e)
token_alone limits (Number (pos m)) Nothing x y fits ha hb e = absurd (differ 58 36 _ _ (omega arith) e)
token_alone limits (Number (pos m)) (Count n) x y fits ha hb e = absurd (differ 58 42 _ _ (omega arith) e)
token_alone limits (Number (pos m)) NoArray x y fits ha hb e = absurd (differ 58 42 _ _ (omega arith) e)
token_alone limits (Number (negsuc m)) (Simple t) x y fits ha hb e = absurd (differ 58 43 _ _ (omega arith) e)
token_alone limits (Number (negsuc m)) (Failure t) x y fits ha hb e = absurd (differ 58 45 _ _ (omega arith) e)
token_alone limits (Number (negsuc m)) (Number (pos n)) x y fits ha hb e = absurd (number_second 58 n (number (suc m) ++ x) y (omega arith) e)
token_alone limits (Number (negsuc m)) (Number (negsuc n)) x y fits ha hb e =
    let behind : number (suc m) ++ x ≡ number (suc n) ++ y = cc in
    let r = number_alone (suc m) (suc n) x y (omega arith) (omega arith) behind in
    let same : m ≡ n = omega (arith, r.0) in
    (ap (λ k. Number (negsuc k)) same, r.1)
token_alone limits (Number (negsuc m)) (String b) x y fits ha hb e = absurd (differ 58 36 _ _ (omega arith) e)
token_alone limits (Number (negsuc m)) Nothing x y fits ha hb e = absurd (differ 58 36 _ _ (omega arith) e)
token_alone limits (Number (negsuc m)) (Count n) x y fits ha hb e = absurd (differ 58 42 _ _ (omega arith) e)
token_alone limits (Number (negsuc m)) NoArray x y fits ha hb e = absurd (differ 58 42 _ _ (omega arith) e)
token_alone limits (String a) (Simple t) x y fits ha hb e = absurd (differ 36 43 _ _ (omega arith) e)
token_alone limits (String a) (Failure t) x y fits ha hb e = absurd (differ 36 45 _ _ (omega arith) e)
token_alone limits (String a) (Number (pos n)) x y fits ha hb e = absurd (differ 36 58 _ _ (omega arith) e)
token_alone limits (String a) (Number (negsuc n)) x y fits ha hb e = absurd (differ 36 58 _ _ (omega arith) e)
token_alone limits (String a) (String b) x y fits ha hb e =
    let r = bulk_alone a b x y (omega (arith, ha, fits.bytes)) (omega (arith, hb, fits.bytes)) e in
    (ap String r.0, r.1)
token_alone limits (String a) Nothing x y fits ha hb e = absurd (string_second a (49 ∷ 13 ∷ 10 ∷ y) x (omega (arith, ha, fits.bytes)) (sym e))
token_alone limits (String a) (Count n) x y fits ha hb e = absurd (differ 36 42 _ _ (omega arith) e)
token_alone limits (String a) NoArray x y fits ha hb e = absurd (differ 36 42 _ _ (omega arith) e)
token_alone limits Nothing (Simple t) x y fits ha hb e = absurd (differ 36 43 _ _ (omega arith) e)
token_alone limits Nothing (Failure t) x y fits ha hb e = absurd (differ 36 45 _ _ (omega arith) e)
token_alone limits Nothing (Number (pos n)) x y fits ha hb e = absurd (differ 36 58 _ _ (omega arith) e)
token_alone limits Nothing (Number (negsuc n)) x y fits ha hb e = absurd (differ 36 58 _ _ (omega arith) e)
token_alone limits Nothing (String b) x y fits ha hb e = absurd (string_second b (49 ∷ 13 ∷ 10 ∷ x) y (omega (arith, hb, fits.bytes)) e)
token_alone limits Nothing Nothing x y fits ha hb e = (refl, cc)
token_alone limits Nothing (Count n) x y fits ha hb e = absurd (differ 36 42 _ _ (omega arith) e)
token_alone limits Nothing NoArray x y fits ha hb e = absurd (differ 36 42 _ _ (omega arith) e)
token_alone limits (Count m) (Simple t) x y fits ha hb e = absurd (differ 42 43 _ _ (omega arith) e)
token_alone limits (Count m) (Failure t) x y fits ha hb e = absurd (differ 42 45 _ _ (omega arith) e)
token_alone limits (Count m) (Number (pos n)) x y fits ha hb e = absurd (differ 42 58 _ _ (omega arith) e)
token_alone limits (Count m) (Number (negsuc n)) x y fits ha hb e = absurd (differ 42 58 _ _ (omega arith) e)
token_alone limits (Count m) (String b) x y fits ha hb e = absurd (differ 42 36 _ _ (omega arith) e)
token_alone limits (Count m) Nothing x y fits ha hb e = absurd (differ 42 36 _ _ (omega arith) e)
token_alone limits (Count m) (Count n) x y fits ha hb e =
    let behind : number m ++ x ≡ number n ++ y = cc in
    let r = number_alone m n x y (omega (arith, ha, fits.arguments)) (omega (arith, hb, fits.arguments)) behind in
    (ap Count r.0, r.1)
token_alone limits (Count m) NoArray x y fits ha hb e = absurd (number_second 42 m (49 ∷ 13 ∷ 10 ∷ y) x (omega (arith, ha, fits.arguments)) (sym e))
token_alone limits NoArray (Simple t) x y fits ha hb e = absurd (differ 42 43 _ _ (omega arith) e)
token_alone limits NoArray (Failure t) x y fits ha hb e = absurd (differ 42 45 _ _ (omega arith) e)
token_alone limits NoArray (Number (pos n)) x y fits ha hb e = absurd (differ 42 58 _ _ (omega arith) e)
token_alone limits NoArray (Number (negsuc n)) x y fits ha hb e = absurd (differ 42 58 _ _ (omega arith) e)
token_alone limits NoArray (String b) x y fits ha hb e = absurd (differ 42 36 _ _ (omega arith) e)
token_alone limits NoArray Nothing x y fits ha hb e = absurd (differ 42 36 _ _ (omega arith) e)
token_alone limits NoArray (Count n) x y fits ha hb e = absurd (number_second 42 n (49 ∷ 13 ∷ 10 ∷ x) y (omega (arith, hb, fits.arguments)) e)
token_alone limits NoArray NoArray x y fits ha hb e = (refl, cc)
