-- Requests of all kinds, and what bytes have of one.
use Rattle.std.proofs.Common.{◌≡◌, ◌≢◌, ℕ, ◌+◌, ◌*◌, ◌^◌, ◌<◌, ◌≤◌, zero, suc, inr, List, [], ◌∷◌, ◌++◌, length, take, drop, get_or, refl, sym, ap, ◌∙◌, arith, subst, append-nil, length-append, length-take}
use Rattle.std.proofs.lemmas.List.{get_or-take, nil_from_length}
use Rattle.std.specs.Prelude.{decimal}
use Rattle.std.specs.List.{flat_map}
use Rattle.std.proofs.lemmas.Fmt.{decimal_digit, decimal_nonempty, length-decimal-le}
use Rattle.resp.specs.declared.limits.Limits.{Limits}
use Rattle.resp.specs.declared.place.Span.{Span}
use Rattle.resp.specs.declared.outcome.ParseFault.{ParseFault}
use Rattle.resp.specs.declared.outcome.Parsed.{Parsed}
use Rattle.resp.specs.declared.outcome.Parsed.TheVariants.{Request, Incomplete, Malformed}
use Rattle.resp.specs.Lines.{IsDigit, number, line, Lacks, Spoilt, IsPositive}
use Rattle.resp.specs.Requests.{bulk, array, negative, inline, total, IsSmall, IsLine, Command, command, arguments_of, IsAdmitted, longest}
use Rattle.resp.specs.Requests.{Array, Negative, Inline}
use Rattle.resp.specs.Parsing.{arguments_in, AreWithin, IsCause, ParsesArray, ParsesNegative, ParsesInline, Parses, Again, IsBounded}
use Rattle.resp.specs.Laws.{AreNumbers}
use Rattle.resp.proofs.Numbers.{number_tail, number_alone, begins_with_digit, decimal_digits}
use Rattle.resp.proofs.Arrays.{array_tail, array_alone}
use Rattle.resp.proofs.Inlines.{inline_first, inline_alone}
use Rattle.resp.proofs.Outcomes.{Only, kind_begins, kind_lacks, kind_spoilt, begins_not_lacks, begins_not_spoilt}

-- ---- the first two bytes tell the kind

pub two_first : (bytes : List ℕ) (c d : ℕ) → 1 < length bytes → get_or bytes 0 0 ≡ c → get_or bytes 1 0 ≡ d → (r : List ℕ) × (bytes ≡ c ∷ d ∷ r)
two_first [] c d some one two = absurd (omega arith)
two_first (a ∷ []) c d some one two = absurd (omega arith)
two_first (a ∷ b ∷ r) c d some one two = (r, cc)

pub alone_first : (bytes : List ℕ) (c : ℕ) → length bytes ≡ 1 → get_or bytes 0 0 ≡ c → bytes ≡ c ∷ []
alone_first [] c len one = absurd (omega arith)
alone_first (a ∷ []) c len one = ap (λ x. x ∷ []) one
alone_first (a ∷ b ∷ r) c len one = absurd (omega arith)

pub behind_two : (bytes : List ℕ) (c d : ℕ) → 1 < length bytes → get_or bytes 0 0 ≡ c → get_or bytes 1 0 ≡ d → bytes ≡ c ∷ d ∷ drop 2 bytes
behind_two [] c d some one two = absurd (omega arith)
behind_two (a ∷ []) c d some one two = absurd (omega arith)
behind_two (a ∷ b ∷ r) c d some one two = cc

pub two_taken : (bytes : List ℕ) (c d at : ℕ) → 1 < length bytes → 0 < at → get_or bytes 0 0 ≡ c → get_or bytes 1 0 ≡ d → (r : List ℕ) × (take (at + 1) bytes ≡ c ∷ d ∷ r)
two_taken bytes c d at some later one two =
    two_first (take (at + 1) bytes) c d (omega (arith, length-take (at + 1) bytes)) (get_or-take (at + 1) bytes 0 0 (omega arith) ∙ one) (get_or-take (at + 1) bytes 1 0 (omega arith) ∙ two)

one_first : (bytes : List ℕ) → 0 < length bytes → (r : List ℕ) × (bytes ≡ get_or bytes 0 0 ∷ r)
one_first [] some = absurd (omega arith)
one_first (a ∷ r) some = (r, refl)

one_taken : (bytes : List ℕ) (at : ℕ) → 0 < length bytes → (r : List ℕ) × (take (at + 1) bytes ≡ get_or bytes 0 0 ∷ r)
one_taken bytes at some =
    let r = one_first (take (at + 1) bytes) (omega (arith, length-take (at + 1) bytes)) in
    (r.0, r.1 ∙ ap (λ c. c ∷ r.0) (get_or-take (at + 1) bytes 0 0 (omega arith)))

pub no_minus : (n : ℕ) (r tail : List ℕ) → n < 2 ^ 64 → 45 ∷ r ≡ number n ++ tail → ⊥
no_minus n r tail small e =
    let digit : IsDigit 45 = begins_with_digit n (decimal n) 45 r tail small refl (decimal_nonempty n small) (decimal_digits n small) (e ∙ number_tail n tail) in
    omega (arith, digit.0)

array_second : (a : List (List ℕ)) (r tail : List ℕ) → length a < 2 ^ 64 → 42 ∷ 45 ∷ r ≡ array a ++ tail → ⊥
array_second a r tail small e =
    let there : 42 ∷ 45 ∷ r ≡ 42 ∷ (number (length a) ++ (flat_map bulk a ++ tail)) = e ∙ array_tail a tail in
    let behind : 45 ∷ r ≡ number (length a) ++ (flat_map bulk a ++ tail) = cc in
    no_minus (length a) r (flat_map bulk a ++ tail) small behind

array_only : (limits : Limits) (c : ℕ) (r : List ℕ) → c ≢ 45 → Only array (IsSmall limits) command (IsAdmitted limits) (42 ∷ c ∷ r)
array_only limits c r ne (Array a) more tail may e = (a, may, refl)
array_only limits c r ne (Negative n) more tail may e = absurd (ne cc)
array_only limits c r ne (Inline text) more tail may e = absurd (inline_first limits.line 42 (c ∷ (r ++ more)) text tail may e refl)

negative_only : (limits : Limits) (r : List ℕ) → AreNumbers limits → Only negative (IsPositive (2 ^ 63)) command (IsAdmitted limits) (42 ∷ 45 ∷ r)
negative_only limits r fits (Array a) more tail may e = absurd (array_second a (r ++ more) tail (omega (arith, may.few, fits.arguments)) e)
negative_only limits r fits (Negative n) more tail may e = (n, may, refl)
negative_only limits r fits (Inline text) more tail may e = absurd (inline_first limits.line 42 (45 ∷ (r ++ more)) text tail may e refl)

inline_only : (limits : Limits) (c : ℕ) (r : List ℕ) → c ≢ 42 → Only inline (IsLine limits.line) command (IsAdmitted limits) (c ∷ r)
inline_only limits c r ne (Array a) more tail may e = absurd (ne cc)
inline_only limits c r ne (Negative n) more tail may e = absurd (ne cc)
inline_only limits c r ne (Inline text) more tail may e = (text, may, refl)

only_front : {X : Type 0} (spell : X → List ℕ) (May : X → Type 0) (limits : Limits) (a b : List ℕ) → a ≡ b → Only spell May command (IsAdmitted limits) b → Only spell May command (IsAdmitted limits) a
only_front spell May limits a b e only = subst (Only spell May command (IsAdmitted limits)) (sym e) only

-- ---- what is missing at the very front

length_number : (n : ℕ) → n < 2 ^ 64 → 3 ≤ length (number n)
length_number n small = omega (arith, length-append (decimal n) (13 ∷ 10 ∷ []), decimal_nonempty n small)

length_command : (limits : Limits) (c : Command) → 1 ≤ length (command c)
length_command limits (Array a) = omega arith
length_command limits (Negative n) = omega arith
length_command limits (Inline text) = omega (arith, length-append text (10 ∷ []))

pub nothing_there : (limits : Limits) → Lacks command (IsAdmitted limits) [] 1
nothing_there limits = record {
  some = omega arith;
  value = Inline [];
  may = record { short = omega arith; plain = tt; unmarked = λ e. absurd (omega (arith, e)) };
  rest = 10 ∷ [];
  is = refl;
  long = refl;
  least = λ x more tail may e. omega (arith, ap length e, length-append (command x) tail, length_command limits x);
}

mark_least : (limits : Limits) (c : Command) (more tail : List ℕ) → AreNumbers limits → IsAdmitted limits c → 42 ∷ more ≡ command c ++ tail → 3 + length tail ≤ length more
mark_least limits (Array a) more tail fits may e =
    let there : 42 ∷ more ≡ 42 ∷ (number (length a) ++ (flat_map bulk a ++ tail)) = e ∙ array_tail a tail in
    omega (arith, ap length there, length-append (number (length a)) (flat_map bulk a ++ tail), length-append (flat_map bulk a) tail, length_number (length a) (omega (arith, may.few, fits.arguments)))
mark_least limits (Negative n) more tail fits may e =
    let there : 42 ∷ more ≡ 42 ∷ 45 ∷ (number n ++ tail) = e in
    omega (arith, ap length there, length-append (number n) tail, length_number n (omega (arith, may.1)))
mark_least limits (Inline text) more tail fits may e = absurd (inline_first limits.line 42 more text tail may e refl)

pub mark_there : (limits : Limits) (bytes : List ℕ) → AreNumbers limits → bytes ≡ 42 ∷ [] → Lacks command (IsAdmitted limits) bytes 3
mark_there limits bytes fits is = record {
  some = omega arith;
  value = Array [];
  may = record { few = omega arith; short = omega arith };
  rest = number 0;
  is = ap (λ l. l ++ number 0) is ∙ sym (append-nil (line 42 0));
  long = ap (λ l. length (l ++ 13 ∷ 10 ∷ [])) (decimal_digit 0 (omega arith));
  least = λ x more tail may e. mark_least limits x more tail fits may (ap (λ l. l ++ more) (sym is) ∙ e);
}

-- ---- each kind is one of all

array_later : (limits : Limits) (bytes : List ℕ) (at : ℕ) → 0 < length bytes → get_or bytes 0 0 ≡ 42 → Spoilt array (IsSmall limits) bytes at → 0 < at
array_later limits bytes (suc at) some is bad = omega arith
array_later limits bytes zero some is bad =
    let one = one_taken bytes 0 some in
    let front : take 1 bytes ≡ 42 ∷ one.0 = one.1 ∙ ap (λ c. c ∷ one.0) is in
    let len : length (take 1 bytes) ≤ 1 = omega (arith, length-take 1 bytes) in
    let none : one.0 ≡ [] = nil_from_length one.0 (omega (arith, ap length front)) in
    let all : take (0 + 1) bytes ++ number 0 ≡ array [] ++ [] = ap (λ l. l ++ number 0) (front ∙ ap (λ l. 42 ∷ l) none) ∙ (sym (append-nil (line 42 0)) ∙ sym (append-nil (line 42 0 ++ []))) in
    absurd (bad.stuck [] (number 0) [] (record { few = omega arith; short = omega arith }) all)

pub array_is : (limits : Limits) (bytes : List ℕ) (spans : List Span) (p : Parsed) → 1 < length bytes → get_or bytes 0 0 ≡ 42 → get_or bytes 1 0 ≢ 45 → ParsesArray limits bytes spans p → Parses limits bytes spans p
array_is limits bytes spans (Request consumed) some one two found = record {
  value = Array (arguments_in bytes spans);
  begins = kind_begins array (IsSmall limits) command (IsAdmitted limits) Array (λ x h. refl) (λ x h. h) bytes (arguments_in bytes spans) consumed found.0;
  arguments = refl;
  within = found.1;
  spans_within = found.2;
}
array_is limits bytes spans (Incomplete n) some one two lacks =
    let f = two_first bytes 42 (get_or bytes 1 0) some one refl in
    kind_lacks array (IsSmall limits) command (IsAdmitted limits) Array (λ x h. refl) (λ x h. h) bytes n (only_front array (IsSmall limits) limits bytes (42 ∷ get_or bytes 1 0 ∷ f.0) f.1 (array_only limits (get_or bytes 1 0) f.0 two)) lacks
array_is limits bytes spans (Malformed at fault) some one two bad =
    let f = two_taken bytes 42 (get_or bytes 1 0) at some (array_later limits bytes at (omega arith) one bad.0) one refl in (
      kind_spoilt array (IsSmall limits) command (IsAdmitted limits) Array (λ x h. refl) (λ x h. h) bytes at (only_front array (IsSmall limits) limits (take (at + 1) bytes) (42 ∷ get_or bytes 1 0 ∷ f.0) f.1 (array_only limits (get_or bytes 1 0) f.0 two)) bad.0,
      bad.1,
    )

negative_later : (bytes : List ℕ) (at : ℕ) → 0 < length bytes → get_or bytes 0 0 ≡ 42 → Spoilt negative (IsPositive (2 ^ 63)) bytes at → 0 < at
negative_later bytes (suc at) some is bad = omega arith
negative_later bytes zero some is bad =
    let one = one_taken bytes 0 some in
    let front : take 1 bytes ≡ 42 ∷ one.0 = one.1 ∙ ap (λ c. c ∷ one.0) is in
    let len : length (take 1 bytes) ≤ 1 = omega (arith, length-take 1 bytes) in
    let none : one.0 ≡ [] = nil_from_length one.0 (omega (arith, ap length front)) in
    let all : take (0 + 1) bytes ++ 45 ∷ number 1 ≡ negative 1 ++ [] = ap (λ l. l ++ 45 ∷ number 1) (front ∙ ap (λ l. 42 ∷ l) none) ∙ sym (append-nil (negative 1)) in
    absurd (bad.stuck 1 (45 ∷ number 1) [] (omega arith, omega arith) all)

pub negative_is : (limits : Limits) (bytes : List ℕ) (spans : List Span) (p : Parsed) → AreNumbers limits → 1 < length bytes → get_or bytes 0 0 ≡ 42 → get_or bytes 1 0 ≡ 45 → spans ≡ [] → ParsesNegative bytes p → Parses limits bytes spans p
negative_is limits bytes spans (Request consumed) fits some one two none found =
    let begins = found.1 in
    record {
      value = Negative found.0;
      begins = kind_begins negative (IsPositive (2 ^ 63)) command (IsAdmitted limits) Negative (λ x h. refl) (λ x h. h) bytes found.0 consumed begins;
      arguments = ap (arguments_in bytes) none;
      within = omega (arith, ap length begins.is, length-append (negative found.0) begins.rest, begins.long);
      spans_within = subst (AreWithin (length bytes)) (sym none) tt;
    }
negative_is limits bytes spans (Incomplete n) fits some one two none lacks =
    let f = two_first bytes 42 45 some one two in
    kind_lacks negative (IsPositive (2 ^ 63)) command (IsAdmitted limits) Negative (λ x h. refl) (λ x h. h) bytes n (only_front negative (IsPositive (2 ^ 63)) limits bytes (42 ∷ 45 ∷ f.0) f.1 (negative_only limits f.0 fits)) lacks
negative_is limits bytes spans (Malformed at fault) fits some one two none bad =
    let f = two_taken bytes 42 45 at some (negative_later bytes at (omega arith) one bad.0) one two in
    let Cause : ParseFault → Type 0 = IsCause limits bytes at in (
      kind_spoilt negative (IsPositive (2 ^ 63)) command (IsAdmitted limits) Negative (λ x h. refl) (λ x h. h) bytes at (only_front negative (IsPositive (2 ^ 63)) limits (take (at + 1) bytes) (42 ∷ 45 ∷ f.0) f.1 (negative_only limits f.0 fits)) bad.0,
      subst Cause (sym bad.1) (inr bad.0),
    )

pub inline_is : (limits : Limits) (bytes : List ℕ) (spans : List Span) (p : Parsed) → 0 < length bytes → get_or bytes 0 0 ≢ 42 → ParsesInline limits bytes spans p → Parses limits bytes spans p
inline_is limits bytes spans (Request consumed) some ne found = record {
  value = Inline found.0;
  begins = kind_begins inline (IsLine limits.line) command (IsAdmitted limits) Inline (λ x h. refl) (λ x h. h) bytes found.0 consumed found.1;
  arguments = found.2;
  within = found.3;
  spans_within = found.4;
}
inline_is limits bytes spans (Incomplete n) some ne lacks =
    let f = one_first bytes some in
    kind_lacks inline (IsLine limits.line) command (IsAdmitted limits) Inline (λ x h. refl) (λ x h. h) bytes n (only_front inline (IsLine limits.line) limits bytes (get_or bytes 0 0 ∷ f.0) f.1 (inline_only limits (get_or bytes 0 0) f.0 ne)) lacks
inline_is limits bytes spans (Malformed at fault) some ne bad =
    let f = one_taken bytes at some in (
      kind_spoilt inline (IsLine limits.line) command (IsAdmitted limits) Inline (λ x h. refl) (λ x h. h) bytes at (only_front inline (IsLine limits.line) limits (take (at + 1) bytes) (get_or bytes 0 0 ∷ f.0) f.1 (inline_only limits (get_or bytes 0 0) f.0 ne)) bad.0,
      bad.1,
    )

-- ---- no request is the beginning of another

pub command_alone : (limits : Limits) (a b : Command) (x y : List ℕ) → AreNumbers limits → IsAdmitted limits a → IsAdmitted limits b → command a ++ x ≡ command b ++ y → (a ≡ b) × (x ≡ y)
command_alone limits (Array a) (Array b) x y fits ha hb e =
    let r = array_alone a b x y (omega (arith, ha.few, fits.arguments)) (omega (arith, hb.few, fits.arguments)) (omega (arith, ha.short, fits.bytes)) (omega (arith, hb.short, fits.bytes)) e in
    (ap Array r.0, r.1)
command_alone limits (Array a) (Negative n) x y fits ha hb e = absurd (array_second a (number n ++ y) x (omega (arith, ha.few, fits.arguments)) (sym e))
command_alone limits (Array a) (Inline text) x y fits ha hb e = absurd (inline_first limits.line 42 (number (length a) ++ flat_map bulk a ++ x) text y hb e refl)
command_alone limits (Negative n) (Array a) x y fits ha hb e = absurd (array_second a (number n ++ x) y (omega (arith, hb.few, fits.arguments)) e)
command_alone limits (Negative m) (Negative n) x y fits ha hb e =
    let there : number m ++ x ≡ number n ++ y = cc in
    let r = number_alone m n x y (omega (arith, ha.1)) (omega (arith, hb.1)) there in
    (ap Negative r.0, r.1)
command_alone limits (Negative n) (Inline text) x y fits ha hb e = absurd (inline_first limits.line 42 (45 ∷ (number n ++ x)) text y hb e refl)
command_alone limits (Inline text) (Array a) x y fits ha hb e = absurd (inline_first limits.line 42 (number (length a) ++ flat_map bulk a ++ y) text x ha (sym e) refl)
command_alone limits (Inline text) (Negative n) x y fits ha hb e = absurd (inline_first limits.line 42 (45 ∷ (number n ++ y)) text x ha (sym e) refl)
command_alone limits (Inline a) (Inline b) x y fits ha hb e =
    let r = inline_alone limits.line a b x y ha hb e in
    (ap Inline r.0, r.1)

-- ---- what is written is read again

pub read_again : (limits : Limits) (bytes : List ℕ) (spans : List Span) (p : Parsed) → AreNumbers limits → Parses limits bytes spans p → (asked : Command) (rest : List ℕ) → IsAdmitted limits asked → bytes ≡ command asked ++ rest → Again bytes spans asked p
read_again limits bytes spans (Request consumed) fits found asked rest may is =
    let begins = found.begins in
    let r = command_alone limits found.value asked begins.rest rest fits begins.may may (sym begins.is ∙ is) in
    (found.arguments ∙ ap arguments_of r.0, sym begins.long ∙ ap (λ a. length (command a)) r.0)
read_again limits bytes spans (Incomplete n) fits lacks asked rest may is = absurd (begins_not_lacks command (IsAdmitted limits) bytes asked rest n may is lacks)
read_again limits bytes spans (Malformed at fault) fits bad asked rest may is = absurd (begins_not_spoilt command (IsAdmitted limits) bytes asked rest at may is bad.0)

-- ---- how long a request is at most

number_short : (k n : ℕ) → 0 < k → n < 10 ^ k → n < 2 ^ 64 → length (number n) ≤ k + 2
number_short k n some small fits = omega (arith, length-append (decimal n) (13 ∷ 10 ∷ []), length-decimal-le k n some small fits)

bulk_long : (b : List ℕ) → length b < 2 ^ 32 → length (bulk b) ≤ 15 + length b
bulk_long b small =
    let short : length (number (length b)) ≤ 12 = number_short 10 (length b) (omega arith) (omega arith) (omega arith) in
    omega (arith, length-append (line 36 (length b)) (b ++ 13 ∷ 10 ∷ []), length-append b (13 ∷ 10 ∷ []))

bulks_long : (bs : List (List ℕ)) → total bs < 2 ^ 32 → length (flat_map bulk bs) ≤ 15 * length bs + total bs
bulks_long [] small = omega arith
bulks_long (b ∷ bs) small = omega (arith, length-append (bulk b) (flat_map bulk bs), bulk_long b (omega arith), bulks_long bs (omega arith))

command_long : (limits : Limits) (c : Command) → AreNumbers limits → IsAdmitted limits c → length (command c) ≤ longest limits
command_long limits (Array a) fits may =
    let few = may.few in
    let small = may.short in
    let arguments = fits.arguments in
    let bytes = fits.bytes in
    let short : length (number (length a)) ≤ 12 = number_short 10 (length a) (omega arith) (omega arith) (omega arith) in
    omega (arith, length-append (line 42 (length a)) (flat_map bulk a), bulks_long a (omega arith))
command_long limits (Negative n) fits may =
    let small = may.1 in
    let short : length (number n) ≤ 21 = number_short 19 n (omega arith) (omega arith) (omega arith) in
    omega arith
command_long limits (Inline text) fits may =
    let short = may.short in
    omega (arith, length-append text (10 ∷ []))

pub is_bounded : (limits : Limits) (bytes : List ℕ) (spans : List Span) (p : Parsed) → AreNumbers limits → Parses limits bytes spans p → IsBounded limits bytes p
is_bounded limits bytes spans (Request consumed) fits found = tt
is_bounded limits bytes spans (Incomplete n) fits lacks = omega (arith, ap length lacks.is, length-append bytes lacks.rest, lacks.long, command_long limits lacks.value fits lacks.may)
is_bounded limits bytes spans (Malformed at fault) fits bad = tt
