-- Lines of words as they are spelled, and what bytes have of one.
use Rattle.std.proofs.Common.{◌≡◌, ◌≢◌, ◌⊎◌, ℕ, ◌+◌, ◌<◌, ◌≤◌, zero, suc, inl, inr, List, [], ◌∷◌, ◌++◌, length, take, drop, get_or, refl, sym, ap, ◌∙◌, arith, subst, append_assoc, length-append, take-append-drop, length-take-le, append-nil}
use Rattle.std.proofs.lemmas.Bool.{cases_eq}
use Rattle.std.specs.List.{AllByRecursion}
use Rattle.resp.specs.Lines.{Lacks, Spoilt, Begins}
use Rattle.resp.specs.declared.limits.Limits.{Limits}
use Rattle.resp.specs.declared.outcome.ParseFault.{ParseFault}
use Rattle.resp.specs.declared.outcome.ParseFault.TheVariants.{ArrayLength, Mark, StringLength, StringEnd, LongLine, Quote, Control}
use Rattle.resp.specs.Parsing.{IsByteCause, IsCause}
use Rattle.resp.specs.Requests.{IsPlain, IsLine, inline}
use Rattle.resp.proofs.Numbers.{cut, all_behind, one_more}

not_plain : ¬ (IsPlain 10)
not_plain h = h.1 refl

inline_tail : (text tail : List ℕ) → inline text ++ tail ≡ text ++ 10 ∷ tail
inline_tail text tail = append_assoc text (10 ∷ []) tail

unmarked_front : (n : ℕ) (bytes : List ℕ) → get_or bytes 0 0 ≢ 42 → get_or (take n bytes) 0 0 ≢ 42
unmarked_front zero bytes ne = λ e. absurd (omega (arith, e))
unmarked_front (suc n) [] ne = ne
unmarked_front (suc n) (b ∷ bytes) ne = ne

pub front_is_line : (most n : ℕ) (bytes : List ℕ) → n ≤ length bytes → n ≤ most → AllByRecursion IsPlain (take n bytes) → get_or bytes 0 0 ≢ 42 → IsLine most (take n bytes)
front_is_line most n bytes within few plain ne = record { short = omega (arith, length-take-le n bytes within); plain = plain; unmarked = unmarked_front n bytes ne }

-- where plain bytes go on as a line does, the line begins with them
pub line_cut : (most : ℕ) (front more text tail : List ℕ) → AllByRecursion IsPlain front → IsLine most text → front ++ more ≡ inline text ++ tail → (k : List ℕ) × (text ≡ front ++ k) × (more ≡ k ++ 10 ∷ tail)
line_cut most front more text tail plain line e = cut IsPlain 10 not_plain front more text tail plain line.plain (e ∙ inline_tail text tail)

pub line_short : (most : ℕ) (bytes : List ℕ) → IsLine most bytes → Lacks inline (IsLine most) bytes 1
line_short most bytes line = record {
  some = omega arith;
  value = bytes;
  may = line;
  rest = 10 ∷ [];
  is = refl;
  long = refl;
  least = λ x more tail may e.
      let r = line_cut most bytes more x tail line.plain may e in
      omega (arith, ap length r.2, length-append r.0 (10 ∷ tail));
}

pub line_whole : (most n : ℕ) (bytes : List ℕ) → n < length bytes → IsLine most (take n bytes) → get_or bytes n 0 ≡ 10 → Begins inline (IsLine most) bytes (take n bytes) (n + 1)
line_whole most n bytes within line end = record {
  may = line;
  rest = drop (n + 1) bytes;
  is = sym (take-append-drop (n + 1) bytes) ∙ ap (λ l. l ++ drop (n + 1) bytes) (one_more bytes (take n bytes) n 10 within refl end);
  long = length-append (take n bytes) (10 ∷ []) ∙ ap (λ k. k + 1) (length-take-le n bytes (omega arith));
}

-- another byte than the end, which is not of the kind or for which there is no room
pub nothing_fits : (P : ℕ → Type 0) (end most c : ℕ) (front k more tail : List ℕ) → c ≢ end → (length front ≡ most) ⊎ ¬ (P c) → length (front ++ k) ≤ most → AllByRecursion P k → c ∷ more ≡ k ++ end ∷ tail → ⊥
nothing_fits P end most c front [] more tail ne why short plain e = ne cc
nothing_fits P end most c front (d ∷ k) more tail ne (inl full) short plain e = omega (arith, length-append front (d ∷ k))
nothing_fits P end most c front (d ∷ k) more tail ne (inr other) short plain e =
    let same : d ≡ c = cc in
    other (subst P same plain.0)

pub line_bad : (most n : ℕ) (bytes : List ℕ) → n < length bytes → IsLine most (take n bytes) → get_or bytes n 0 ≢ 10 → (n ≡ most) ⊎ ¬ (IsPlain (get_or bytes n 0)) → Spoilt inline (IsLine most) bytes n
line_bad most n bytes within line ne why =
    let len : length (take n bytes) ≡ n = length-take-le n bytes (omega arith) in
    let Why : ℕ → Type 0 = λ k. (k ≡ most) ⊎ ¬ (IsPlain (get_or bytes n 0)) in
    record {
      within = within;
      value = take n bytes;
      may = line;
      rest = 10 ∷ [];
      is = refl;
      stuck = λ x more tail may e.
          let with = one_more bytes (take n bytes) n (get_or bytes n 0) within refl refl in
          let there : take n bytes ++ get_or bytes n 0 ∷ more ≡ inline x ++ tail = sym (append_assoc (take n bytes) (get_or bytes n 0 ∷ []) more) ∙ (ap (λ l. l ++ more) (sym with) ∙ e) in
          let r = line_cut most (take n bytes) (get_or bytes n 0 ∷ more) x tail line.plain may there in
          nothing_fits IsPlain 10 most (get_or bytes n 0) (take n bytes) r.0 more tail ne (subst Why (sym len) why) (omega (arith, may.short, ap length r.1)) (all_behind IsPlain (take n bytes) r.0 x r.1 may.plain) r.2;
    }

only_end : (most : ℕ) (k x tail : List ℕ) → AllByRecursion IsPlain k → 10 ∷ x ≡ k ++ 10 ∷ tail → (k ≡ []) × (x ≡ tail)
only_end most [] x tail plain e = (refl, cc)
only_end most (d ∷ k) x tail plain e =
    let same : d ≡ 10 = cc in
    absurd (not_plain (subst IsPlain same plain.0))

-- no line is the beginning of another
pub inline_alone : (most : ℕ) (a b x y : List ℕ) → IsLine most a → IsLine most b → inline a ++ x ≡ inline b ++ y → (a ≡ b) × (x ≡ y)
inline_alone most a b x y ha hb e =
    let r = line_cut most a (10 ∷ x) b y ha.plain hb (sym (inline_tail a x) ∙ e) in
    let s = only_end most r.0 x y (all_behind IsPlain a r.0 b r.1 hb.plain) r.2 in
    (sym (r.1 ∙ (ap (λ l. a ++ l) s.0 ∙ append-nil a)), s.1)

-- a line's first byte is not an array's
pub inline_first : (most c : ℕ) (r text tail : List ℕ) → IsLine most text → c ∷ r ≡ inline text ++ tail → c ≢ 42
inline_first most c r [] tail line e same =
    let first : c ≡ 10 = cc in
    omega arith
inline_first most c r (t ∷ text) tail line e same =
    let first : t ≡ c = cc in
    line.unmarked (first ∙ same)

-- ---- causes

first_case : (c : ℕ) → (c ≡ 0) ⊎ (c ≢ 0) → (c ≡ 11) ⊎ (c ≢ 11) → (c ≡ 12) ⊎ (c ≢ 12) → (c ≢ 0 → c ≢ 11 → c ≢ 12 → ⊥) → (c ≡ 0) ⊎ ((c ≡ 11) ⊎ (c ≡ 12))
first_case c (inl a) y z f = inl a
first_case c (inr a) (inl b) z f = inr (inl b)
first_case c (inr a) (inr b) (inl d) f = inr (inr d)
first_case c (inr a) (inr b) (inr d) f = absurd (f a b d)

pub not_plain_is : (c : ℕ) → c ≢ 10 → c ≢ 34 → c ≢ 39 → ¬ (IsPlain c) → (c ≡ 0) ⊎ ((c ≡ 11) ⊎ (c ≡ 12))
not_plain_is c ten quote apostrophe spoilt = first_case c (cases_eq c 0) (cases_eq c 11) (cases_eq c 12) (λ a b d. spoilt (a, ten, b, d, quote, apostrophe))

pub byte_cause : (limits : Limits) (bytes : List ℕ) (at : ℕ) (fault : ParseFault) → get_or bytes 0 0 ≢ 42 → IsByteCause (get_or bytes at 0) fault → IsCause limits bytes at fault
byte_cause limits bytes at ArrayLength ne never = absurd never
byte_cause limits bytes at Mark ne never = absurd never
byte_cause limits bytes at StringLength ne never = absurd never
byte_cause limits bytes at StringEnd ne never = absurd never
byte_cause limits bytes at LongLine ne never = absurd never
byte_cause limits bytes at Quote ne is = (ne, is)
byte_cause limits bytes at Control ne is = (ne, is)
