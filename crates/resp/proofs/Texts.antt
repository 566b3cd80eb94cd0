-- Texts as they are spelled, and what bytes have of one.
use Rattle.std.proofs.Common.{◌≡◌, ◌≢◌, ◌⊎◌, ℕ, ◌+◌, ◌<◌, ◌≤◌, List, [], ◌∷◌, ◌++◌, length, take, drop, get_or, refl, sym, ap, ◌∙◌, arith, subst, append_assoc, append-nil, length-append, take-append-drop, length-take-le}
use Rattle.std.proofs.lemmas.List.{take_all}
use Rattle.std.specs.List.{AllByRecursion}
use Rattle.resp.specs.Lines.{Lacks, Spoilt, Begins}
use Rattle.resp.specs.Replies.{IsTextByte, IsText, text_line}
use Rattle.resp.proofs.Numbers.{cut, all_behind, one_more, two_more}
use Rattle.resp.proofs.Inlines.{nothing_fits}

no_text : ¬ (IsTextByte 13)
no_text h = h.0 refl

text_tail : (text tail : List ℕ) → text_line text ++ tail ≡ text ++ 13 ∷ 10 ∷ tail
text_tail text tail = append_assoc text (13 ∷ 10 ∷ []) tail

pub front_is_text : (most n : ℕ) (bytes : List ℕ) → n ≤ length bytes → n ≤ most → AllByRecursion IsTextByte (take n bytes) → IsText most (take n bytes)
front_is_text most n bytes within few plain = record { short = omega (arith, length-take-le n bytes within); plain = plain }

text_cut : (most : ℕ) (front more text tail : List ℕ) → AllByRecursion IsTextByte front → IsText most text → front ++ more ≡ text_line text ++ tail → (k : List ℕ) × (text ≡ front ++ k) × (more ≡ k ++ 13 ∷ 10 ∷ tail)
text_cut most front more text tail plain is e = cut IsTextByte 13 no_text front more text (10 ∷ tail) plain is.plain (e ∙ text_tail text tail)

-- nothing stands between a text and its CR
only_end : (k x y : List ℕ) → AllByRecursion IsTextByte k → 13 ∷ x ≡ k ++ 13 ∷ y → (k ≡ []) × (x ≡ y)
only_end [] x y plain e = (refl, cc)
only_end (d ∷ k) x y plain e =
    let same : d ≡ 13 = cc in
    absurd (no_text (subst IsTextByte same plain.0))

pub text_short : (most : ℕ) (bytes : List ℕ) → IsText most bytes → Lacks text_line (IsText most) bytes 2
text_short most bytes text = record {
  some = omega arith;
  value = bytes;
  may = text;
  rest = 13 ∷ 10 ∷ [];
  is = refl;
  long = refl;
  least = λ x more tail may e.
      let r = text_cut most bytes more x tail text.plain may e in
      omega (arith, ap length r.2, length-append r.0 (13 ∷ 10 ∷ tail));
}

pub text_cr : (most n : ℕ) (bytes : List ℕ) → n + 1 ≡ length bytes → IsText most (take n bytes) → get_or bytes n 0 ≡ 13 → Lacks text_line (IsText most) bytes 1
text_cr most n bytes all text cr =
    let front = take n bytes in
    let taken : take (n + 1) bytes ≡ take n bytes ++ 13 ∷ [] = one_more bytes (take n bytes) n 13 (omega arith) refl cr in
    let is : bytes ≡ take n bytes ++ 13 ∷ [] = sym (take_all (n + 1) bytes (omega arith)) ∙ taken in
    record {
      some = omega arith;
      value = take n bytes;
      may = text;
      rest = 10 ∷ [];
      is = ap (λ l. l ++ 10 ∷ []) is ∙ append_assoc (take n bytes) (13 ∷ []) (10 ∷ []);
      long = refl;
      least = λ x more tail may e.
          let there : take n bytes ++ 13 ∷ more ≡ text_line x ++ tail = sym (append_assoc (take n bytes) (13 ∷ []) more) ∙ (ap (λ l. l ++ more) (sym is) ∙ e) in
          let r = text_cut most (take n bytes) (13 ∷ more) x tail text.plain may there in
          let s = only_end r.0 more (10 ∷ tail) (all_behind IsTextByte (take n bytes) r.0 x r.1 may.plain) r.2 in
          omega (arith, ap length s.1);
    }

pub text_bad : (most n : ℕ) (bytes : List ℕ) → n < length bytes → IsText most (take n bytes) → get_or bytes n 0 ≢ 13 → (n ≡ most) ⊎ ¬ (IsTextByte (get_or bytes n 0)) → Spoilt text_line (IsText most) bytes n
text_bad most n bytes within text ne why =
    let len : length (take n bytes) ≡ n = length-take-le n bytes (omega arith) in
    let Why : ℕ → Type 0 = λ k. (k ≡ most) ⊎ ¬ (IsTextByte (get_or bytes n 0)) in
    record {
      within = within;
      value = take n bytes;
      may = text;
      rest = 13 ∷ 10 ∷ [];
      is = refl;
      stuck = λ x more tail may e.
          let with = one_more bytes (take n bytes) n (get_or bytes n 0) within refl refl in
          let there : take n bytes ++ get_or bytes n 0 ∷ more ≡ text_line x ++ tail = sym (append_assoc (take n bytes) (get_or bytes n 0 ∷ []) more) ∙ (ap (λ l. l ++ more) (sym with) ∙ e) in
          let r = text_cut most (take n bytes) (get_or bytes n 0 ∷ more) x tail text.plain may there in
          nothing_fits IsTextByte 13 most (get_or bytes n 0) (take n bytes) r.0 more (10 ∷ tail) ne (subst Why (sym len) why) (omega (arith, may.short, ap length r.1)) (all_behind IsTextByte (take n bytes) r.0 x r.1 may.plain) r.2;
    }

-- another byte than an LF behind the CR
pub text_feed : (most n : ℕ) (bytes : List ℕ) → n + 1 < length bytes → IsText most (take n bytes) → get_or bytes n 0 ≡ 13 → get_or bytes (n + 1) 0 ≢ 10 → Spoilt text_line (IsText most) bytes (n + 1)
text_feed most n bytes within text cr ne = record {
  within = within;
  value = take n bytes;
  may = text;
  rest = 10 ∷ [];
  is = ap (λ l. l ++ 10 ∷ []) (one_more bytes (take n bytes) n 13 (omega arith) refl cr) ∙ append_assoc (take n bytes) (13 ∷ []) (10 ∷ []);
  stuck = λ x more tail may e.
      let c = get_or bytes (n + 1) 0 in
      let with = two_more bytes (take n bytes) n 13 (get_or bytes (n + 1) 0) within refl cr refl in
      let there : take n bytes ++ 13 ∷ get_or bytes (n + 1) 0 ∷ more ≡ text_line x ++ tail = sym (append_assoc (take n bytes) (13 ∷ get_or bytes (n + 1) 0 ∷ []) more) ∙ (ap (λ l. l ++ more) (sym with) ∙ e) in
      let r = text_cut most (take n bytes) (13 ∷ get_or bytes (n + 1) 0 ∷ more) x tail text.plain may there in
      let s = only_end r.0 (get_or bytes (n + 1) 0 ∷ more) (10 ∷ tail) (all_behind IsTextByte (take n bytes) r.0 x r.1 may.plain) r.2 in
      let f : get_or bytes (n + 1) 0 ∷ more ≡ 10 ∷ tail = s.1 in
      ne cc;
}

pub text_whole : (most n : ℕ) (bytes : List ℕ) → n + 1 < length bytes → IsText most (take n bytes) → get_or bytes n 0 ≡ 13 → get_or bytes (n + 1) 0 ≡ 10 → Begins text_line (IsText most) bytes (take n bytes) (n + 2)
text_whole most n bytes within text cr lf =
    let same : n + 2 ≡ n + 1 + 1 = omega arith in
    let taken : take (n + 2) bytes ≡ text_line (take n bytes) = ap (λ k. take k bytes) same ∙ two_more bytes (take n bytes) n 13 10 within refl cr lf in
    record {
      may = text;
      rest = drop (n + 2) bytes;
      is = sym (take-append-drop (n + 2) bytes) ∙ ap (λ l. l ++ drop (n + 2) bytes) taken;
      long = length-append (take n bytes) (13 ∷ 10 ∷ []) ∙ ap (λ k. k + 2) (length-take-le n bytes (omega arith));
    }

-- no text is the beginning of another
pub text_alone : (most : ℕ) (a b x y : List ℕ) → IsText most a → IsText most b → text_line a ++ x ≡ text_line b ++ y → (a ≡ b) × (x ≡ y)
text_alone most a b x y ha hb e =
    let r = text_cut most a (13 ∷ 10 ∷ x) b y ha.plain hb (sym (text_tail a x) ∙ e) in
    let s = only_end r.0 (10 ∷ x) (10 ∷ y) (all_behind IsTextByte a r.0 b r.1 hb.plain) r.2 in
    let t : 10 ∷ x ≡ 10 ∷ y = s.1 in
    (sym (r.1 ∙ (ap (λ l. a ++ l) s.0 ∙ append-nil a)), cc)
