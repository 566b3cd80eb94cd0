-- What outcomes keep: behind a front, of one kind among several, and against each other.
use Rattle.std.proofs.Common.{◌≡◌, ℕ, ◌+◌, List, [], ◌++◌, length, take, drop, sym, ap, ◌∙◌, arith, append_assoc, append-nil, length-append, take-append-drop}
use Rattle.std.proofs.lemmas.List.{append_cancel_left}
use Rattle.std.proofs.Math.Seq.{take-append-add}
use Rattle.std.specs.Prelude.{Result, Ok, Err, IfOk, OnOk}
use Rattle.resp.specs.Lines.{Lacks, Spoilt, Begins}

pub if_ok : {T E : Type 0} (P Q : T → Type 0) (r : Result T E) → ((x : T) → P x → Q x) → IfOk r P → IfOk r Q
if_ok P Q (Ok x) f h = f x h
if_ok P Q (Err e) f h = h

pub on_ok : {T E : Type 0} (P Q : Type 0) (r : Result T E) → (P → Q) → OnOk r P → OnOk r Q
on_ok P Q (Ok x) f h = f h
on_ok P Q (Err e) f h = h

-- ---- a front before each spelling

pub front_begins : {X : Type 0} (spell : X → List ℕ) (May : X → Type 0) (front rest bytes : List ℕ) (v : X) (len all : ℕ) → bytes ≡ front ++ rest → all ≡ length front + len → Begins spell May rest v len → Begins (λ x. front ++ spell x) May bytes v all
front_begins spell May front rest bytes v len all is sum begins = record {
  may = begins.may;
  rest = begins.rest;
  is = is ∙ (ap (λ l. front ++ l) begins.is ∙ sym (append_assoc front (spell v) begins.rest));
  long = length-append front (spell v) ∙ (ap (λ n. length front + n) begins.long ∙ sym sum);
}

pub front_lacks : {X : Type 0} (spell : X → List ℕ) (May : X → Type 0) (front rest bytes : List ℕ) (n : ℕ) → bytes ≡ front ++ rest → Lacks spell May rest n → Lacks (λ x. front ++ spell x) May bytes n
front_lacks spell May front rest bytes n is lacks = record {
  some = lacks.some;
  value = lacks.value;
  may = lacks.may;
  rest = lacks.rest;
  is = ap (λ l. l ++ lacks.rest) is ∙ (append_assoc front rest lacks.rest ∙ ap (λ l. front ++ l) lacks.is);
  long = lacks.long;
  least = λ x more tail may e.
      let there : front ++ (rest ++ more) ≡ front ++ (spell x ++ tail) = sym (append_assoc front rest more) ∙ (ap (λ l. l ++ more) (sym is) ∙ (e ∙ append_assoc front (spell x) tail)) in
      lacks.least x more tail may (append_cancel_left front (rest ++ more) (spell x ++ tail) there);
}

pub taken_behind : (front rest bytes : List ℕ) (at all : ℕ) → bytes ≡ front ++ rest → all ≡ length front + at → take (all + 1) bytes ≡ front ++ take (at + 1) rest
taken_behind front rest bytes at all is sum =
    let next : all + 1 ≡ length front + (at + 1) = omega arith in
    ap (λ l. take (all + 1) l) is ∙ (ap (λ n. take n (front ++ rest)) next ∙ take-append-add front rest (at + 1))

pub front_spoilt : {X : Type 0} (spell : X → List ℕ) (May : X → Type 0) (front rest bytes : List ℕ) (at all : ℕ) → bytes ≡ front ++ rest → all ≡ length front + at → Spoilt spell May rest at → Spoilt (λ x. front ++ spell x) May bytes all
front_spoilt spell May front rest bytes at all is sum bad =
    let before : take all bytes ≡ front ++ take at rest = ap (λ l. take all l) is ∙ (ap (λ n. take n (front ++ rest)) sum ∙ take-append-add front rest at) in
    let with = taken_behind front rest bytes at all is sum in
    record {
      within = omega (arith, ap length is, length-append front rest, bad.within);
      value = bad.value;
      may = bad.may;
      rest = bad.rest;
      is = ap (λ l. l ++ bad.rest) before ∙ (append_assoc front (take at rest) bad.rest ∙ ap (λ l. front ++ l) bad.is);
      stuck = λ x more tail may e.
          let there : front ++ (take (at + 1) rest ++ more) ≡ front ++ (spell x ++ tail) = sym (append_assoc front (take (at + 1) rest) more) ∙ (ap (λ l. l ++ more) (sym with) ∙ (e ∙ append_assoc front (spell x) tail)) in
          bad.stuck x more tail may (append_cancel_left front (take (at + 1) rest ++ more) (spell x ++ tail) there);
    }

-- ---- one kind of values among several

-- what begins so is of this kind
abbrev pub Only : {X Y : Type 0} (spell : X → List ℕ) (May : X → Type 0) (all : Y → List ℕ) (MayAll : Y → Type 0) (front : List ℕ) → Type 0
Only {X} {Y} spell May all MayAll front = (y : Y) (more tail : List ℕ) → MayAll y → front ++ more ≡ all y ++ tail → (x : X) × May x × (spell x ≡ all y)

pub kind_begins : {X Y : Type 0} (spell : X → List ℕ) (May : X → Type 0) (all : Y → List ℕ) (MayAll : Y → Type 0) (kind : X → Y) → ((x : X) → May x → all (kind x) ≡ spell x) → ((x : X) → May x → MayAll (kind x)) → (bytes : List ℕ) (v : X) (len : ℕ) → Begins spell May bytes v len → Begins all MayAll bytes (kind v) len
kind_begins spell May all MayAll kind same may_be bytes v len begins = record {
  may = may_be v begins.may;
  rest = begins.rest;
  is = begins.is ∙ ap (λ l. l ++ begins.rest) (sym (same v begins.may));
  long = ap length (same v begins.may) ∙ begins.long;
}

pub kind_lacks : {X Y : Type 0} (spell : X → List ℕ) (May : X → Type 0) (all : Y → List ℕ) (MayAll : Y → Type 0) (kind : X → Y) → ((x : X) → May x → all (kind x) ≡ spell x) → ((x : X) → May x → MayAll (kind x)) → (bytes : List ℕ) (n : ℕ) → Only spell May all MayAll bytes → Lacks spell May bytes n → Lacks all MayAll bytes n
kind_lacks spell May all MayAll kind same may_be bytes n only lacks = record {
  some = lacks.some;
  value = kind lacks.value;
  may = may_be lacks.value lacks.may;
  rest = lacks.rest;
  is = lacks.is ∙ sym (same lacks.value lacks.may);
  long = lacks.long;
  least = λ y more tail may e.
      let one = only y more tail may e in
      lacks.least one.0 more tail one.1 (e ∙ ap (λ l. l ++ tail) (sym one.2));
}

pub kind_spoilt : {X Y : Type 0} (spell : X → List ℕ) (May : X → Type 0) (all : Y → List ℕ) (MayAll : Y → Type 0) (kind : X → Y) → ((x : X) → May x → all (kind x) ≡ spell x) → ((x : X) → May x → MayAll (kind x)) → (bytes : List ℕ) (at : ℕ) → Only spell May all MayAll (take (at + 1) bytes) → Spoilt spell May bytes at → Spoilt all MayAll bytes at
kind_spoilt spell May all MayAll kind same may_be bytes at only bad = record {
  within = bad.within;
  value = kind bad.value;
  may = may_be bad.value bad.may;
  rest = bad.rest;
  is = bad.is ∙ sym (same bad.value bad.may);
  stuck = λ y more tail may e.
      let one = only y more tail may e in
      bad.stuck one.0 more tail one.1 (e ∙ ap (λ l. l ++ tail) (sym one.2));
}

-- ---- they exclude each other

pub begins_not_lacks : {X : Type 0} (spell : X → List ℕ) (May : X → Type 0) (bytes : List ℕ) (v : X) (rest : List ℕ) (n : ℕ) → May v → bytes ≡ spell v ++ rest → Lacks spell May bytes n → ⊥
begins_not_lacks spell May bytes v rest n may is lacks =
    let r = lacks.least v [] rest may (append-nil bytes ∙ is) in
    omega (arith, lacks.some)

pub begins_not_spoilt : {X : Type 0} (spell : X → List ℕ) (May : X → Type 0) (bytes : List ℕ) (v : X) (rest : List ℕ) (at : ℕ) → May v → bytes ≡ spell v ++ rest → Spoilt spell May bytes at → ⊥
begins_not_spoilt spell May bytes v rest at may is bad = bad.stuck v (drop (at + 1) bytes) rest may (take-append-drop (at + 1) bytes ∙ is)

pub lacks_not_spoilt : {X : Type 0} (spell : X → List ℕ) (May : X → Type 0) (bytes : List ℕ) (n at : ℕ) → Lacks spell May bytes n → Spoilt spell May bytes at → ⊥
lacks_not_spoilt spell May bytes n at lacks bad =
    bad.stuck lacks.value (drop (at + 1) bytes ++ lacks.rest) [] lacks.may (sym (append_assoc (take (at + 1) bytes) (drop (at + 1) bytes) lacks.rest) ∙ (ap (λ l. l ++ lacks.rest) (take-append-drop (at + 1) bytes) ∙ (lacks.is ∙ sym (append-nil (spell lacks.value)))))
