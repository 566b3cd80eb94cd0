-- What is said on connections, as one mark follows another.
use Rattle.std.proofs.Common.{◌≡◌, ◌≢◌, ℕ, Bool, true, false, cond, List, [], ◌∷◌, ◌++◌, refl, sym, ap, ◌∙◌, append_assoc, append-nil, subst}
use Rattle.std.specs.Prelude.{◌==◌}
use Rattle.std.proofs.lemmas.Bool.{eq-eqb, ne_eqb}
use Rattle.request_loop.specs.Marks.{Mark, Piece, Stop, Else, said, is_stopped, EndsOnce}
use Rattle.request_loop.specs.Turns.{Says}

said-append : {A : Type 0} (c : ℕ) (ms ns : List (Mark A)) → said c (ms ++ ns) ≡ said c ms ++ said c ns
said-append {A} c [] ns = refl
said-append {A} c (Piece d xs ∷ ms) ns =
    elim (d == c) as (λ t. cond t (xs ++ said c (ms ++ ns)) (said c (ms ++ ns)) ≡ cond t (xs ++ said c ms) (said c ms) ++ said c ns) [
      | true ↦ ap (λ l. xs ++ l) (said-append c ms ns) ∙ sym (append_assoc xs (said c ms) (said c ns))
      | false ↦ said-append c ms ns
    ]
said-append {A} c (Stop d ∷ ms) ns = said-append c ms ns
said-append {A} c (Else ∷ ms) ns = said-append c ms ns

stopped-append : {A : Type 0} (c : ℕ) (ms ns : List (Mark A)) → is_stopped c (ms ++ ns) ≡ cond (is_stopped c ms) true (is_stopped c ns)
stopped-append {A} c [] ns = refl
stopped-append {A} c (Piece d xs ∷ ms) ns = stopped-append c ms ns
stopped-append {A} c (Stop d ∷ ms) ns =
    elim (d == c) as (λ t. cond t true (is_stopped c (ms ++ ns)) ≡ cond (cond t true (is_stopped c ms)) true (is_stopped c ns)) [
      | true ↦ refl
      | false ↦ stopped-append c ms ns
    ]
stopped-append {A} c (Else ∷ ms) ns = stopped-append c ms ns

-- a mark more, which says nothing of a connection that was stopped
once-more : {A : Type 0} (d : ℕ) (ms : List (Mark A)) (m : Mark A) → (is_stopped d ms ≡ true → (said d (m ∷ []) ≡ []) × (is_stopped d (m ∷ []) ≡ false)) → EndsOnce d ms → EndsOnce d (ms ++ m ∷ [])
once-more {A} d [] (Piece e xs) quiet o = tt
once-more {A} d [] (Stop e) quiet o = (λ is. (refl, refl), tt)
once-more {A} d [] Else quiet o = tt
once-more {A} d (Piece e xs ∷ ms) m quiet o = once-more d ms m quiet o
once-more {A} d (Stop e ∷ ms) m quiet o =
    let later : is_stopped d ms ≡ true → is_stopped d (Stop e ∷ ms) ≡ true = λ is. elim (e == d) as (λ t. cond t true (is_stopped d ms) ≡ true) [ true ↦ refl | false ↦ is ] in (
      λ is.
          let here : is_stopped d (Stop e ∷ ms) ≡ true = (let P : ℕ → Type 0 = λ x. is_stopped x (Stop e ∷ ms) ≡ true in subst P is (rw (eq-eqb e e refl) refl)) in
          let q = quiet here in
          let was = o.0 is in (
            said-append d ms (m ∷ []) ∙ (ap (λ l. l ++ said d (m ∷ [])) was.0 ∙ q.0),
            stopped-append d ms (m ∷ []) ∙ (ap (λ t. cond t true (is_stopped d (m ∷ []))) was.1 ∙ q.1),
          ),
      once-more d ms m (λ is. quiet (later is)) o.1,
    )
once-more {A} d (Else ∷ ms) m quiet o = once-more d ms m quiet o

piece_here : {A : Type 0} (c : ℕ) (xs : List A) → said c (Piece c xs ∷ []) ≡ xs
piece_here c xs = rw (eq-eqb c c refl) (append-nil xs)

piece_away : {A : Type 0} (d c : ℕ) (xs : List A) → d ≢ c → said d (Piece c xs ∷ []) ≡ []
piece_away d c xs other = rw (ne_eqb c d (λ e. other (sym e))) refl

stop_away : (A : Type 0) (d c : ℕ) → d ≢ c → is_stopped {A = A} d (Stop c ∷ []) ≡ false
stop_away A d c other = rw (ne_eqb c d (λ e. other (sym e))) refl

cond_same : (b : Bool) → cond b true false ≡ b
cond_same true = refl
cond_same false = refl

cond_true : (b : Bool) → cond b true true ≡ true
cond_true true = refl
cond_true false = refl

-- a connection that was stopped is not one that was not
apart : {A : Type 0} (c d : ℕ) (ms : List (Mark A)) → is_stopped c ms ≡ false → is_stopped d ms ≡ true → d ≢ c
apart c d ms running stopped = λ e.
    let P : ℕ → Type 0 = λ x. is_stopped x ms ≡ true in
    let there : is_stopped c ms ≡ true = subst P e stopped in
    let never : true ≡ false = sym there ∙ running in
    let none : ⊥ = cc in
    none

-- items on a connection
pub says_piece : {A : Type 0} (c : ℕ) (xs : List A) (ms : List (Mark A)) → Says c xs ms (ms ++ Piece c xs ∷ [])
says_piece {A} c xs ms = record {
  here = said-append c ms (Piece c xs ∷ []) ∙ ap (λ l. said c ms ++ l) (piece_here c xs);
  elsewhere = λ d other. said-append d ms (Piece c xs ∷ []) ∙ (ap (λ l. said d ms ++ l) (piece_away d c xs other) ∙ append-nil (said d ms));
  stops_are = λ d. stopped-append d ms (Piece c xs ∷ []) ∙ cond_same (is_stopped d ms);
  once = λ running d o. once-more d ms (Piece c xs) (λ stopped. (piece_away d c xs (apart c d ms running stopped), refl)) o;
}

-- nothing more
pub says_else : {A : Type 0} (c : ℕ) (ms : List (Mark A)) → Says c [] ms (ms ++ Else ∷ [])
says_else {A} c ms = record {
  here = said-append c ms (Else ∷ []);
  elsewhere = λ d other. said-append d ms (Else ∷ []) ∙ append-nil (said d ms);
  stops_are = λ d. stopped-append d ms (Else ∷ []) ∙ cond_same (is_stopped d ms);
  once = λ running d o. once-more d ms Else (λ stopped. (refl, refl)) o;
}

pub once_else : {A : Type 0} (d : ℕ) (ms : List (Mark A)) → EndsOnce d ms → EndsOnce d (ms ++ Else ∷ [])
once_else d ms o = once-more d ms Else (λ stopped. (refl, refl)) o

pub says_nothing : {A : Type 0} (c : ℕ) (ms : List (Mark A)) → Says c [] ms ms
says_nothing {A} c ms = record {
  here = sym (append-nil (said c ms));
  elsewhere = λ d other. refl;
  stops_are = λ d. refl;
  once = λ running d o. o;
}

-- a connection is stopped, and nothing is said
pub record StopsAt {A : Type 0} (c : ℕ) (old new : List (Mark A)) : Type 0 where
  pub same : (d : ℕ) → said d new ≡ said d old
  pub here : is_stopped c new ≡ true
  pub others : (d : ℕ) → d ≢ c → is_stopped d new ≡ is_stopped d old
  pub once : is_stopped c old ≡ false → (d : ℕ) → EndsOnce d old → EndsOnce d new

one_stop : (A : Type 0) (c : ℕ) → is_stopped {A = A} c (Stop c ∷ []) ≡ true
one_stop A c = rw (eq-eqb c c refl) refl

pub stops_at : {A : Type 0} (c : ℕ) (ms : List (Mark A)) → StopsAt c ms (ms ++ Stop c ∷ [])
stops_at {A} c ms = record {
  same = λ d. said-append d ms (Stop c ∷ []) ∙ append-nil (said d ms);
  here = stopped-append c ms (Stop c ∷ []) ∙ (ap (λ t. cond (is_stopped c ms) true t) (one_stop A c) ∙ cond_true (is_stopped c ms));
  others = λ d other. stopped-append d ms (Stop c ∷ []) ∙ (ap (λ t. cond (is_stopped d ms) true t) (stop_away A d c other) ∙ cond_same (is_stopped d ms));
  once = λ running d o. once-more d ms (Stop c) (λ stopped. (refl, stop_away A d c (apart c d ms running stopped))) o;
}
