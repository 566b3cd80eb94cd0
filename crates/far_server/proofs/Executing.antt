-- Requests that are run one after another, as far as there is room for their replies.
use Rattle.std.proofs.Common.{◌≡◌, ◌⊎◌, inl, inr, Bool, true, false, Option, Some, None, MatchBool, ◌<◌, ◌≤◌, ◌+◌, ◌-◌, ℕ, List, [], ◌∷◌, ◌++◌, length, drop, map, slice_index_or, refl, sym, ap, subst, ◌∙◌, arith, append_assoc}
use Rattle.std.specs.List.{flat_map}
use Rattle.std.proofs.lemmas.List.{length-map, length-drop, get_or-map, drop_more}
use Rattle.table_core.specs.declared.limits.Limits.{Limits}
use Rattle.resp.specs.Replies.{Token, Failure, token}
use Rattle.far_server.specs.declared.queue.Request.{Request}
use Rattle.far_server.specs.declared.queue.Queue.{Queue}
use Rattle.far_server.specs.declared.settings.Bounds.{Bounds}
use Rattle.far_server.specs.Bounds.{longest}
use Rattle.stored_keys.specs.declared.DigestKeys.{DigestKeys}
use Rattle.far_server.specs.Queues.{held, waiting}
use Rattle.far_server.specs.Transactions.{waits_of}
use Rattle.far_server.specs.Sessions.{Session}
use Rattle.far_server.specs.declared.selection.Selection.{Selection}
use Rattle.far_server.specs.Runs.{IsRequest}
use Rattle.far_server.specs.Answers.{exec_abort, AreRefused, AreWithoutMemory, AreExecuted, IsRunEach, IsExecuted}

-- Whatever becomes of the requests from b on within a limit, all were executed with the replies so far.
abbrev pub GoesOn : (l : Limits) (digest : DigestKeys) (v : Bounds) (whole : ℕ) (all : List (List (List ℕ))) (limit : ℕ) (left : List (List (List ℕ))) (each : List Token) (s t : Selection) (a b : Session) → Type 0
GoesOn l digest v whole all limit left each s t a b = (rest : List Token) (last : Selection) (end : Session) → AreExecuted l digest v limit left rest t last b end → AreExecuted l digest v whole all (each ++ rest) s last a end

-- one more was run
pub ran_one : (l : Limits) (digest : DigestKeys) (v : Bounds) (whole : ℕ) (all : List (List (List ℕ))) (limit less : ℕ) (w : List (List ℕ)) (left behind : List (List (List ℕ))) (each first : List Token) (s t u : Selection) (a b c : Session)
    → left ≡ w ∷ behind → less ≡ limit - length (flat_map token first) → longest v.longest_value ≤ limit → IsRequest l digest v limit t u w b c first
    → GoesOn l digest v whole all limit left each s t a b → GoesOn l digest v whole all less behind (each ++ first) s u a c
ran_one l digest v whole all limit less w left behind each first s t u a b c is smaller fits ran on rest last end next =
    let there : AreExecuted l digest v (limit - length (flat_map token first)) behind rest u last c end = subst (λ (n : ℕ). AreExecuted l digest v n behind rest u last c end) smaller next in
    let all_left : AreExecuted l digest v limit (w ∷ behind) (first ++ rest) t last b end = inl (c, u, first, rest, record { fits = fits; ran = ran }, there, refl) in
    subst (λ (ts : List Token). AreExecuted l digest v whole all ts s last a end) (sym (append_assoc each first rest))
    (on (first ++ rest) last end (subst (λ (ws : List (List (List ℕ))). AreExecuted l digest v limit ws (first ++ rest) t last b end) (sym is) all_left))

-- none of those that are left was
pub stopped : (l : Limits) (digest : DigestKeys) (v : Bounds) (limit : ℕ) (left : List (List (List ℕ))) (rs : List Token) (s : Selection) (a : Session)
    → 0 < length left → AreRefused l digest v limit (length left) a a rs ⊎ AreWithoutMemory l digest v (length left) a a rs → AreExecuted l digest v limit left rs s s a a
stopped l digest v limit [] rs s a some why = absurd (omega (arith, some))
stopped l digest v limit (w ∷ left) rs s a some why = inr (refl, why)

-- the next of the requests, and those behind it
pub next_held : (rs : List Request) (all : List (List (List ℕ))) (i : ℕ) (r : Request) → map held rs ≡ all → i < length rs → r ≡ slice_index_or rs i r
    → drop i all ≡ held r ∷ drop (i + 1) all
next_held rs all i r are lt is =
    let len = length-map rs held in
    let here : slice_index_or (map held rs) i (held r) ≡ held r = get_or-map held rs i r (held r) lt ∙ ap held (sym is) in
    let there : slice_index_or all i (held r) ≡ held r = subst (λ (ws : List (List (List ℕ))). slice_index_or ws i (held r) ≡ held r) are here in
    let lt_all : i < length all = subst (λ (ws : List (List (List ℕ))). i < length ws) are (omega (arith, lt, len)) in
    drop_more all i (held r) lt_all ∙ ap (λ (x : List (List ℕ)). x ∷ drop (i + 1) all) there

-- how many are left
pub left_of : (rs : List Request) (all : List (List (List ℕ))) (i : ℕ) → map held rs ≡ all → length (drop i all) ≡ length rs - i
left_of rs all i are = length-drop i all ∙ ap (λ (n : ℕ). n - i) (sym (ap (λ (ws : List (List (List ℕ))). length ws) are) ∙ length-map rs held)

-- EXEC of a queue in which one was refused, and of another one
pub spoilt : (l : Limits) (digest : DigestKeys) (v : Bounds) (queue : Queue) (s : Selection) (a : Session) → queue.is_spoilt ≡ true → IsExecuted l digest v (Some (waits_of queue)) None s s a a (Failure exec_abort ∷ [])
spoilt l digest v queue s a is =
    (refl, subst (λ (b : Bool). MatchBool b ((s ≡ s) × (a ≡ a) × (Failure exec_abort ∷ [] ≡ Failure exec_abort ∷ [])) (IsRunEach l digest v (waiting queue) s s a a (Failure exec_abort ∷ []))) (sym is) (refl, refl, refl))

pub ran_all : (l : Limits) (digest : DigestKeys) (v : Bounds) (queue : Queue) (s t : Selection) (a b : Session) (rs : List Token) → queue.is_spoilt ≡ false → IsRunEach l digest v (waiting queue) s t a b rs → IsExecuted l digest v (Some (waits_of queue)) None s t a b rs
ran_all l digest v queue s t a b rs is ran = (refl, subst (λ (c : Bool). MatchBool c ((t ≡ s) × (a ≡ b) × (rs ≡ Failure exec_abort ∷ [])) (IsRunEach l digest v (waiting queue) s t a b rs)) (sym is) ran)

-- of a queue that was taken, and of none in its place
pub taken : (E : Option Queue → Option Queue → Type 0) (q was r : Option Queue) → q ≡ was → r ≡ None → E was None → E q r
taken E q was r is none so = subst (λ (x : Option Queue). E x r) (sym is) (subst (λ (y : Option Queue). E was y) (sym none) so)
