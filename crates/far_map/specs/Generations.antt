-- Generations of a map: each begins with what the one before it left, and no worker sees anything else of that one.
use Rattle.std.specs.Prelude.{◌≡◌, ℕ, ◌+◌, IsTrue, List, [], ◌∷◌, ◌++◌, length, map, ⊤, Option, Some, None}
use Rattle.std.specs.List.{AllByRecursion}
use mathlib.Core.List.{IsPrefix}
use Rattle.far_object.specs.Encodings.{enc_text}
use Rattle.table_core.specs.declared.limits.Limits.{Limits}
use Rattle.table_core.specs.Maps.{map_of}
use Rattle.table_core.specs.Logs.{history, passes_of}
use Rattle.table_core.specs.Lawful.{IsLawful}
use Rattle.version_words.specs.Views.{calls, calls_of, IsWhole, AreApart, AreNone}
use Rattle.hash_table.specs.declared.caller.Caller.{Caller}
use Rattle.hash_table.specs.Closes.{IsFrontOf}
use Rattle.hash_table.specs.Drains.{Drains}
use Rattle.hash_table.specs.declared.drain.Drained.{Drained}
use Rattle.far_map.specs.Runs.{IsNew}
use Rattle.far_map.specs.Loads.{Comes, puts, summed}
use Rattle.far_map.specs.Views.{View, Log, Pairs, Call, SessionView}

-- calls of one pass, as a history has them
abbrev pub calls_by : {V : Type 0} → ℕ → List (Call V) → List (ℕ × Call V)
calls_by pass made = map (λ o. (pass, o)) made

-- a worker did a term, from what it had kept before to what it keeps after, by a new session that had seen all of this log, and that ended with this pass
pub record IsTerm {V T : Type 0} (Done : SessionView V → SessionView V → T → T → Type 0) (limit : ℕ) (told : Log V) (pass : View V) (before after : T) : Type 0 where
  pub begun : SessionView V
  pub ended : SessionView V
  pub new : IsNew limit begun
  pub behind : IsPrefix told begun.pass.front
  pub same : ended.pass.number ≡ begun.pass.number
  pub done : Done begun ended before after
  pub pass_is : ended.pass ≡ pass

module _ {V T : Type 0} (Done : ℕ → SessionView V → SessionView V → T → T → Type 0) (limit : ℕ) (told : Log V) where
  -- each worker did a term: these are their passes at the end, what they had kept before, and what they keep after; they are counted from here on
  abbrev pub AreTerms : ℕ → List (View V) → List T → List T → Type 0
  AreTerms n [] [] [] = ⊤
  AreTerms n (pass ∷ passes) (before ∷ befores) (after ∷ afters) = IsTerm (Done n) limit told pass before after × AreTerms (n + 1) passes befores afters
  AreTerms n _ _ _ = ⊥

-- the log has the calls of these callers, and of one of the map's own that made none, and no others
pub record IsFrontBy {V J : Type 0} (ev : V → List ℕ) (l : Limits) (callers : List (Caller (List ℕ) V J)) (log : Log V) : Type 0 where
  pub own : Caller (List ℕ) V J
  pub no_calls : calls own.pass ≡ []
  pub front : IsFrontOf enc_text ev l (callers ++ own ∷ []) log

-- the same of those whose map was drained
pub record IsDrainedBy {V J : Type 0} (ev : V → List ℕ) (l : Limits) (callers : List (Caller (List ℕ) V J)) (old new : Pairs V) (lost : ℕ) : Type 0 where
  pub own : Caller (List ℕ) V J
  pub no_calls : calls own.pass ≡ []
  pub drained : Drains enc_text ev l (callers ++ own ∷ []) old new lost

-- what waits for the next generation came of the map of the log, where there is a next one
abbrev pub Waits : {V D : Type 0} → (V → List ℕ) → Limits → Log V → Pairs V → Option (Drained D) → Type 0
Waits ev l log waiting None = ⊤
Waits ev l log waiting (Some left) = IsTrue l.honest → Comes (map_of enc_text ev (history log)) waiting left.lost

module _ {V T : Type 0} (ev : V → List ℕ) (Done : ℕ → Limits → SessionView V → SessionView V → T → T → Type 0) (l : Limits) (limit : ℕ) where
  -- A generation of a map: what came of these pairs was put by one pass, before any worker's session began; the workers did their terms;
  -- and the log has their calls and no others.
  pub record IsGeneration (left : Pairs V) (lost : ℕ) (states kept : List T) (log : Log V) : Type 0 where
    pub loader : View V
    pub loaded : Pairs V
    pub comes : IsTrue l.honest → Comes left loaded lost
    -- what the loader has seen has puts of what was loaded, one behind the other, and no other call of anybody
    pub begins : history loader.front ≡ calls_by loader.number (puts loaded)
    pub passes : List (View V)
    pub worked : AreTerms (λ worker begun ended before after. Done worker l begun ended before after) limit loader.front 0 passes states kept
    pub lawful : IsLawful enc_text ev l log
    pub all : passes_of log ≡ length passes + 2
    pub apart : AreApart (passes ++ loader ∷ [])
    pub whole : AllByRecursion (λ pass. IsWhole log pass) (passes ++ loader ∷ [])
    pub no_other : (pass : View V) → AreNone pass (passes ++ loader ∷ []) → calls_of pass.number log ≡ []

  -- a generation, and what waits for the next one
  pub record IsTurn {D : Type 0} (left waiting : Pairs V) (lost : ℕ) (states kept : List T) (next : Option (Drained D)) : Type 0 where
    pub log : Log V
    pub generation : IsGeneration left lost states kept log
    pub waits : Waits ev l log waiting next

  -- Generations so far, if any: from what each worker kept first to what it keeps now, what was lost between them, and the map that the
  -- last one left. The first begins with no pairs, and each other one with what the one before it left.
  pub data Reached (states : List T) : List T → ℕ → Pairs V → Type 0 where
    First : Reached states states 0 []
    Next : {mid kept : List T} {lost more : ℕ} {left : Pairs V} {log : Log V} → Reached states mid lost left → IsGeneration left more mid kept log → Reached states kept (summed lost more) (map_of enc_text ev (history log))

  -- one generation or more, that led from what each worker kept first to what it keeps at last, and what was lost
  pub record IsRenewed (states kept : List T) (lost : ℕ) : Type 0 where
    pub mid : List T
    pub before : ℕ
    pub left : Pairs V
    pub reached : Reached states mid before left
    pub more : ℕ
    pub log : Log V
    pub generation : IsGeneration left more mid kept log
    pub lost_is : lost ≡ summed before more
