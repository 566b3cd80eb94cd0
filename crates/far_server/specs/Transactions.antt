-- What waits for EXEC after a MULTI, and what MULTI, DISCARD and the requests between do with it.
use Rattle.std.specs.Prelude.{◌≡◌, ◌⊎◌, ℕ, Bool, true, false, List, [], ◌∷◌, ◌++◌, codes, Option, Some, None}
use Rattle.resp.specs.Replies.{Token, Simple, Failure}
use Rattle.far_map.specs.declared.refusal.MapRefusal.TheVariants as refusal
use Rattle.far_server.specs.declared.queue.Queue.{Queue}
use Rattle.far_server.specs.Queues.{waiting}
use Rattle.far_server.specs.Refusing.{text_of}
use Rattle.far_server.specs.Reads.{IsUnread}

-- the requests that wait, in order, and whether one was refused, so that EXEC will run none
pub record Waiting : Type 0 where
  pub requests : List (List (List ℕ))
  pub is_spoilt : Bool

abbrev pub waits_of : Queue → Waiting
waits_of queue = record { requests = waiting queue; is_spoilt = queue.is_spoilt }

abbrev pub waits_in : Option Queue → Option Waiting
waits_in None = None
waits_in (Some queue) = Some (waits_of queue)

abbrev pub nested : List ℕ
nested = codes "ERR MULTI calls can not be nested"

abbrev pub no_multi_before_discard : List ℕ
no_multi_before_discard = codes "ERR DISCARD without MULTI"

abbrev pub full_queue : List ℕ
full_queue = codes "ERR too many bytes wait for EXEC"

-- MULTI: from now on requests wait. After another MULTI it is an error.
abbrev pub IsBegun : Option Waiting → Option Waiting → List Token → Type 0
IsBegun None after rs = (after ≡ Some (record { requests = []; is_spoilt = false })) × (rs ≡ Simple (codes "OK") ∷ [])
IsBegun (Some waits) after rs = (after ≡ Some waits) × (rs ≡ Failure nested ∷ [])

-- DISCARD: what waits is dropped. Without a MULTI it is an error.
abbrev pub IsDropped : Option Waiting → Option Waiting → List Token → Type 0
IsDropped None after rs = (after ≡ None) × (rs ≡ Failure no_multi_before_discard ∷ [])
IsDropped (Some waits) after rs = (after ≡ None) × (rs ≡ Simple (codes "OK") ∷ [])

-- Why a request may not wait: it can't be read, all that wait would be too large, or memory is refused.
abbrev pub IsNotHeld : List (List ℕ) → List Token → Type 0
IsNotHeld request rs = (IsUnread request × ((text : List ℕ) × (rs ≡ Failure text ∷ [])))
    ⊎ ((rs ≡ Failure full_queue ∷ []) ⊎ (rs ≡ Failure (text_of refusal.Memory) ∷ []))

-- a request waits after the others, or it is refused, and EXEC will run none
abbrev pub IsHeld : Waiting → Waiting → List (List ℕ) → List Token → Type 0
IsHeld before after request rs =
    ((after ≡ record { requests = before.requests ++ request ∷ []; is_spoilt = before.is_spoilt }) × (rs ≡ Simple (codes "QUEUED") ∷ []))
    ⊎ ((after ≡ record { requests = before.requests; is_spoilt = true }) × IsNotHeld request rs)
