-- Where a session stands between two maps.
use Rattle.std.specs.Prelude.{ℕ, List, Option}
use Rattle.request_loop.specs.declared.wire.Wire.{Wire}
use Rattle.request_loop.specs.Marks.{Mark}
use Rattle.request_loop.specs.Calls.{Exchange}
use Rattle.request_loop.specs.Slots.{Views}
use Rattle.request_loop.specs.Packets.{WireEnded, WireTells}
use Rattle.request_loop.specs.Standing.{Standing}

-- a session that left a map: its packets, and what it holds of their connections
pub record LeftView (In Out : Type 0) : Type 0 where
  pub wire : Wire In Out
  pub views : Views

-- some packets came, whenever they began, and all were dealt with
abbrev pub HasStood : {In Out : Type 0} → (In → Option (List ℕ)) → (Out → Option (List ℕ)) → Wire In Out → Views → Type 0
HasStood {In} {Out} remaining contents wire views =
    (start : Wire In Out) × (past : List (Mark Exchange)) × Standing (WireTells remaining contents) wire.limits start wire views past

-- whenever these packets began, the first reader had no bytes beyond what was read by now
abbrev pub HasEnded : {In Out : Type 0} → (In → Option (List ℕ)) → (Out → Option (List ℕ)) → Wire In Out → Wire In Out → Views → Type 0
HasEnded {In} {Out} remaining contents old new views =
    (start : Wire In Out) (past : List (Mark Exchange)) → Standing (WireTells remaining contents) old.limits start old views past → WireEnded remaining start new
