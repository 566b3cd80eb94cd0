-- Why no room was made.
use Rattle.std.proofs.Common.{◌≡◌, ◌≤◌, ◌+◌, List, ℕ, ap, sym, ◌∙◌, arith}
use mathlib.Core.List.{IsPrefix}
use Rattle.far_object.specs.Encodings.{enc_text}
use Rattle.far_object.specs.declared.format.Format.{Format}
use Rattle.table_core.specs.declared.limits.Limits.{Limits}
use Rattle.table_core.specs.Lawful.{IsLawful}
use Rattle.table_core.specs.Logs.{names_of}
use Rattle.table_core.proofs.Logs.{names-append, within}
use Rattle.hash_table.specs.declared.refusal.Refusal.{Refusal as TableRefusal}
use Rattle.hash_table.specs.declared.refusal.Refusal.TheVariants as table
use Rattle.swapper.specs.Evictors.{EvictorView, IsTurnRefused}
use Rattle.swapper.specs.Rooms.{WasRefusedBehind}
use Rattle.far_map.specs.Refusals.{IsTurnFault}
use Rattle.far_map.specs.Views.{View, Log}

module _ {V : Type 0} (ev : V → List ℕ) (l : Limits) where
  -- no later log has a name more
  spent_later : (front log : Log V) → IsPrefix front log → IsLawful enc_text ev l log → names_of front ≡ l.names → names_of log ≡ l.names
  spent_later front log pre lawful spent =
      let most : names_of log ≤ l.names = (within enc_text ev l log lawful).0 in
      let more : names_of log ≡ names_of front + names_of pre.0 = ap names_of (sym pre.1) ∙ names-append front pre.0 in
      omega (arith, most, more, spent)

  pub fault_later : (front log : Log V) (e : TableRefusal) → IsPrefix front log → IsLawful enc_text ev l log → IsTurnFault l front e → IsTurnFault l log e
  fault_later front log table.Memory pre lawful h = tt
  fault_later front log table.Far pre lawful h = tt
  fault_later front log table.Moved pre lawful h = tt
  fault_later front log table.Missed pre lawful h = tt
  fault_later front log table.NoFrame pre lawful h = tt
  fault_later front log table.TooLong pre lawful h = tt
  fault_later front log table.NamesSpent pre lawful h = spent_later front log pre lawful h
  fault_later front log table.LimboFull pre lawful h = tt
  fault_later front log table.Device pre lawful h = tt
  fault_later front log table.Damaged pre lawful h = tt

  -- the evictor's
  pub turn_fault : (format : Format) (old new : EvictorView (List ℕ) V) (e : TableRefusal) → IsTurnRefused enc_text ev l format old new e → IsTurnFault l new.pass.front e
  turn_fault format old new table.Memory h = tt
  turn_fault format old new table.Far h = tt
  turn_fault format old new table.Moved h = tt
  turn_fault format old new table.Missed h = tt
  turn_fault format old new table.NoFrame h = tt
  turn_fault format old new table.TooLong h = tt
  turn_fault format old new table.NamesSpent h = let r = h.gives_up.refused in r.1
  turn_fault format old new table.LimboFull h = tt
  turn_fault format old new table.Device h = tt
  turn_fault format old new table.Damaged h = tt

  -- a caller's own
  pub own_fault : (old new : View V) (e : TableRefusal) → WasRefusedBehind enc_text ev l old new e → IsTurnFault l new.front e
  own_fault old new table.Memory h = tt
  own_fault old new table.Far h = tt
  own_fault old new table.Moved h = tt
  own_fault old new table.Missed h = tt
  own_fault old new table.NoFrame h = tt
  own_fault old new table.TooLong h = tt
  own_fault old new table.NamesSpent h = h.2.1
  own_fault old new table.LimboFull h = tt
  own_fault old new table.Device h = tt
  own_fault old new table.Damaged h = tt
