-- What a session counts.
use Rattle.std.specs.Prelude.{◌≡◌, ℕ, ◌+◌, ◌-◌, ◌^◌, min, List, Result, Ok, Err}
use Rattle.table_core.specs.declared.operation.Operation.TheVariants as op
use Rattle.far_map.specs.declared.refusal.MapRefusal.{MapRefusal}
use Rattle.far_map.specs.declared.refusal.MapRefusal.TheVariants as refusal
use Rattle.far_map.specs.declared.stats.Stats.{Stats}
use Rattle.far_map.specs.Views.{Call, SessionView}

-- one more, as far as 64 bits can tell
abbrev pub more : ℕ → ℕ
more n = min (n + 1) (2 ^ 64 - 1)

-- nothing was counted yet
abbrev pub no_calls : Stats
no_calls = record { gets = 0; puts = 0; removes = 0; put_ifs = 0; too_long = 0; full = 0; names_spent = 0; device = 0; damaged = 0; memory = 0 }

-- one call of this kind more was finished
abbrev pub finished_more : {V : Type 0} → Call V → Stats → Stats
finished_more (op.Get k) s = record s { gets = more s.gets }
finished_more (op.Put k v) s = record s { puts = more s.puts }
finished_more (op.Remove k) s = record s { removes = more s.removes }
finished_more (op.PutIf k expected v) s = record s { put_ifs = more s.put_ifs }

-- one more was refused for this reason
abbrev pub refused_more : MapRefusal → Stats → Stats
refused_more refusal.TooLong s = record s { too_long = more s.too_long }
refused_more (refusal.Full what) s = record s { full = more s.full }
refused_more refusal.NamesSpent s = record s { names_spent = more s.names_spent }
refused_more refusal.Device s = record s { device = more s.device }
refused_more refusal.Damaged s = record s { damaged = more s.damaged }
refused_more refusal.Memory s = record s { memory = more s.memory }

-- a finished call counts for its kind, and a refused one for its reason
abbrev pub counted : {V T : Type 0} → Call V → Result T MapRefusal → Stats → Stats
counted o (Ok answer) s = finished_more o s
counted o (Err why) s = refused_more why s

-- the same of a get of values of this type
abbrev pub counted_get : {T : Type 0} → (V : Type 0) → List ℕ → Result T MapRefusal → Stats → Stats
counted_get V k result s = counted {V = V} (op.Get k) result s

-- a session counted just this call, and its limit stands
pub record Counts {V T : Type 0} (old new : SessionView V) (o : Call V) (result : Result T MapRefusal) : Type 0 where
  pub stats : new.stats ≡ counted o result old.stats
  pub limit : new.limit ≡ old.limit
