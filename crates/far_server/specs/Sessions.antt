-- Sessions of a map whose values are blobs, and their calls.
use Rattle.std.specs.Prelude.{ℕ, List, Option, Result}
use Rattle.far_blob.specs.Encodings.{enc_blob}
use Rattle.table_core.specs.declared.limits.Limits.{Limits}
use Rattle.far_map.specs.declared.refusal.MapRefusal.{MapRefusal}
use Rattle.far_map.specs.Views.{Call as CallOn, SessionView}
use Rattle.far_map.specs.Updates.{Called as CalledOn}

abbrev pub Session : Type 0
Session = SessionView (List ℕ)

abbrev pub Call : Type 0
Call = CallOn (List ℕ)

-- the session made this call, was answered so, and counted it
abbrev pub Called : Limits → Session → Session → Call → Result (Option (List ℕ)) MapRefusal → Type 0
Called l old new call answer = CalledOn enc_blob l old new call answer
