-- Sessions of a map whose values are blobs, and their calls.
use Rattle.std.specs.Prelude.{ℕ, List, Option, Result}
use Rattle.far_blob.specs.Encodings.{enc_blob}
use Rattle.table_core.specs.declared.limits.Limits.{Limits}
use Rattle.version_words.specs.Views.{Goes}
use Rattle.far_map.specs.declared.refusal.MapRefusal.{MapRefusal}
use Rattle.far_map.specs.Views.{Call as CallOn, SessionView}
use Rattle.far_map.specs.Updates.{Called as CalledOn}

abbrev pub Session : Type 0
Session = SessionView (List ℕ)

abbrev pub Call : Type 0
Call = CallOn (List ℕ)

-- the session made this call, was answered so, and counted it
abbrev pub Called : Limits → Session → Session → Call → Result (Option (List ℕ)) MapRefusal → Type 0
Called l old new call answer = CalledOn enc_blob l old new call answer

-- the session made no call
abbrev pub Stays : Session → Session → Type 0
Stays old new = Goes old.pass new.pass

-- the session made this call and no other, and was answered so
abbrev pub Makes : Limits → Call → Result (Option (List ℕ)) MapRefusal → Session → Session → Type 0
Makes l call answer old new = (mid : Session) × Stays old mid × Called l mid new call answer
