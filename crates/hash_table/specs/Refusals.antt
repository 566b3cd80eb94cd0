-- Which refusals there may be.
use Rattle.std.specs.Prelude.{ℕ, Bool, true, false, ⊤}
use Rattle.hash_table.specs.declared.refusal.Refusal.{Refusal}
use Rattle.hash_table.specs.declared.refusal.Refusal.TheVariants as refusal

-- another try may not meet it
abbrev pub passes_by : Refusal → Bool
passes_by refusal.Moved = true
passes_by refusal.Missed = true
passes_by _ = false

-- of one try of a get from a frame
abbrev pub OfLocalGet : Refusal → Type 0
OfLocalGet refusal.Memory = ⊤
OfLocalGet refusal.Far = ⊤
OfLocalGet refusal.Moved = ⊤
OfLocalGet refusal.Missed = ⊤
OfLocalGet _ = ⊥

-- of one try of a get whose value stays where it is, which takes no memory
abbrev pub OfScope : Refusal → Type 0
OfScope refusal.Far = ⊤
OfScope refusal.Moved = ⊤
OfScope refusal.Missed = ⊤
OfScope _ = ⊥

-- of one try of a get from a frame or the device
abbrev pub OfFarGet : Refusal → Type 0
OfFarGet refusal.Memory = ⊤
OfFarGet refusal.Moved = ⊤
OfFarGet refusal.Missed = ⊤
OfFarGet refusal.Device = ⊤
OfFarGet refusal.Damaged = ⊤
OfFarGet _ = ⊥

-- of a get that goes on until it is done
abbrev pub OfGet : Refusal → Type 0
OfGet refusal.Memory = ⊤
OfGet refusal.Device = ⊤
OfGet refusal.Damaged = ⊤
OfGet _ = ⊥

-- of one try of a change over a frame
abbrev pub OfLocalChange : Refusal → Type 0
OfLocalChange refusal.Device = ⊥
OfLocalChange refusal.Damaged = ⊥
OfLocalChange _ = ⊤

-- of one try of a change, wherever the contents lie
abbrev pub OfFarChange : Refusal → Type 0
OfFarChange refusal.Far = ⊥
OfFarChange _ = ⊤

-- of a change that goes on until it is done
abbrev pub OfChange : Refusal → Type 0
OfChange refusal.Far = ⊥
OfChange refusal.Moved = ⊥
OfChange refusal.Missed = ⊥
OfChange _ = ⊤

-- of a swap-in
abbrev pub OfFetch : Refusal → Type 0
OfFetch refusal.Far = ⊥
OfFetch refusal.TooLong = ⊥
OfFetch _ = ⊤

-- of a swap-out
abbrev pub OfSwapOut : Refusal → Type 0
OfSwapOut refusal.Far = ⊥
OfSwapOut refusal.TooLong = ⊥
OfSwapOut refusal.NoFrame = ⊥
OfSwapOut refusal.Damaged = ⊥
OfSwapOut _ = ⊤

-- `swap_out` of this frame was refused so. It is opaque: who promises it has had `swap_out` answer it, or cites the lemma below, which is for the proof of `swap_out` alone
pub WasRefused : ℕ → Refusal → Type 0
WasRefused frame e = Unit {0}

pub was_refused : (frame : ℕ) (e : Refusal) → WasRefused frame e
unfolding WasRefused
was_refused frame e = tt
