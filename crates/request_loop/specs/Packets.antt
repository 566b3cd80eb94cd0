-- Packets as they are spelled, and what a reader and a writer tell of them.
use Rattle.std.specs.Prelude.{◌≡◌, ℕ, ◌⊎◌, Bool, true, false, List, [], ◌∷◌, ◌++◌, length, Option, IfSome}
use Rattle.std.specs.Int.{w32, w64, to_be_bytes}
use Rattle.std.specs.Io.KnownBytes.{Consumes, Appends, IsAtEnd}
use Rattle.request_loop.specs.declared.packet.Kind.{Kind}
use Rattle.request_loop.specs.declared.packet.Kind.TheVariants.{Data, Open, Close, Wake, LetIn, LetOut, Note, Holds}
use Rattle.request_loop.specs.declared.wire.Wire.{Wire}
use Rattle.request_loop.specs.Workers.{Packet}

abbrev pub kind_byte : Kind → ℕ
kind_byte Data = 0
kind_byte Open = 1
kind_byte Close = 2
kind_byte Wake = 3
kind_byte LetIn = 4
kind_byte LetOut = 5
kind_byte Note = 6
kind_byte Holds = 7

-- how many bytes a packet of the kind has at most
abbrev pub most_bytes : Kind → ℕ
most_bytes Data = 1048576
most_bytes Open = 64
most_bytes Close = 0
most_bytes Wake = 0
most_bytes LetIn = 0
most_bytes LetOut = 0
most_bytes Note = 4096
most_bytes Holds = 8

-- the kind in a byte, the connection in eight and the length in four with the highest first, and the bytes
abbrev pub packet_bytes : Packet → List ℕ
packet_bytes f = kind_byte f.head.kind ∷ (to_be_bytes w64 f.head.connection ++ (to_be_bytes w32 (length f.bytes) ++ f.bytes))

abbrev pub packets_bytes : List Packet → List ℕ
packets_bytes [] = []
packets_bytes (f ∷ packets) = packet_bytes f ++ packets_bytes packets

-- the reader has lost these packets, and where it failed a part of another
abbrev pub TellsRead : Option (List ℕ) → Option (List ℕ) → Bool → List Packet → Type 0
TellsRead began now broken came = (part : List ℕ) × (broken ≡ false → part ≡ []) × Consumes began now (packets_bytes came ++ part)

-- the writer has got these packets, and where it failed a part of another
abbrev pub TellsWritten : Option (List ℕ) → Option (List ℕ) → Bool → List Packet → Type 0
TellsWritten began now broken sent = (part : List ℕ) × (broken ≡ false → part ≡ []) × Appends began now (packets_bytes sent ++ part)

-- the next read does not wait, or nothing waits in the writer meanwhile
abbrev pub IsReady : {R W : Type 0} → (R → Bool) → (W → Type 0) → R → W → Type 0
IsReady filled handed_on input output = (filled input ≡ true) ⊎ handed_on output

-- of a first reader that tells its bytes none is left in the second
abbrev pub WireEnded : {R W : Type 0} → (R → Option (List ℕ)) → Wire R W → Wire R W → Type 0
WireEnded remaining v w = IfSome (remaining v.input) (λ bytes. IsAtEnd (remaining w.input))

-- what both of them tell
abbrev pub WireTells : {R W : Type 0} → (R → Option (List ℕ)) → (W → Option (List ℕ)) → Wire R W → Wire R W → List Packet → List Packet → Type 0
WireTells remaining contents v w came sent =
    TellsRead (remaining v.input) (remaining w.input) w.broken came
    × TellsWritten (contents v.output) (contents w.output) w.broken sent
