-- The bytes of a stream.
--
-- The definitions are opaque, so their values mean nothing. What is known of a stream comes from the reads and
-- the writes of it alone.
use Rattle.std.specs.Prelude.{◌≡◌, ◌<◌, ℕ, ◌+◌, List, [], length, take, Option, None, IfSome, Result, Ok}
use Rattle.std.specs.Io.KnownBytes.{Consumes, IsAtEnd, Appends}

-- The bytes that the stream of this number still gives, after so many were read of it.
pub rest_of : ℕ → ℕ → Option (List ℕ)
rest_of stream at = None

-- A read of the stream at this place was Ok. It gave the first bytes of this buffer, so many. If it gave none
-- into a buffer with room, the stream is at its end. Only the proof of `StreamReader::read` may cite it.
pub was_read : {E : Type 0} (stream at : ℕ) (result : Result ℕ E) (count : ℕ) → result ≡ Ok count → (buffer : List ℕ)
    → Consumes (rest_of stream at) (rest_of stream (at + count)) (take count buffer) × (count ≡ 0 → 0 < length buffer → IsAtEnd (rest_of stream (at + count)))
unfolding rest_of
was_read stream at result count is buffer = (tt, λ none room. tt)

-- The first bytes that were written to the stream of this number, so many.
pub written_to : ℕ → ℕ → Option (List ℕ)
written_to stream at = None

-- A write to the stream at this place was Ok. It took the first bytes of this buffer, so many. Only the proof of
-- `StreamWriter::write` may cite it.
pub was_written : {E : Type 0} (stream at : ℕ) (result : Result ℕ E) (count : ℕ) → result ≡ Ok count → (buffer : List ℕ)
    → Appends (written_to stream at) (written_to stream (at + count)) (take count buffer)
unfolding written_to
was_written stream at result count is buffer = tt

-- at first nothing was written
pub nothing_written : (stream : ℕ) → IfSome (written_to stream 0) (λ bytes. bytes ≡ [])
unfolding written_to
nothing_written stream = tt
