-- What still is to be read of a stream, and what was written to it.
use Rattle.std.specs.Prelude.{◌≡◌, ℕ, List, Option}
use Rattle.std.specs.Io.Buffered.{reader_remaining, writer_contents}
use Rattle.std.specs.declared.alloc.Global.{Global}
use Rattle.std.specs.declared.io.buffered.BufReader.{BufReader}
use Rattle.std.specs.declared.io.buffered.BufWriter.{BufWriter}
use Rattle.streams.specs.declared.reader.StreamReader.{StreamReader}
use Rattle.streams.specs.declared.writer.StreamWriter.{StreamWriter}
use Rattle.streams.specs.Streams.{rest_of, written_to}

module _ {F : Type 0} where
  -- the bytes that a reader still gives
  abbrev pub still_to_read : StreamReader F → Option (List ℕ)
  still_to_read reader = rest_of reader.stream reader.read

  -- the bytes that a writer has taken
  abbrev pub written_by : StreamWriter F → Option (List ℕ)
  written_by writer = written_to writer.stream writer.written

  -- nothing was read of the stream of this number: the reader still gives all its bytes
  abbrev pub IsUnread : ℕ → BufReader (StreamReader F) Global → Type 0
  IsUnread stream reader = reader_remaining still_to_read reader ≡ rest_of stream 0

  -- nothing was written to the stream of this number
  abbrev pub IsUnwritten : ℕ → BufWriter (StreamWriter F) Global → Type 0
  IsUnwritten stream writer = writer_contents written_by writer ≡ written_to stream 0
