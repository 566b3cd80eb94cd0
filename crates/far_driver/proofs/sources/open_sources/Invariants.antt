use Rattle.std.proofs.Common.{◌≡◌, vec_len, map}
use Rattle.std.specs.Io.Buffered.{reader_remaining}
use Rattle.streams.specs.Ends.{still_to_read}
use Rattle.far_driver.specs.Sources.{unread}
use Rattle.far_driver.proofs.sources.open_sources.Given as goal

abbrev pub invariant-loop-at : goal.invariant-loop-at
invariant-loop-at g l = record { count : vec_len l.sources ≡ l.at; unread : map (reader_remaining still_to_read) l.sources.items ≡ unread l.at }
