use Rattle.streams.specs.Streams.{was_read}
use Rattle.streams.proofs.reader.StreamReaderRead.read.Goals as goal

pub returns-clause-bytes : goal.returns-clause-bytes
returns-clause-bytes g c = was_read c.args.self.now.stream c.args.self.now.read c.read.result c.in_ok-count.count c.in_ok-count.was c.read.new.buf
