use Rattle.streams.specs.Streams.{was_written}
use Rattle.streams.proofs.writer.StreamWriterWrite.write.Goals as goal

pub returns-clause-bytes : goal.returns-clause-bytes
returns-clause-bytes g c = was_written c.args.self.now.stream c.args.self.now.written c.write.result c.in_ok-count.count c.in_ok-count.was c.args.buf.now
