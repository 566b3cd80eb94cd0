use Rattle.request_loop.proofs.Known.{sent_told}
use Rattle.request_loop.proofs.wire.WireDuplex.write.Goals as goal

pub returns-in-Ok-clause-sent : goal.returns-in-Ok-clause-sent
returns-in-Ok-clause-sent g c =
    let w = c.args.self.now in
    sent_told (λ v. g.R.Read.remaining v.input) (λ v. g.W.Write.contents v.output) (g.R.Read.remaining w.input) (g.W.Write.contents w.output) (g.W.Write.contents c.write_packet.new.output) (record { head = c.args.head; bytes = c.args.bytes.now }) w.broken c.if-self.false c.in-Ok.ensures.put
