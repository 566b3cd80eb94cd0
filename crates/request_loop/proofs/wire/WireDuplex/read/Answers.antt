use Rattle.request_loop.proofs.Known.{came_told}
use Rattle.request_loop.proofs.wire.WireDuplex.read.Goals as goal

pub returns-in-Ok-clause-came : goal.returns-in-Ok-clause-came
returns-in-Ok-clause-came g c =
    let w = c.args.self.now in
    came_told (λ v. g.R.Read.remaining v.input) (λ v. g.W.Write.contents v.output) (g.R.Read.remaining w.input) (g.R.Read.remaining c.read_packet.new.input) (g.W.Write.contents w.output) (g.W.Write.contents c.read_packet.new.output) c.read_packet.new.room.items c.in-Ok.head w.broken c.if-self.false c.in-Ok.ensures.same c.in-Ok.ensures.read
