use Rattle.request_loop.proofs.Seeing.{ok_map}
use Rattle.request_loop.proofs.Sending.{sends_signal}
use Rattle.request_loop.proofs.requests.go_on.Goals as goal

pub returns-in-WakeAll-clause-goes : goal.returns-in-WakeAll-clause-goes
returns-in-WakeAll-clause-goes g c = ok_map c.signal.result _ _ (sends_signal g.D.Duplex.tells c.args.connection c.args.duplex.now c.signal.new.duplex c.args.out.now.items) c.signal.ensures.put

pub returns-in-LetIn-clause-goes : goal.returns-in-LetIn-clause-goes
returns-in-LetIn-clause-goes g c = ok_map c.signal-in-LetIn.result _ _ (sends_signal g.D.Duplex.tells c.args.connection c.args.duplex.now c.signal-in-LetIn.new.duplex c.args.out.now.items) c.signal-in-LetIn.ensures.put

pub returns-in-LetOut-clause-goes : goal.returns-in-LetOut-clause-goes
returns-in-LetOut-clause-goes g c = ok_map c.signal-in-LetOut.result _ _ (sends_signal g.D.Duplex.tells c.args.connection c.args.duplex.now c.signal-in-LetOut.new.duplex c.args.out.now.items) c.signal-in-LetOut.ensures.put
