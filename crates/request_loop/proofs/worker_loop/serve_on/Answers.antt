use Rattle.request_loop.proofs.Resuming.{sent_on, unsent, still_faulty}
use Rattle.request_loop.proofs.worker_loop.serve_on.Goals as goal

pub returns-in-Ok-sent-clause-stood : goal.returns-in-Ok-sent-clause-stood
returns-in-Ok-sent-clause-stood g c =
    sent_on g.D.Duplex.tells g.S.Service.does (g.D.Duplex.limits c.args.duplex.now) c.args.duplex.now c.serve_packets-served.new.duplex c.send-sent.new.self c.args.service.now c.serve_packets-served.new.service c.args.holds c.in-Ok.left.1 c.send-sent.ensures.told c.in-Ok.ensures.stood

pub returns-in-Ok-sent-clause-ended : goal.returns-in-Ok-sent-clause-ended
returns-in-Ok-sent-clause-ended g c = λ is start past stands. c.send-sent.ensures.ended start (c.in-Ok.ensures.ended is start past stands)

pub returns-in-Err-sent-clause-fault : goal.returns-in-Err-sent-clause-fault
returns-in-Err-sent-clause-fault g c =
    unsent g.D.Duplex.tells g.S.Service.does (g.D.Duplex.limits c.args.duplex.now) c.args.duplex.now c.serve_packets-served.new.duplex c.send-sent.new.self c.args.service.now c.serve_packets-served.new.service c.args.holds c.in-Ok.left.1 c.send-sent.ensures.told c.in-Ok.ensures.stood

pub returns-in-Err-clause-fault : goal.returns-in-Err-clause-fault
returns-in-Err-clause-fault g c = λ start past stands. still_faulty g.D.Duplex.tells g.S.Service.does (g.D.Duplex.limits c.args.duplex.now) past start c.serve_packets-served.new.duplex c.send-sent.new.self c.args.service.now (λ came sent told. c.send-sent.ensures.told start came sent told) (c.in-Err.ensures.fault start past stands)
