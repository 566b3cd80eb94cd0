use Rattle.std.proofs.Common.{refl}
use Rattle.request_loop.specs.Marks.{Else}
use Rattle.request_loop.specs.Calls.{Heard}
use Rattle.request_loop.proofs.Framing.{comes_called, comes_faulty, stands_signalled, stands_faulty}
use Rattle.request_loop.proofs.arrivals.take_note.Goals as goal

pub returns-in-Err-clause-begun : goal.returns-in-Err-clause-begun
returns-in-Err-clause-begun g c =
    λ start x past slots h. comes_faulty g.D.Duplex.tells g.S.Service.does c.args.limits past start c.args.duplex.now c.args.duplex.now x c.args.service.now slots Else (λ came sent told. told) h

pub returns-then-is_empty-clause-stands : goal.returns-then-is_empty-clause-stands
returns-then-is_empty-clause-stands g c =
    λ start x past slots h. comes_called g.D.Duplex.tells g.S.Service.does c.args.limits past start c.args.duplex.now x c.args.service.now c.note.new.self slots (Heard c.args.text.now c.note.new.reply.items) refl c.in-Ok.ensures h

pub returns-then-is_empty-clause-begun : goal.returns-then-is_empty-clause-begun
returns-then-is_empty-clause-begun g c =
    λ start x past slots h. comes_faulty g.D.Duplex.tells g.S.Service.does c.args.limits past start c.args.duplex.now c.args.duplex.now x c.args.service.now slots Else (λ came sent told. told) h

pub returns-in-Ok-put_signal-clause-stands : goal.returns-in-Ok-put_signal-clause-stands
returns-in-Ok-put_signal-clause-stands g c =
    λ start x past slots h. stands_signalled g.D.Duplex.tells g.S.Service.does c.args.limits past start c.args.duplex.now c.put_signal.new.duplex x c.note.new.self slots c.in-Ok-put_signal.ensures.put (comes_called g.D.Duplex.tells g.S.Service.does c.args.limits past start c.args.duplex.now x c.args.service.now c.note.new.self slots (Heard c.args.text.now c.note.new.reply.items) refl c.in-Ok.ensures h)

pub returns-in-Ok-put_signal-clause-begun : goal.returns-in-Ok-put_signal-clause-begun
returns-in-Ok-put_signal-clause-begun g c =
    λ start x past slots h. stands_faulty g.D.Duplex.tells g.S.Service.does c.args.limits past start c.put_signal.new.duplex c.put_signal.new.duplex x c.note.new.self slots (λ came sent told. told) (stands_signalled g.D.Duplex.tells g.S.Service.does c.args.limits past start c.args.duplex.now c.put_signal.new.duplex x c.note.new.self slots c.in-Ok-put_signal.ensures.put (comes_called g.D.Duplex.tells g.S.Service.does c.args.limits past start c.args.duplex.now x c.args.service.now c.note.new.self slots (Heard c.args.text.now c.note.new.reply.items) refl c.in-Ok.ensures h))

pub returns-in-Err-put_signal-clause-begun : goal.returns-in-Err-put_signal-clause-begun
returns-in-Err-put_signal-clause-begun g c =
    λ start x past slots h. comes_faulty g.D.Duplex.tells g.S.Service.does c.args.limits past start c.args.duplex.now c.put_signal.new.duplex x c.args.service.now slots Else (λ came sent told. c.in-Err-put_signal.ensures.failed start came sent told) h
