use Rattle.std.proofs.Common.{inl, inr, refl, subst}
use Rattle.request_loop.specs.declared.packet.Kind.{Kind}
use Rattle.request_loop.specs.declared.packet.Kind.TheVariants.{LetIn}
use Rattle.request_loop.specs.Workers.{mark_of}
use Rattle.request_loop.specs.Marks.{Else}
use Rattle.request_loop.specs.Calls.{Woke}
use Rattle.request_loop.specs.Turns.{Comes, Faulty}
use Rattle.request_loop.proofs.Framing.{comes_called, comes_faulty}
use Rattle.request_loop.proofs.dispatch.take_packet.Goals as goal

pub returns-in-Ok-clause-stands : goal.returns-in-Ok-clause-stands
returns-in-Ok-clause-stands g c =
    λ start x past h.
    let M = λ (kind : Kind). Comes g.D.Duplex.tells g.S.Service.does c.args.limits past start c.args.duplex.now x c.args.service.now c.args.slots.now (mark_of kind c.args.head.connection c.args.packet.now) in
    c.in-Ok.ensures.stands start x past (subst M c.in-Data.is h)

pub returns-in-Ok-clause-begun : goal.returns-in-Ok-clause-begun
returns-in-Ok-clause-begun g c =
    λ start x past h.
    let M = λ (kind : Kind). Comes g.D.Duplex.tells g.S.Service.does c.args.limits past start c.args.duplex.now x c.args.service.now c.args.slots.now (mark_of kind c.args.head.connection c.args.packet.now) in
    c.in-Ok.ensures.begun start x past (subst M c.in-Data.is h)

pub returns-in-Err-clause-begun : goal.returns-in-Err-clause-begun
returns-in-Err-clause-begun g c =
    λ start x past h.
    let M = λ (kind : Kind). Comes g.D.Duplex.tells g.S.Service.does c.args.limits past start c.args.duplex.now x c.args.service.now c.args.slots.now (mark_of kind c.args.head.connection c.args.packet.now) in
    c.in-Err.ensures.begun start x past (subst M c.in-Data.is h)

pub returns-in-Ok-take_open-clause-stands : goal.returns-in-Ok-take_open-clause-stands
returns-in-Ok-take_open-clause-stands g c =
    λ start x past h.
    let M = λ (kind : Kind). Comes g.D.Duplex.tells g.S.Service.does c.args.limits past start c.args.duplex.now x c.args.service.now c.args.slots.now (mark_of kind c.args.head.connection c.args.packet.now) in
    c.in-Ok-take_open.ensures.stands start x past (subst M c.in-Open.is h)

pub returns-in-Ok-take_open-clause-begun : goal.returns-in-Ok-take_open-clause-begun
returns-in-Ok-take_open-clause-begun g c =
    λ start x past h.
    let M = λ (kind : Kind). Comes g.D.Duplex.tells g.S.Service.does c.args.limits past start c.args.duplex.now x c.args.service.now c.args.slots.now (mark_of kind c.args.head.connection c.args.packet.now) in
    c.in-Ok-take_open.ensures.begun start x past (subst M c.in-Open.is h)

pub returns-in-Err-take_open-clause-begun : goal.returns-in-Err-take_open-clause-begun
returns-in-Err-take_open-clause-begun g c =
    λ start x past h.
    let M = λ (kind : Kind). Comes g.D.Duplex.tells g.S.Service.does c.args.limits past start c.args.duplex.now x c.args.service.now c.args.slots.now (mark_of kind c.args.head.connection c.args.packet.now) in
    c.in-Err-take_open.ensures.begun start x past (subst M c.in-Open.is h)

pub returns-in-Ok-take_close-clause-stands : goal.returns-in-Ok-take_close-clause-stands
returns-in-Ok-take_close-clause-stands g c =
    λ start x past h.
    let M = λ (kind : Kind). Comes g.D.Duplex.tells g.S.Service.does c.args.limits past start c.args.duplex.now x c.args.service.now c.args.slots.now (mark_of kind c.args.head.connection c.args.packet.now) in
    c.in-Ok-take_close.ensures.stands start x past (subst M c.in-Close.is h)

pub returns-in-Ok-take_close-clause-begun : goal.returns-in-Ok-take_close-clause-begun
returns-in-Ok-take_close-clause-begun g c =
    λ start x past h.
    let M = λ (kind : Kind). Comes g.D.Duplex.tells g.S.Service.does c.args.limits past start c.args.duplex.now x c.args.service.now c.args.slots.now (mark_of kind c.args.head.connection c.args.packet.now) in
    c.in-Ok-take_close.ensures.begun start x past (subst M c.in-Close.is h)

pub returns-in-Err-take_close-clause-begun : goal.returns-in-Err-take_close-clause-begun
returns-in-Err-take_close-clause-begun g c =
    λ start x past h.
    let M = λ (kind : Kind). Comes g.D.Duplex.tells g.S.Service.does c.args.limits past start c.args.duplex.now x c.args.service.now c.args.slots.now (mark_of kind c.args.head.connection c.args.packet.now) in
    c.in-Err-take_close.ensures.begun start x past (subst M c.in-Close.is h)

pub returns-in-Ok-take_note-clause-stands : goal.returns-in-Ok-take_note-clause-stands
returns-in-Ok-take_note-clause-stands g c =
    λ start x past h.
    let M = λ (kind : Kind). Comes g.D.Duplex.tells g.S.Service.does c.args.limits past start c.args.duplex.now x c.args.service.now c.args.slots.now (mark_of kind c.args.head.connection c.args.packet.now) in
    c.in-Ok-take_note.ensures.stands start x past c.args.slots.now (subst M c.in-Note.is h)

pub returns-in-Ok-take_note-clause-begun : goal.returns-in-Ok-take_note-clause-begun
returns-in-Ok-take_note-clause-begun g c =
    λ start x past h.
    let M = λ (kind : Kind). Comes g.D.Duplex.tells g.S.Service.does c.args.limits past start c.args.duplex.now x c.args.service.now c.args.slots.now (mark_of kind c.args.head.connection c.args.packet.now) in
    c.in-Ok-take_note.ensures.begun start x past c.args.slots.now (subst M c.in-Note.is h)

pub returns-in-Err-take_note-clause-begun : goal.returns-in-Err-take_note-clause-begun
returns-in-Err-take_note-clause-begun g c =
    λ start x past h.
    let M = λ (kind : Kind). Comes g.D.Duplex.tells g.S.Service.does c.args.limits past start c.args.duplex.now x c.args.service.now c.args.slots.now (mark_of kind c.args.head.connection c.args.packet.now) in
    c.in-Err-take_note.ensures.begun start x past c.args.slots.now (subst M c.in-Note.is h)

pub returns-in-Ok-wake-clause-stands : goal.returns-in-Ok-wake-clause-stands
returns-in-Ok-wake-clause-stands g c =
    λ start x past h.
    let M = λ (kind : Kind). Comes g.D.Duplex.tells g.S.Service.does c.args.limits past start c.args.duplex.now x c.args.service.now c.args.slots.now (mark_of kind c.args.head.connection c.args.packet.now) in
    comes_called g.D.Duplex.tells g.S.Service.does c.args.limits past start c.args.duplex.now x c.args.service.now c.wake.new.self c.args.slots.now (Woke c.in-Ok-wake.woken) refl c.in-Ok-wake.ensures (subst M c.in-Wake.is h)

pub returns-in-Ok-wake-clause-begun : goal.returns-in-Ok-wake-clause-begun
returns-in-Ok-wake-clause-begun g c =
    λ start x past h.
    let M = λ (kind : Kind). Comes g.D.Duplex.tells g.S.Service.does c.args.limits past start c.args.duplex.now x c.args.service.now c.args.slots.now (mark_of kind c.args.head.connection c.args.packet.now) in
    comes_faulty g.D.Duplex.tells g.S.Service.does c.args.limits past start c.args.duplex.now c.args.duplex.now x c.args.service.now c.args.slots.now Else (λ came sent told. told) (subst M c.in-Wake.is h)

pub returns-in-Err-wake-clause-begun : goal.returns-in-Err-wake-clause-begun
returns-in-Err-wake-clause-begun g c =
    λ start x past h.
    let M = λ (kind : Kind). Comes g.D.Duplex.tells g.S.Service.does c.args.limits past start c.args.duplex.now x c.args.service.now c.args.slots.now (mark_of kind c.args.head.connection c.args.packet.now) in
    comes_faulty g.D.Duplex.tells g.S.Service.does c.args.limits past start c.args.duplex.now c.args.duplex.now x c.args.service.now c.args.slots.now Else (λ came sent told. told) (subst M c.in-Wake.is h)

pub returns-in-LetIn-clause-begun : goal.returns-in-LetIn-clause-begun
returns-in-LetIn-clause-begun g c =
    λ start x past h.
    let M = λ (kind : Kind). Comes g.D.Duplex.tells g.S.Service.does c.args.limits past start c.args.duplex.now x c.args.service.now c.args.slots.now (mark_of kind c.args.head.connection c.args.packet.now) in
    let F : M LetIn → Faulty g.D.Duplex.tells g.S.Service.does c.args.limits past start c.args.duplex.now x = λ m. comes_faulty g.D.Duplex.tells g.S.Service.does c.args.limits past start c.args.duplex.now c.args.duplex.now x c.args.service.now c.args.slots.now Else (λ came sent told. told) m in
    elim c.in-LetIn.is [
      | inl e ↦ F (subst M e h)
      | inr e ↦ elim e [
        | inl f ↦ F (subst M f h)
        | inr f ↦ F (subst M f h)
      ]
    ]
