use Rattle.std.proofs.Common.{sym, subst}
use Rattle.std.specs.Io.KnownBytes.{Consumes, Appends}
use Rattle.resp.specs.declared.limits.Limits.{Limits}
use Rattle.request_loop.specs.Served.{Served}
use Rattle.request_loop.specs.Packets.{packets_bytes}
use Rattle.request_loop.proofs.Known.{wire_told}
use Rattle.request_loop.proofs.byte_streams.serve_over.Goals as goal

pub returns-in-Ok : goal.returns-in-Ok
returns-in-Ok g c =
    let s = c.in-Ok.ensures.served in
    let start = c.new-wire.result in
    let now = c.serve.new.duplex in
    let t = wire_told g.R.Read.remaining g.W.Write.contents start now s.0 s.1 s.4 s.2 in
    let A = λ (r : g.row.R.Denot). Consumes (g.R.Read.remaining r) (g.R.Read.remaining now.input) (packets_bytes s.0) in
    let B = λ (r : g.row.R.Denot). Consumes (g.R.Read.remaining c.args.input) (g.R.Read.remaining r) (packets_bytes s.0) in
    let C = λ (w : g.row.W.Denot). Appends (g.W.Write.contents w) (g.W.Write.contents now.output) (packets_bytes s.1) in
    let D = λ (w : g.row.W.Denot). Appends (g.W.Write.contents c.args.output) (g.W.Write.contents w) (packets_bytes s.1) in
    let E = λ (w : g.row.W.Denot). g.W.PacketOutput.handed_on w in
    let L : Limits → Type 0 = λ l. Served g.S.Service.does l c.args.service.now c.serve.new.service s.0 s.1 in (
      s.0,
      s.1,
      subst B (sym c.into_parts.ensures.0) (subst A c.new-wire.ensures.parts.0 t.0),
      subst D (sym c.into_parts.ensures.1) (subst C c.new-wire.ensures.parts.1 t.1),
      subst L c.new-wire.ensures.limits s.3,
      subst E (sym c.into_parts.ensures.1) s.5,
    )
