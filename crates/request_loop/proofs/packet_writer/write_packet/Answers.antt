use Rattle.std.proofs.Common.{[], ◌∷◌}
use Rattle.request_loop.proofs.Known.{on_err, err_then, ok_then, appends_then, packet_written}
use Rattle.request_loop.proofs.packet_writer.write_packet.Goals as goal

pub returns-in_err-put_all-2-clause-part : goal.returns-in_err-put_all-2-clause-part
returns-in_err-put_all-2-clause-part g c =
    on_err _ _ (appends_then (g.W.Write.contents c.args.output.now) (g.W.Write.contents c.put_all.new.output) (g.W.Write.contents c.put_all-2.new.output) (c.byte_of.result ∷ []) c.in_ok-put_all.ensures.put c.in_err-put_all-2.ensures.part)

pub returns-in_err-put_all-3-clause-part : goal.returns-in_err-put_all-3-clause-part
returns-in_err-put_all-3-clause-part g c =
    on_err _ _ (appends_then (g.W.Write.contents c.args.output.now) (g.W.Write.contents c.put_all.new.output) (g.W.Write.contents c.put_all-3.new.output) (c.byte_of.result ∷ []) c.in_ok-put_all.ensures.put
    (appends_then (g.W.Write.contents c.put_all.new.output) (g.W.Write.contents c.put_all-2.new.output) (g.W.Write.contents c.put_all-3.new.output) c.to_be_bytes.result c.in_ok-put_all-2.ensures.put c.in_err-put_all-3.ensures.part))

pub returns-clause-part : goal.returns-clause-part
returns-clause-part g c =
    err_then c.put_all-4.result _ _ c.put_all-4.ensures.part (λ kept. appends_then (g.W.Write.contents c.args.output.now) (g.W.Write.contents c.put_all.new.output) (g.W.Write.contents c.put_all-4.new.output) (c.byte_of.result ∷ []) c.in_ok-put_all.ensures.put
    (appends_then (g.W.Write.contents c.put_all.new.output) (g.W.Write.contents c.put_all-2.new.output) (g.W.Write.contents c.put_all-4.new.output) c.to_be_bytes.result c.in_ok-put_all-2.ensures.put
    (appends_then (g.W.Write.contents c.put_all-2.new.output) (g.W.Write.contents c.put_all-3.new.output) (g.W.Write.contents c.put_all-4.new.output) c.to_be_bytes-2.result c.in_ok-put_all-3.ensures.put kept)))

pub returns-clause-put : goal.returns-clause-put
returns-clause-put g c =
    ok_then c.put_all-4.result _ _ c.put_all-4.ensures.put (λ put. packet_written (g.W.Write.contents c.args.output.now) (g.W.Write.contents c.put_all.new.output) (g.W.Write.contents c.put_all-2.new.output) (g.W.Write.contents c.put_all-3.new.output) (g.W.Write.contents c.put_all-4.new.output) c.args.head c.args.bytes.now c.byte_of.result c.to_be_bytes.result c.to_be_bytes-2.result c.in_ok-put_all.ensures.put c.in_ok-put_all-2.ensures.put c.in_ok-put_all-3.ensures.put put c.byte_of.ensures c.to_be_bytes.ensures c.to_be_bytes-2.ensures)
