use Rattle.std.proofs.Common.{◌≡◌, ℕ, ◌-◌, List, ◌++◌, length, take, drop, ap, ◌∙◌, append_assoc, take-append-drop}
use Rattle.std.proofs.lemmas.List.{take_rest}
use Rattle.std.specs.Io.KnownBytes.{Appends}
use Rattle.request_loop.proofs.Known.{on_err, appends_more}
use Rattle.request_loop.proofs.packet_writer.put_all.Goals as goal

pub returns-in_err-n-clause-part : goal.returns-in_err-n-clause-part
returns-in_err-n-clause-part g c =
    let inv = c.loop-round.invariant in
    let k : (part : List ℕ) × Appends (g.W.Write.contents c.loop-round.output) (g.W.Write.contents c.put_some.new.output) part = c.in_err-n.ensures.kept in
    let t : (part : List ℕ) × Appends (g.W.Write.contents c.args.output.now) (g.W.Write.contents c.put_some.new.output) part =
    (inv.0 ++ k.0, appends_more (g.W.Write.contents c.args.output.now) (g.W.Write.contents c.loop-round.output) (g.W.Write.contents c.put_some.new.output) inv.0 k.0 inv.1 k.1) in
    on_err _ _ t

pub loop-round-preserved : goal.loop-round-preserved
loop-round-preserved g c =
    let inv = c.loop-round.invariant in
    let rest = c.loop-round.rest.now in
    let n = c.in_ok-n.n in
    let is : (inv.0 ++ take n rest) ++ take (length rest - n) (drop n rest) ≡ c.args.bytes.now =
    ap (λ l. (inv.0 ++ take n rest) ++ l) (take_rest rest n) ∙ (append_assoc inv.0 (take n rest) (drop n rest) ∙ (ap (λ l. inv.0 ++ l) (take-append-drop n rest) ∙ inv.2)) in
    (inv.0 ++ take n rest, appends_more (g.W.Write.contents c.args.output.now) (g.W.Write.contents c.loop-round.output) (g.W.Write.contents c.put_some.new.output) inv.0 (take n rest) inv.1 c.in_ok-n.ensures.put, is)
