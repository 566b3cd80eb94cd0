use Rattle.std.proofs.Common.{◌≡◌, ℕ, ◌+◌, ◌-◌, ◌≤◌, List, length, take, drop, ap, ◌∙◌, arith, rules}
use Rattle.request_loop.specs.Turns.{Sends}
use Rattle.request_loop.proofs.Known.{on_err}
use Rattle.request_loop.proofs.Sending.{sends_more, sends_piece, sends_kept}
use Rattle.request_loop.proofs.requests.put_pieces.Goals as goal

pub returns-in_err-write-clause-part : goal.returns-in_err-write-clause-part
returns-in_err-write-clause-part g c =
    let tells = g.D.Duplex.tells in
    let k = c.args.connection in
    let bytes = c.args.bytes.now in
    let rest = drop c.loop-at.at bytes in
    let kept : Sends g.D.Duplex.tells c.args.connection c.loop-at.duplex c.write.new.self rest rest = sends_kept g.D.Duplex.tells k c.loop-at.duplex c.write.new.self rest (λ start came sent told. c.in_err-write.ensures.failed start came sent told) in
    let t : (rest : List ℕ) × Sends g.D.Duplex.tells c.args.connection c.args.duplex.now c.write.new.self bytes rest = (rest, sends_more g.D.Duplex.tells k c.args.duplex.now c.loop-at.duplex c.write.new.self bytes rest rest c.loop-at.invariant.sends kept) in
    on_err _ _ t

pub loop-at-preserved : goal.loop-at-preserved
loop-at-preserved g c =
    let k = c.args.connection in
    let bytes = c.args.bytes.now in
    let at = c.loop-at.at in
    let n = c.min.result in
    let is : take (at + n - at) (drop at bytes) ≡ take n (drop at bytes) = ap (λ i. take i (drop at bytes)) (omega arith) in
    let piece = sends_piece g.D.Duplex.tells k c.loop-at.duplex c.write.new.self bytes _ at n is (λ start came sent told. c.in_ok-write.ensures.sent start came sent told) in
    let within : at + n ≤ length bytes = first_of (search rules, omega arith) in
    record {
      within = within;
      sends = sends_more g.D.Duplex.tells k c.args.duplex.now c.loop-at.duplex c.write.new.self bytes (drop at bytes) (drop (at + n) bytes) c.loop-at.invariant.sends piece;
      limits = c.in_ok-write.ensures.limits ∙ c.loop-at.invariant.limits;
    }
