use Rattle.std.proofs.Common.{ℕ, List, subst}
use Rattle.request_loop.specs.Turns.{Sends}
use Rattle.request_loop.proofs.Known.{on_err}
use Rattle.request_loop.proofs.requests.put.Goals as goal

pub returns-in_err-put_pieces-clause-part : goal.returns-in_err-put_pieces-clause-part
returns-in_err-put_pieces-clause-part g c =
    let P : List ℕ → Type 0 = λ l. (rest : List ℕ) × Sends g.D.Duplex.tells c.args.connection c.args.duplex.now c.put_pieces.new.duplex l rest in
    on_err _ _ (subst P c.as_slice.ensures.value c.in_err-put_pieces.ensures.part)
