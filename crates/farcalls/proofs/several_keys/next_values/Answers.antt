use Rattle.std.proofs.Common.{◌≡◌, ℕ, List, ◌∷◌, ◌++◌, sym, subst}
use Rattle.commands.specs.Arguments.{listed}
use Rattle.farcalls.proofs.Several.{cut_here, cut_each}
use Rattle.farcalls.proofs.several_keys.next_values.Goals as goal

pub returns-in-Err-clause-fault : goal.returns-in-Err-clause-fault
returns-in-Err-clause-fault g c = cut_here g.S.Calls.limits (c.args.first.now ∷ listed c.args.behind) c.in-Err.why (g.S.Calls.shown c.args.me.now) c.in-Err.ensures.fault

pub returns-in-Ok-get_many-clause-got : goal.returns-in-Ok-get_many-clause-got
returns-in-Ok-get_many-clause-got g c =
    let T : List (List ℕ) → Type 0 = λ ks. c.args.first.now ∷ listed c.args.behind ≡ ks ++ listed c.in-Ok.next.1 in
    (c.as_slice.result.now, subst T (sym c.as_slice.ensures.value) c.in-Ok.ensures.keys, c.in-Ok-get_many.ensures.got)

pub returns-clause-fault : goal.returns-clause-fault
returns-clause-fault g c =
    let T : List (List ℕ) → Type 0 = λ ks. c.args.first.now ∷ listed c.args.behind ≡ ks ++ listed c.in-Ok.next.1 in
    cut_each g.S.Calls.limits c.as_slice.result.now (c.args.first.now ∷ listed c.args.behind) (listed c.in-Ok.next.1) c.in-Err-get_many.why (g.S.Calls.shown c.args.me.now) (g.S.Calls.shown c.get_many.new.self)
    (subst T (sym c.as_slice.ensures.value) c.in-Ok.ensures.keys) c.in-Err-get_many.ensures.got
