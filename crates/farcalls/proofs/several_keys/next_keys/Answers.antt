use Rattle.std.proofs.Common.{◌≡◌, ℕ, List, [], ◌∷◌, ◌++◌, length, refl, sym, ap, subst, ◌∙◌, arith}
use Rattle.commands.specs.Arguments.{listed}
use Rattle.farcalls.proofs.Pushed.{next_done}
use Rattle.farcalls.proofs.several_keys.next_keys.Goals as goal

pub loop-init : goal.loop-init
loop-init c =
    let empty : c.new-texts.result.items ≡ [] = c.new-texts.ensures.items in
    let T : List (List ℕ) → Type 0 = λ ts. c.args.first.now ∷ listed c.args.behind ≡ ts ++ listed c.args.behind in
    let texts : c.push_key.new.texts.items ≡ c.args.first.now ∷ [] = c.in-Ok.ensures.pushed ∙ ap (λ (ts : List (List ℕ)). ts ++ c.args.first.now ∷ []) empty in
    (subst T (sym texts) refl, omega arith)

pub loop-preserved : goal.loop-preserved
loop-preserved c =
    let inv = c.loop.invariant in
    let key = c.in-Some.key.now in
    let done = next_done (c.args.first.now ∷ listed c.args.behind) c.loop.texts.items (listed c.loop.rest) (listed c.in-Some.others) (key ∷ []) inv.0 c.in-Some.ensures in
    let T : List (List ℕ) → Type 0 = λ ts. c.args.first.now ∷ listed c.args.behind ≡ ts ++ listed c.in-Some.others in
    let one : length (listed c.loop.rest) ≡ length (key ∷ listed c.in-Some.others) = ap (λ (l : List (List ℕ)). length l) c.in-Some.ensures in
    (subst T (sym c.in-Ok-push_key.ensures.pushed) done, omega (arith, one, inv.1))
