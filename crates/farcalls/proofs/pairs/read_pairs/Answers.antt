use Rattle.std.proofs.Common.{◌≡◌, ◌++◌, List, ℕ, sym, ap, ◌∙◌, rules}
use Rattle.farcalls.specs.declared.pairs.Collected.{Collected}
use Rattle.farcalls.proofs.Collecting.{collected_by}
use Rattle.farcalls.proofs.pairs.read_pairs.Goals as goal

pub returns-clause-pairs : goal.returns-clause-pairs
returns-clause-pairs g c honest =
    let v = c.in-Ok.ensures.visits in
    let got = collected_by _ v.0 _ v.2 (λ f. f.0.now.pairs.items) (λ f. f.0.now.is_short) (λ f. f.0.ghost_name) (λ f x h k. search rules) in
    let last = c.collected-2-1.given.1 (sym got.0) in
    let r = got.1 (ap (λ (x : Collected). x.is_short) (sym last) ∙ c.if-is_short.false) in
    ap (λ (x : Collected). x.pairs.items) last ∙ (r.1 ∙ (ap (λ (l : List (List ℕ × List ℕ)). l ++ v.0) c.new.ensures.items ∙ v.1 honest))
