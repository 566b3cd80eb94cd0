use Rattle.std.proofs.Common.{◌∙◌, sym}
use Rattle.std.specs.Ordering.{nat_cmp}
use Rattle.std.specs.Cmp.Lexicographic.{slice_cmp}
use Rattle.far_pairs.proofs.Heads.{heads_decide, equals}
use Rattle.far_pairs.proofs.lent_pair.LentPair.compare_keys.Goals as goal

pub returns-in_default : goal.returns-in_default
returns-in_default c =
    let own = c.self.invariant in
    let other = c.other.invariant in
    c.cmp.ensures
    ∙ ((λ i. nat_cmp (own.1 i) (other.1 i))
    ∙ (heads_decide 16 c.self.inside.key.now c.other.inside.key.now own.0 other.0 (λ s. c.in_default.not-Equal (c.cmp.ensures ∙ equals c.self.inside.head c.other.inside.head (own.1 ∙ (s ∙ sym other.1))))
    ∙ (λ i. slice_cmp nat_cmp ((c.self.view_is i).0) ((c.other.view_is i).0))))
