-- The parts so far lead from the pattern and the text to what is left of both.
use Rattle.std.proofs.Common.{◌≡◌, ◌≢◌, suc, ◌∷◌, drop, length, sym, ap, ◌∙◌, subst, arith}
use Rattle.std.proofs.lemmas.Bool.Decides.{nat_tests}
use Rattle.std.proofs.lemmas.List.{nil_from_length}
use Rattle.commands.specs.Patterns.{IsOne, Over, Leads, Stay}
use Rattle.commands.proofs.Matching.{leads_back, leads_on, leads_rest, leads_short, leads_further, not_over, not_empty, not_taken}
use Rattle.commands.proofs.pattern.way_along.Goals as goal

pub parts-init : goal.parts-init
parts-init c = (0, Stay)

pub returns-then-is_empty : goal.returns-then-is_empty
returns-then-is_empty c =
    let none : length c.parts.left.now ≡ 0 = grind (arith, nat_tests) in
    leads_back c.parts.invariant.1 (Over (nil_from_length c.parts.parts.now c.in_default.ensures.cases) (nil_from_length c.parts.left.now none))

pub returns-in_default : goal.returns-in_default
returns-in_default c matches =
    let leads = c.parts.invariant.1 in
    let some : length c.parts.left.now ≢ 0 = grind (arith, nat_tests) in
    not_over c.parts.parts.now (drop c.parts.invariant.0 c.args.text.now) (nil_from_length c.parts.parts.now c.in_default.ensures.cases)
    (λ e. some (ap length (leads_rest leads ∙ e)))
    (leads_on leads c.args.text.now matches)

pub returns-then-first-eq42 : goal.returns-then-first-eq42
returns-then-first-eq42 c =
    let behind = c.in-Some.behind.now in
    let is : c.parts.parts.now ≡ 42 ∷ behind = c.in-Some.ensures.cases.0 ∙ ap (λ a. a ∷ behind) c.if-first-eq42.true in
    let leads : Leads c.parts.invariant.0 c.args.pattern.now c.args.text.now (42 ∷ behind) c.parts.left.now = subst (λ l. Leads c.parts.invariant.0 c.args.pattern.now c.args.text.now l c.parts.left.now) is c.parts.invariant.1 in
    let short = leads_short leads in
    ((c.parts.invariant.0, leads), omega (arith, short.0), short.1)

pub returns-in_default-split_first : goal.returns-in_default-split_first
returns-in_default-split_first c matches =
    let leads = c.parts.invariant.1 in
    let one : IsOne c.parts.parts.now = subst IsOne (sym c.in-Some.ensures.cases.0) c.if-first-eq42.false in
    not_empty c.parts.parts.now (drop c.parts.invariant.0 c.args.text.now) one (sym (leads_rest leads) ∙ nil_from_length c.parts.left.now c.in_default-split_first.ensures.cases) (leads_on leads c.args.text.now matches)

pub returns-in_default-behind_part : goal.returns-in_default-behind_part
returns-in_default-behind_part c matches =
    let leads = c.parts.invariant.1 in
    let one : IsOne c.parts.parts.now = subst IsOne (sym c.in-Some.ensures.cases.0) c.if-first-eq42.false in
    not_taken c.parts.parts.now (drop c.parts.invariant.0 c.args.text.now) c.in-Some-split_first.rest.now c.in-Some-split_first.byte.now one (sym (leads_rest leads) ∙ c.in-Some-split_first.ensures.cases.0) c.in_default-behind_part.ensures (leads_on leads c.args.text.now matches)

pub parts-preserved : goal.parts-preserved
parts-preserved c =
    let one : IsOne c.parts.parts.now = subst IsOne (sym c.in-Some.ensures.cases.0) c.if-first-eq42.false in
    let part = c.in-Some-behind_part.ensures in
    let rest = c.in-Some-split_first.rest.now in
    let leads = leads_further c.parts.invariant.1 rest c.in-Some-split_first.byte.now one c.in-Some-split_first.ensures.cases.0 part.0 in
    (suc c.parts.invariant.0, subst (λ l. Leads (suc c.parts.invariant.0) c.args.pattern.now c.args.text.now l rest) (sym part.1) leads)
