use Rattle.std.proofs.Common.{◌≤◌, ◌≡◌, ◌+◌, [], Some, None, refl, sym, ap, ◌∙◌, arith, rules}
use Rattle.std.specs.Ordering.{nat_cmp}
use Rattle.std.specs.Map.{lookup}
use Rattle.std.specs.BTreeMap.{is_at}
use Rattle.request_loop.specs.Slots.{Runs, Gone}
use Rattle.request_loop.proofs.Seeing.{found_next, fresh_at, is_gone}
use Rattle.request_loop.proofs.slots.open.Goals as goal

pub returns-in-Ok-None-clause-fresh : goal.returns-in-Ok-None-clause-fresh
returns-in-Ok-None-clause-fresh c =
    let above : c.args.slots.now.next ≤ c.args.connection = first_of (search rules, omega arith) in
    fresh_at c.args.slots.now c.args.connection (sym c.in-Ok-None.ensures.old ∙ c.in-Ok-None.field-0-is) above

pub returns-in-Ok-None-clause-opened : goal.returns-in-Ok-None-clause-opened
returns-in-Ok-None-clause-opened c =
    let was : c.args.slots.now.next ≡ c.args.connection = first_of (search rules, omega arith) in
    found_next c.args.connection c.args.slots.now (record { map = c.insert.new.self; next = c.args.connection + 1 }) (Some c.new.result) (Runs [] 1) was refl c.in-Ok-None.ensures.updates.1 c.in-Ok-None.ensures.updates.2 c.new.ensures

pub returns-clause-fresh : goal.returns-clause-fresh
returns-clause-fresh c =
    let above : c.args.slots.now.next ≤ c.args.connection = first_of (search rules, omega arith) in
    fresh_at c.args.slots.now c.args.connection c.in-Err.ensures.absent above

pub returns-clause-opened : goal.returns-clause-opened
returns-clause-opened c =
    let k = c.args.connection in
    let same = c.in-Err.ensures.err in
    let was : c.args.slots.now.next ≡ k = first_of (search rules, omega arith) in
    found_next k c.args.slots.now (record { map = c.insert.new.self; next = k + 1 }) None Gone was refl (ap (λ e. lookup (is_at (nat_cmp k)) e) same ∙ c.in-Err.ensures.absent) (λ d other. ap (λ e. lookup (is_at (nat_cmp d)) e) same) (is_gone (k + 1) k (omega arith))
