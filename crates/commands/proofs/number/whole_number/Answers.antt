-- A spelling is short, is text, and parses to its number.
use Rattle.std.proofs.Common.{ℕ, Ok, Err, arith, refl, sym, ◌∙◌}
use Rattle.commands.proofs.Numbers.{too_long, is_text, parsed, not_other}
use Rattle.commands.proofs.number.whole_number.Goals as goal

pub returns-then-bytes-gt-LONGEST : goal.returns-then-bytes-gt-LONGEST
returns-then-bytes-gt-LONGEST c = too_long c.args.bytes.now (omega arith)

pub returns-in_default : goal.returns-in_default
returns-in_default c z fits is = c.in_default.ensures.cases.0 (is_text z fits c.args.bytes.now is)

pub returns-in_default-parse : goal.returns-in_default-parse
returns-in_default-parse c z fits is =
    let no = parsed z fits c.in-Ok.text.now (Err c.in_default-parse.field-0) (c.in-Ok.ensures.cases.0 ∙ is) c.in_default-parse.ensures.value.0 in
    cc

pub returns-else-eq : goal.returns-else-eq
returns-else-eq c z fits is =
    not_other {E = ℕ} c.in-Ok-parse.number z fits (Ok c.in-Ok-parse.number) c.args.bytes.now c.as_bytes-spelling.result.now refl
    (parsed {E = ℕ} z fits c.in-Ok.text.now (Ok c.in-Ok-parse.number) (c.in-Ok.ensures.cases.0 ∙ is) c.in-Ok-parse.ensures.value.0)
    (c.as_bytes-spelling.ensures.value ∙ c.format.ensures.text) is (sym c.if-eq.ensures)
