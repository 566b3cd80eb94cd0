use Rattle.std.proofs.Common.{ℕ, List, [], ◌∷◌, ◌++◌, ◌≡◌, OnOk, ◌∙◌, subst}
use Rattle.std.specs.Prelude.{decimal}
use Rattle.threaded_run.proofs.Adding.{two_parts}
use Rattle.threaded_run.proofs.command.push_place.Goals as goal

pub returns : goal.returns
returns c =
    two_parts c.push_line.result c.args.lines.now.items c.extend_from_slice.new.self.items c.push_line.new.lines.items c.args.place.now (decimal c.args.name) c.in_ok-extend_from_slice.ensures.items
    (subst (λ (digits : List ℕ). OnOk c.push_line.result (c.push_line.new.lines.items ≡ c.extend_from_slice.new.self.items ++ (digits ++ 10 ∷ []))) (c.as_bytes.ensures.value ∙ c.format.ensures.text) c.push_line.ensures)
