-- One more argument that is kept of a request with a password.
use Rattle.std.proofs.Common.{◌≡◌, ℕ, ◌+◌, ◌<◌, List, [], ◌∷◌, ◌++◌, length, arith}
use Rattle.std.specs.Prelude.{All}
use Rattle.std.proofs.lemmas.Grind.{common_steps}
use Rattle.std.specs.Global.{Vec}
use Rattle.std.proofs.lemmas.List.Elements.{All-nil, All-cons, All-append}
use Rattle.server_commands.specs.SlowLog.{redacted, IsRedacted}

pub hidden_more : (kept : List (Vec ℕ)) (argument : Vec ℕ) (index : ℕ) → length kept ≡ index → IsRedacted kept → (0 < index → argument.items ≡ redacted) → IsRedacted (kept ++ argument ∷ [])
hidden_more [] argument index counted hidden is = All-nil (λ a. a.items ≡ redacted)
hidden_more (first ∷ kept) argument index counted hidden is =
    let P : Vec ℕ → Type 0 = λ a. a.items ≡ redacted in
    All-append P kept (argument ∷ []) hidden (All-cons P argument [] (is (omega (arith, counted))) (All-nil P))

pub one_more : (kept : List (Vec ℕ)) (argument : Vec ℕ) (after : List (Vec ℕ)) (index : ℕ) → after ≡ kept ++ argument ∷ [] → length kept ≡ index → length after ≡ index + 1
one_more kept argument after index is counted = grind (arith, common_steps)
