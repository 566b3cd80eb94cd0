use Rattle.std.proofs.Common.{◌≡◌, ◌≢◌, ◌≤◌, ℕ, Bool, MatchBool, decimal, [], ◌∷◌, ◌++◌, refl, subst, inl, inr}
use Rattle.std.specs.Prelude.{codes}
use Rattle.std.specs.List.{flat_map}
use Rattle.resp.specs.Replies.{Simple, Failure, token}
use Rattle.far_map.specs.declared.refusal.MapRefusal.TheVariants as refusal
use Rattle.far_server.specs.Refusing.{text_of}
use Rattle.far_server.proofs.Pushed.{on_ok}
use Rattle.far_server.proofs.selection.answer_select.Goals as goal

pub returns-in-Ok-false-clause-selected : goal.returns-in-Ok-false-clause-selected
returns-in-Ok-false-clause-selected c =
    let old = c.args.reply.now.items in
    let new = c.push_ok.new.reply.items in
    let M : Bool → Type 0 = λ b. MatchBool b (new ≡ old ++ flat_map token (Simple (codes "OK") ∷ [])) (new ≡ old ++ flat_map token (Failure (text_of refusal.Memory) ∷ [])) in
    let is : new ≡ old ++ flat_map token (Failure (text_of refusal.Memory) ∷ []) = subst M c.in-Ok-false.field-0-test c.in-Ok-false.ensures in
    (Failure (text_of refusal.Memory) ∷ [], is, inr refl)

pub returns-in-Err-clause-selected : goal.returns-in-Err-clause-selected
returns-in-Err-clause-selected c =
    let none : (d : ℕ) → d ≤ c.args.last → c.args.index.now ≢ decimal d = c.in-Err.ensures.refused in
    on_ok c.push_one_fault.result (λ said. (Failure said.0 ∷ [], said.1, inl (none, (said.0, refl)))) c.push_one_fault.ensures
