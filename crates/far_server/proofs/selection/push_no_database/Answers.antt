use Rattle.std.proofs.Common.{◌≡◌, List, ℕ, Bool, true, false, MatchBool, [], ◌∷◌, ◌++◌, refl, ap, subst, ◌∙◌, inl, inr}
use Rattle.std.specs.List.{flat_map}
use Rattle.resp.specs.Replies.{Failure, token}
use Rattle.far_map.specs.declared.refusal.MapRefusal.TheVariants as refusal
use Rattle.far_server.specs.Refusing.{text_of}
use Rattle.far_server.specs.Selections.{no_database}
use Rattle.far_server.proofs.Pushed.{on_ok}
use Rattle.far_server.proofs.selection.push_no_database.Goals as goal

pub returns-then-has_told : goal.returns-then-has_told
returns-then-has_told c =
    let old = c.args.reply.now.items in
    let new = c.has_told.new.reply.items in
    let yes : c.has_told.result ≡ true = search in
    let M : Bool → Type 0 = λ b. MatchBool b (new ≡ old ++ flat_map token (Failure (no_database c.args.refused) ∷ [])) (new ≡ old) in
    let is : new ≡ old ++ flat_map token (Failure (no_database c.args.refused) ∷ []) = subst M yes c.has_told.ensures in
    (Failure (no_database c.args.refused) ∷ [], is, inl refl)

pub returns : goal.returns
returns c =
    let old = c.args.reply.now.items in
    let new = c.has_told.new.reply.items in
    let no : c.has_told.result ≡ false = search in
    let M : Bool → Type 0 = λ b. MatchBool b (new ≡ old ++ flat_map token (Failure (no_database c.args.refused) ∷ [])) (new ≡ old) in
    let same : new ≡ old = subst M no c.has_told.ensures in
    let told : c.text_of.result.now ≡ text_of refusal.Memory = c.text_of.ensures in
    on_ok c.push_one_failure.result (λ is. (
      Failure (text_of refusal.Memory) ∷ [],
      is ∙ (ap (λ (t : List ℕ). c.has_told.new.reply.items ++ flat_map token (Failure t ∷ [])) told ∙ ap (λ (l : List ℕ). l ++ flat_map token (Failure (text_of refusal.Memory) ∷ [])) same),
      inr refl,
    )) c.push_one_failure.ensures.exact
