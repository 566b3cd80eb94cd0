use Rattle.std.proofs.Common.{◌≡◌, ◌≢◌, ◌++◌, inl, inr, Bool, true, false, List, ℕ, Option, [], ◌∷◌, refl, sym, subst, ◌∙◌}
use Rattle.std.specs.Prelude.{MatchBool}
use Rattle.std.specs.List.{flat_map}
use Rattle.resp.specs.Replies.{token}
use Rattle.table_core.specs.Lent.{lent_value}
use Rattle.farcalls.specs.Tokens.{value_token, flag_token}
use Rattle.farcalls.proofs.replies.reply_if.Goals as goal

pub returns-in-Ok-push_flag : goal.returns-in-Ok-push_flag
returns-in-Ok-push_flag c =
    let found_is : lent_value c.as_ref.result ≡ c.in-Ok.found = search in
    let yes : c.are_same.result ≡ true = search in
    let B : Bool → Type 0 = λ b. MatchBool b (lent_value c.as_ref.result ≡ lent_value c.args.expected) (lent_value c.as_ref.result ≢ lent_value c.args.expected) in
    let same : lent_value c.as_ref.result ≡ lent_value c.args.expected = subst B yes c.are_same.ensures in
    (c.in-Ok.found, c.in-Ok.is, (flag_token true ∷ [], c.in-Ok-push_flag.ensures.pushed, inl (sym found_is ∙ same, refl)))

pub returns-in-Ok-push_value : goal.returns-in-Ok-push_value
returns-in-Ok-push_value c =
    let found_is : lent_value c.as_ref.result ≡ c.in-Ok.found = search in
    let again : lent_value c.as_ref-else-are_same.result ≡ c.in-Ok.found = search in
    let no : c.are_same.result ≡ false = search in
    let B : Bool → Type 0 = λ b. MatchBool b (lent_value c.as_ref.result ≡ lent_value c.args.expected) (lent_value c.as_ref.result ≢ lent_value c.args.expected) in
    let other : lent_value c.as_ref.result ≢ lent_value c.args.expected = subst B no c.are_same.ensures in
    let P : Option (List ℕ) → Type 0 = λ found. c.push_value.new.out.items ≡ c.args.out.now.items ++ flat_map token (value_token found ∷ []) in
    (c.in-Ok.found, c.in-Ok.is, (value_token c.in-Ok.found ∷ [], subst P again c.in-Ok-push_value.ensures.pushed, inr ((λ same. other (found_is ∙ same)), refl)))
