use Rattle.std.proofs.Common.{◌≡◌, ◌++◌, Bool, true, false, List, ℕ, Option, [], ◌∷◌, refl, sym, subst}
use Rattle.std.specs.Prelude.{MatchBool}
use Rattle.std.specs.List.{flat_map}
use Rattle.resp.specs.Replies.{token}
use Rattle.table_core.specs.Lent.{lent_value}
use Rattle.farcalls.specs.Tokens.{value_token, flag_token}
use Rattle.farcalls.proofs.replies.reply_removal.Goals as goal

pub returns-in-Ok-push_flag : goal.returns-in-Ok-push_flag
returns-in-Ok-push_flag c =
    let removal = c.in-Ok.removal in
    let yes : removal.removed ≡ true = search in
    let rs = flag_token true ∷ [] in
    let B : Bool → Type 0 = λ b. MatchBool b (rs ≡ flag_token true ∷ []) (rs ≡ value_token removal.found ∷ []) in
    (removal, c.in-Ok.is, (rs, c.in-Ok-push_flag.ensures.pushed, subst B (sym yes) refl))

pub returns-in-Ok-push_value : goal.returns-in-Ok-push_value
returns-in-Ok-push_value c =
    let removal = c.in-Ok.removal in
    let no : removal.removed ≡ false = search in
    let found_is : lent_value c.as_ref.result ≡ removal.found = search in
    let rs = value_token removal.found ∷ [] in
    let B : Bool → Type 0 = λ b. MatchBool b (rs ≡ flag_token true ∷ []) (rs ≡ value_token removal.found ∷ []) in
    let P : Option (List ℕ) → Type 0 = λ found. c.push_value.new.out.items ≡ c.args.out.now.items ++ flat_map token (value_token found ∷ []) in
    (removal, c.in-Ok.is, (rs, subst P found_is c.in-Ok-push_value.ensures.pushed, subst B (sym no) refl))
