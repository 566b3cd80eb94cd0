use Rattle.std.proofs.Common.{◌≡◌, List, ℕ, [], ◌∷◌, ◌++◌, length, subst}
use Rattle.std.specs.List.{flat_map}
use Rattle.resp.specs.Replies.{Count, String, token}
use Rattle.far_server.specs.Lists.{told_keys}
use Rattle.far_server.proofs.Pushed.{more_tokens}
use Rattle.far_server.proofs.all_keys.push_found.Goals as goal

pub returns-in-Ok-push_keys : goal.returns-in-Ok-push_keys
returns-in-Ok-push_keys c =
    let keys = c.args.found.now.keys.items in
    let old = c.args.reply.now.items in
    let new = c.push_keys.new.reply.items in
    let mid = c.push_head.new.reply.items in
    let cursor = c.as_bytes.result.now in
    let head = Count 2 ∷ String cursor ∷ Count c.len.result ∷ [] in
    let same : c.as_slice.result.now ≡ keys = search in
    let count : c.len.result ≡ length keys = search in
    let told : new ≡ mid ++ flat_map token (told_keys keys) = subst (λ (all : List (List ℕ)). new ≡ mid ++ flat_map token (told_keys all)) same c.in-Ok-push_keys.ensures in
    let all : new ≡ old ++ flat_map token (Count 2 ∷ String cursor ∷ Count c.len.result ∷ told_keys keys) = more_tokens old head (told_keys keys) mid new c.in-Ok.ensures told in
    (cursor, subst (λ (n : ℕ). new ≡ old ++ flat_map token (Count 2 ∷ String cursor ∷ Count n ∷ told_keys keys)) count all)
