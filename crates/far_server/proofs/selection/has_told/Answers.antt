use Rattle.std.proofs.Common.{◌≡◌, List, ℕ, [], ◌∷◌, ◌++◌, MatchBool, subst, ◌∙◌}
use Rattle.std.specs.List.{flat_map}
use Rattle.resp.specs.Replies.{Failure, token}
use Rattle.far_server.specs.Selections.{no_database}
use Rattle.far_server.proofs.selection.has_told.Goals as goal

pub returns-in-Ok : goal.returns-in-Ok
returns-in-Ok c =
    let old = c.args.reply.now.items in
    let new = c.has_pushed.new.reply.items in
    let text : c.as_slice.result.now ≡ no_database c.args.refused = c.as_slice.ensures.value ∙ c.in-Ok.ensures in
    subst (λ (t : List ℕ). MatchBool c.has_pushed.result (new ≡ old ++ flat_map token (Failure t ∷ [])) (new ≡ old)) text c.has_pushed.ensures
