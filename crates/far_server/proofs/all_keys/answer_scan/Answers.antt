use Rattle.std.proofs.Common.{◌++◌, ◌∷◌, ℕ, List, length, ap, ◌∙◌}
use Rattle.std.specs.List.{flat_map}
use Rattle.resp.specs.Replies.{Count, String, token}
use Rattle.far_server.specs.Lists.{told_keys}
use Rattle.far_server.proofs.Pushed.{on_ok}
use Rattle.far_server.proofs.OneReply.{page}
use Rattle.far_server.proofs.all_keys.answer_scan.Goals as goal

pub returns-else-not-has_room_for_short-clause-said : goal.returns-else-not-has_room_for_short-clause-said
returns-else-not-has_room_for_short-clause-said g c = on_ok c.push_found.result (λ p. record {
  tokens = Count 2 ∷ String p.0 ∷ Count (length c.in-Ok.found.keys.items) ∷ told_keys c.in-Ok.found.keys.items;
  whole = page p.0 c.in-Ok.found.keys.items;
  spelled = p.1 ∙ ap (λ (l : List ℕ). l ++ flat_map token (Count 2 ∷ String p.0 ∷ Count (length c.in-Ok.found.keys.items) ∷ told_keys c.in-Ok.found.keys.items)) c.has_room_for_short.ensures;
}) c.push_found.ensures
