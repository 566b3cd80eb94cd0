use Rattle.std.proofs.Common.{◌≡◌, ◌++◌, ◌∷◌, ℕ, List, Option, length}
use Rattle.std.specs.Prelude.{map}
use Rattle.std.specs.List.{flat_map}
use Rattle.far_blob.specs.Encodings.{enc_blob}
use Rattle.far_map.specs.Many.{AreGot}
use Rattle.resp.specs.Replies.{Count, token}
use Rattle.commands.specs.Arguments.{listed}
use Rattle.farcalls.specs.Tokens.{value_token}
use Rattle.farcalls.proofs.several_keys.get_each.Given as goal

abbrev pub invariant-loop-first : goal.invariant-loop-first
invariant-loop-first g l = (done : List (List ℕ)) × (listed l.fn.keys ≡ done ++ listed l.rest) × ((answers : List (Option (List ℕ)))
    × (l.out.items ≡ l.fn.out.items ++ flat_map token (Count (length (listed l.fn.keys)) ∷ map value_token answers))
    × AreGot enc_blob g.S.Calls.limits done answers (g.S.Calls.shown l.fn.me) (g.S.Calls.shown l.me))

abbrev pub decreases-loop-first : goal.decreases-loop-first
decreases-loop-first g l = length (listed l.rest)
