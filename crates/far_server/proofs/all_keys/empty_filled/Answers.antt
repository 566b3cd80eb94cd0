use Rattle.std.proofs.Common.{◌≡◌, true, [], refl}
use Rattle.far_server.proofs.Flushing.{flushing_after}
use Rattle.far_server.proofs.all_keys.empty_filled.Goals as goal

pub returns-then-is_empty_at : goal.returns-then-is_empty_at
returns-then-is_empty_at g c =
    let yes : c.is_empty_at.result ≡ true = search in
    (g.S.Calls.shown c.is_empty_at.new.self, [], record { goes = c.is_empty_at.ensures.goes; pairs = []; are = c.is_empty_at.ensures.empty yes; found = refl }, refl)

pub returns : goal.returns
returns g c = flushing_after g.S.Calls.limits c.args.database c.args.bucket (g.S.Calls.shown c.args.me.now) (g.S.Calls.shown c.is_empty_at.new.self) (g.S.Calls.shown c.empty_bucket.new.me) c.empty_bucket.result c.is_empty_at.ensures.goes c.empty_bucket.ensures
