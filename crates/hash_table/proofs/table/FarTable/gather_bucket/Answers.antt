use Rattle.std.proofs.Common.{List, ◌++◌, ◌∙◌, sym, ap}
use Rattle.std.proofs.lemmas.List.{append-nil}
use Rattle.hash_table.proofs.Refused.{map_at}
use Rattle.hash_table.proofs.table.FarTable.gather_bucket.Goals as goal

pub returns-in-Nothing-clause-pairs : goal.returns-in-Nothing-clause-pairs
returns-in-Nothing-clause-pairs g c = λ honest.
    let e = c.look-word.ensures in
    let old = g.G.Gathering.gathered c.args.all.now in
    let none = c.empty_holds.ensures g.J.Naming.limits c.look-word.new.pass.front c.args.bucket c.look-word.result honest e.lawful e.seen c.in-Nothing.ensures in
    let here = map_at g.K.FarObject.enc g.V.FarObject.enc g.J.Naming.limits c.look-word.new.pass.front c.args.bucket c.look-word.result honest e.lawful e.word in
    sym (append-nil old) ∙ ap (λ (z : List (g.row.K.Denot × g.row.V.Denot)). old ++ z) (sym none ∙ here)

pub returns-in-Ok-added-clause-pairs : goal.returns-in-Ok-added-clause-pairs
returns-in-Ok-added-clause-pairs g c = λ honest.
    let e = c.look-word.ensures in
    let old = g.G.Gathering.gathered c.args.all.now in
    let here = map_at g.K.FarObject.enc g.V.FarObject.enc g.J.Naming.limits c.look-word.new.pass.front c.args.bucket c.look-word.result honest e.lawful e.word in
    c.in-Ok-added.ensures ∙ ap (λ (z : List (g.row.K.Denot × g.row.V.Denot)). old ++ z) (c.object.ensures.object ∙ (c.in-Ok.ensures.object ∙ here))

pub returns-in-Ok-add-clause-pairs : goal.returns-in-Ok-add-clause-pairs
returns-in-Ok-add-clause-pairs g c = λ honest.
    let e = c.look-word.ensures in
    let old = g.G.Gathering.gathered c.args.all.now in
    let here = map_at g.K.FarObject.enc g.V.FarObject.enc g.J.Naming.limits c.look-word.new.pass.front c.args.bucket c.look-word.result honest e.lawful e.word in
    c.in-Ok-add.ensures ∙ ap (λ (z : List (g.row.K.Denot × g.row.V.Denot)). old ++ z) (c.in-Ok-read_device.ensures.object honest ∙ here)
