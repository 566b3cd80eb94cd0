use Rattle.std.proofs.Common.{refl, sym, ◌∙◌}
use Rattle.far_object.specs.Encodings.{enc_text}
use Rattle.table_core.specs.Logs.{word}
use Rattle.version_words.proofs.Fronts.{prefix_self}
use Rattle.far_map.proofs.placement.names_nothing.Goals as goal

-- the word at the front has no object, so its contents are no pair, and they are the map's at the bucket
pub returns-in-Empty-clause-empty : goal.returns-in-Empty-clause-empty
returns-in-Empty-clause-empty g c = λ so honest.
    let l = g.J.Naming.limits in
    let log = c.state_of.new.caller.pass.front in
    let b = c.args.bucket in
    let w = word enc_text l.buckets log b in
    let lawful = c.state_of.ensures.lawful in
    let none = c.empty_holds.ensures l log b w honest lawful (log, prefix_self log, refl) c.in-Empty.ensures.state.1 in
    sym none ∙ c.contents_are_map.ensures l log b honest lawful
