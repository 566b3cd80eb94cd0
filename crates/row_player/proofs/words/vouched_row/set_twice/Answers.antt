use Rattle.std.proofs.Common.{◌∙◌, sym, ap, refl, arith}
use Rattle.far_object.specs.Encodings.{enc_text}
use Rattle.table_core.specs.BucketWords.{name_of}
use Rattle.table_core.proofs.Maps.{equivalence}
use Rattle.version_words.specs.Views.{has_object}
use Rattle.version_words.proofs.Fronts.{prefix_self}
use Rattle.version_words.proofs.Gone.{name_of-pack}
use Rattle.row_player.proofs.words.vouched_row.set_twice.Goals as goal

pub install-requires-clause-newer : goal.install-requires-clause-newer
install-requires-clause-newer g c = c.in-Ok.ensures.newer c.look-old.result (c.look-old.new.pass.front, prefix_self c.look-old.new.pass.front, sym c.look-old.ensures.word)

-- the word 0 has no pairs, so none is expected and the pair is put
pub install-requires-clause-contents : goal.install-requires-clause-contents
install-requires-clause-contents g c = λ honest.
    let none = c.empty_holds.ensures g.J.Naming.limits c.name.new.pass.front c.bucket_of-bucket.result c.look-old.result honest c.in-Ok.ensures.lawful (c.look-old.new.pass.front, c.in-Ok.ensures.pass.grows, sym c.look-old.ensures.word) (ap has_object c.if-old-ne0.false) in
    rw none (c.in-Ok.ensures.contents ∙ c.requires)

pub check-checked-requires-clause-seen : goal.check-checked-requires-clause-seen
check-checked-requires-clause-seen g c = c.in-Ok-install.ensures.seen

-- the installed word holds the pair, so the key has a value where none is expected
pub check-checked-requires-clause-nothing : goal.check-checked-requires-clause-nothing
check-checked-requires-clause-nothing g c = λ honest.
    let stay = c.contents_stay.ensures g.J.Naming.limits c.in-Ok.name.front c.install.new.pass.front c.in-Ok.name.number c.in-Ok.name.bucket c.in-Ok-install.ensures.lawful c.in-Ok-install.ensures.named c.in-Ok.ensures.named.drawn in
    let number = ap name_of c.in-Ok-install.ensures.word ∙ name_of-pack c.in-Ok.name.number 0 (omega arith) in
    let pair = c.in-Ok.ensures.contents ∙ c.requires in
    let here = (equivalence enc_text).refl c.args.pair.0 in
    rw (number, stay, pair, here) refl
