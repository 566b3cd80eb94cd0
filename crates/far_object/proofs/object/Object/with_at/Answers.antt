use Rattle.std.proofs.Common.{length, ap, sym, ◌∙◌, arith}
use Rattle.std.specs.BTreeMap.{insert_entry}
use Rattle.far_object.specs.Buckets.{key_cmp}
use Rattle.far_object.proofs.Putting.{gap_bounds, here_bounds, with_gap, with_here, put_map}
use Rattle.far_object.proofs.object.Object.with_at.Goals as goal

pub spliced-requires-clause-head : goal.spliced-requires-clause-head
spliced-requires-clause-head g c = (gap_bounds g.K.FarObject.enc g.V.FarObject.enc c.args.key.now c.in-Gap.at c.args.self.now (sym (sym c.in-Gap.is ∙ c.requires.located))).0

pub spliced-requires-clause-within : goal.spliced-requires-clause-within
spliced-requires-clause-within g c =
    let b = (gap_bounds g.K.FarObject.enc g.V.FarObject.enc c.args.key.now c.in-Gap.at c.args.self.now (sym (sym c.in-Gap.is ∙ c.requires.located))).1 in
    let l = ap length c.as_bytes-bytes.ensures.is in
    omega (arith, b, l)

pub behind-requires-clause-object : goal.behind-requires-clause-object
behind-requires-clause-object g c = (
  insert_entry (key_cmp g.K.FarObject.enc) c.args.self.now c.args.key.now c.args.value.now,
  with_gap g.K.FarObject.enc g.V.FarObject.enc c.args.key.now c.args.value.now c.in-Gap.at c.count-count.result c.args.self.now c.as_bytes-bytes.result.now c.in_ok-with-in-Gap.with.items c.as_bytes-bytes.ensures.is c.count-count.ensures (sym c.in-Gap.is ∙ c.requires.located) c.in_ok-with-in-Gap.ensures,
  put_map g.K.FarObject.enc g.K.FarObject.admits g.V.FarObject.admits c.args.key.now c.args.value.now c.args.self.now c.admitted.ensures c.admitted-2.ensures c.requires.few c.as_bytes-bytes.ensures.map,
)

pub returns-in_ok-with-in-Gap : goal.returns-in_ok-with-in-Gap
returns-in_ok-with-in-Gap g c =
    c.behind.ensures (insert_entry (key_cmp g.K.FarObject.enc) c.args.self.now c.args.key.now c.args.value.now)
    (with_gap g.K.FarObject.enc g.V.FarObject.enc c.args.key.now c.args.value.now c.in-Gap.at c.count-count.result c.args.self.now c.as_bytes-bytes.result.now c.in_ok-with-in-Gap.with.items c.as_bytes-bytes.ensures.is c.count-count.ensures (sym c.in-Gap.is ∙ c.requires.located) c.in_ok-with-in-Gap.ensures)
    (put_map g.K.FarObject.enc g.K.FarObject.admits g.V.FarObject.admits c.args.key.now c.args.value.now c.args.self.now c.admitted.ensures c.admitted-2.ensures c.requires.few c.as_bytes-bytes.ensures.map)

pub spliced-requires-in-Here-clause-head : goal.spliced-requires-in-Here-clause-head
spliced-requires-in-Here-clause-head g c = (here_bounds g.K.FarObject.enc g.V.FarObject.enc c.args.key.now c.in-Here.start c.in-Here.field-1 c.in-Here.end c.args.self.now (sym (sym c.in-Here.is ∙ c.requires.located))).0

pub spliced-requires-in-Here-clause-order : goal.spliced-requires-in-Here-clause-order
spliced-requires-in-Here-clause-order g c = (here_bounds g.K.FarObject.enc g.V.FarObject.enc c.args.key.now c.in-Here.start c.in-Here.field-1 c.in-Here.end c.args.self.now (sym (sym c.in-Here.is ∙ c.requires.located))).1

pub spliced-requires-in-Here-clause-within : goal.spliced-requires-in-Here-clause-within
spliced-requires-in-Here-clause-within g c =
    let b = (here_bounds g.K.FarObject.enc g.V.FarObject.enc c.args.key.now c.in-Here.start c.in-Here.field-1 c.in-Here.end c.args.self.now (sym (sym c.in-Here.is ∙ c.requires.located))).2 in
    let l = ap length c.as_bytes-bytes.ensures.is in
    omega (arith, b, l)

pub behind-requires-in-Here-clause-object : goal.behind-requires-in-Here-clause-object
behind-requires-in-Here-clause-object g c = (
  insert_entry (key_cmp g.K.FarObject.enc) c.args.self.now c.args.key.now c.args.value.now,
  with_here g.K.FarObject.enc g.V.FarObject.enc c.args.key.now c.args.value.now c.in-Here.start c.in-Here.field-1 c.in-Here.end c.count-count.result c.args.self.now c.as_bytes-bytes.result.now c.in_ok-with-in-Here.with.items c.as_bytes-bytes.ensures.is c.count-count.ensures (sym c.in-Here.is ∙ c.requires.located) c.in_ok-with-in-Here.ensures,
  put_map g.K.FarObject.enc g.K.FarObject.admits g.V.FarObject.admits c.args.key.now c.args.value.now c.args.self.now c.admitted.ensures c.admitted-2.ensures c.requires.few c.as_bytes-bytes.ensures.map,
)

pub returns-in_ok-with-in-Here : goal.returns-in_ok-with-in-Here
returns-in_ok-with-in-Here g c =
    c.behind-in-Here.ensures (insert_entry (key_cmp g.K.FarObject.enc) c.args.self.now c.args.key.now c.args.value.now)
    (with_here g.K.FarObject.enc g.V.FarObject.enc c.args.key.now c.args.value.now c.in-Here.start c.in-Here.field-1 c.in-Here.end c.count-count.result c.args.self.now c.as_bytes-bytes.result.now c.in_ok-with-in-Here.with.items c.as_bytes-bytes.ensures.is c.count-count.ensures (sym c.in-Here.is ∙ c.requires.located) c.in_ok-with-in-Here.ensures)
    (put_map g.K.FarObject.enc g.K.FarObject.admits g.V.FarObject.admits c.args.key.now c.args.value.now c.args.self.now c.admitted.ensures c.admitted-2.ensures c.requires.few c.as_bytes-bytes.ensures.map)
