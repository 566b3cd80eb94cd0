use Rattle.std.proofs.Common.{length, ap, sym, ◌∙◌, arith}
use Rattle.far_object.specs.Objects.{cut}
use Rattle.far_object.specs.Buckets.{key_cmp}
use Rattle.far_object.proofs.Putting.{here_bounds, cut_gap, without_here, cut_map}
use Rattle.far_object.proofs.object.Object.without_at.Goals as goal

pub without_part-requires-clause-head : goal.without_part-requires-clause-head
without_part-requires-clause-head g c = (here_bounds g.K.FarObject.enc g.V.FarObject.enc c.args.key.now c.in-Here.start c.in-Here.field-1 c.in-Here.end c.args.self.now (sym (sym c.in-Here.is ∙ c.requires.located))).0

pub without_part-requires-clause-order : goal.without_part-requires-clause-order
without_part-requires-clause-order g c = (here_bounds g.K.FarObject.enc g.V.FarObject.enc c.args.key.now c.in-Here.start c.in-Here.field-1 c.in-Here.end c.args.self.now (sym (sym c.in-Here.is ∙ c.requires.located))).1

pub without_part-requires-clause-within : goal.without_part-requires-clause-within
without_part-requires-clause-within g c =
    let b = (here_bounds g.K.FarObject.enc g.V.FarObject.enc c.args.key.now c.in-Here.start c.in-Here.field-1 c.in-Here.end c.args.self.now (sym (sym c.in-Here.is ∙ c.requires.located))).2 in
    let l = ap length c.as_bytes-bytes.ensures.is in
    omega (arith, b, l)

pub behind-requires-in-Here-clause-object : goal.behind-requires-in-Here-clause-object
behind-requires-in-Here-clause-object g c = (
  cut (key_cmp g.K.FarObject.enc) c.args.key.now c.args.self.now,
  without_here g.K.FarObject.enc g.V.FarObject.enc c.args.key.now c.in-Here.start c.in-Here.field-1 c.in-Here.end c.count-count.result c.args.self.now c.as_bytes-bytes.result.now c.in_ok-rest-in-Here.rest.items c.as_bytes-bytes.ensures.map.rising c.as_bytes-bytes.ensures.is c.count-count.ensures (sym c.in-Here.is ∙ c.requires.located) c.in_ok-rest-in-Here.ensures,
  cut_map g.K.FarObject.enc g.K.FarObject.admits g.V.FarObject.admits c.args.key.now c.args.self.now c.as_bytes-bytes.ensures.map,
)

pub returns-in_ok-same-in-Gap : goal.returns-in_ok-same-in-Gap
returns-in_ok-same-in-Gap g c =
    c.behind.ensures c.args.self.now (c.in_ok-same-in-Gap.ensures ∙ c.as_bytes-bytes.ensures.is) c.as_bytes-bytes.ensures.map ∙ sym (cut_gap g.K.FarObject.enc g.V.FarObject.enc c.args.key.now c.in-Gap.field-0 c.args.self.now (sym (sym c.in-Gap.is ∙ c.requires.located)) c.as_bytes-bytes.ensures.map.rising)

pub returns-in_ok-rest-in-Here : goal.returns-in_ok-rest-in-Here
returns-in_ok-rest-in-Here g c =
    c.behind-in-Here.ensures (cut (key_cmp g.K.FarObject.enc) c.args.key.now c.args.self.now)
    (without_here g.K.FarObject.enc g.V.FarObject.enc c.args.key.now c.in-Here.start c.in-Here.field-1 c.in-Here.end c.count-count.result c.args.self.now c.as_bytes-bytes.result.now c.in_ok-rest-in-Here.rest.items c.as_bytes-bytes.ensures.map.rising c.as_bytes-bytes.ensures.is c.count-count.ensures (sym c.in-Here.is ∙ c.requires.located) c.in_ok-rest-in-Here.ensures)
    (cut_map g.K.FarObject.enc g.K.FarObject.admits g.V.FarObject.admits c.args.key.now c.args.self.now c.as_bytes-bytes.ensures.map)
