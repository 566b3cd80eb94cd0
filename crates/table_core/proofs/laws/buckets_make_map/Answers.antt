use Rattle.std.proofs.lemmas.List.Sorted.{IsPermutation-trans}
use Rattle.table_core.specs.Maps.{map_of}
use Rattle.table_core.proofs.Keys.{rising}
use Rattle.table_core.proofs.Gathering.{joined_is, sorted_is}
use Rattle.table_core.proofs.laws.buckets_make_map.Goals as goal

pub returns : goal.returns
returns g c = λ calls buckets es some moved up.
    let ek = g.K.FarObject.enc in
    let m = map_of ek g.V.FarObject.enc calls in
    sorted_is ek m es (rising ek g.V.FarObject.enc calls) (IsPermutation-trans _ _ _ (joined_is ek buckets m some) moved) up
