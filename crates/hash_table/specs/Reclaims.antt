-- What only an answer of `reclaim` tells. Both facts are opaque: who promises one has had `reclaim` answer it, or cites its lemma below. The lemmas are for the proof of `reclaim` alone. The kit lets no crate keep a lemma on its own definition to itself, so a reader of another crate's proofs looks that they don't cite them
use Rattle.version_words.specs.Views.{SpareView}

-- the spare was handed in, whatever came of it
pub WasTried : {K V : Type 0} → SpareView K V → Type 0
WasTried s = Unit {0}

-- what the spare names was removed, or was not there: the spare was handed in and did not come back
pub IsReclaimed : {K V : Type 0} → SpareView K V → Type 0
IsReclaimed s = Unit {0}

pub was_tried : {K V : Type 0} (s : SpareView K V) → WasTried s
unfolding WasTried
was_tried s = tt

pub was_reclaimed : {K V : Type 0} (s : SpareView K V) → IsReclaimed s
unfolding IsReclaimed
was_reclaimed s = tt
