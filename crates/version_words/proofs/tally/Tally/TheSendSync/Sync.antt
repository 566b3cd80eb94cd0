use denote.Param.Send.{IsSync, whole-keyless}
use Rattle.version_words.specs.contracts.tally.Tally.{the_row}
use Rattle.version_words.proofs.Boards.{slot_keyless}

pub sync : IsSync the_row
sync = record { shared = λ d b o ν q. whole-keyless _ _ (λ x vs. ((λ vss. (tt, ((λ uss. (tt, tt)), tt))), slot_keyless x.board x.slot)) q d b o }
