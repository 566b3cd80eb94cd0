use denote.Param.Send.{IsSend}
use Rattle.version_words.specs.contracts.tally.Tally.{the_row}
use Rattle.version_words.proofs.Boards.{slot_keyless}

pub send : IsSend the_row
send = record { owned = λ d vs. ((λ vss. (tt, ((λ uss. (tt, tt)), tt))), slot_keyless d.board d.slot); leaving = λ k f vs. tt }
