use denote.Param.Send.{IsSend}
use Rattle.version_words.specs.contracts.shut_right.Shut.{the_row}
use Rattle.version_words.proofs.Shutting.{shut_keyless}

pub send : IsSend the_row
send = record { owned = λ d vs. ((λ vss. (tt, ((λ uss. (tt, tt)), tt))), shut_keyless d.book d.board d.key); leaving = λ k f vs. tt }
