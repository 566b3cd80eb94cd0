use denote.Param.Send.{IsSync, sendable}
use denote.Struct.Struct.{Struct}
use denote.Struct.Owning.{shape}
use Rattle.version_words.specs.contracts.shut_right.Shut.{the_row, the_type}
use Rattle.version_words.proofs.Shutting.{shut_keyless}

pub sync : IsSync the_row
sync = let fields : IsSync (Struct (shape the_type)) = search sendable depth 20 in record { shared = λ d b o ν. (fields.shared (tt, tt) b o ν, shut_keyless d.book d.board d.key) }
