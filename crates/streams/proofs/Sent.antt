-- A stream may go to another thread if its file may.
use denote.RattleType.{RattleType}
use denote.Param.Send.{IsSend, sendable}
use denote.Param.SendFields.{declared_send, FieldsHave}
use Rattle.streams.specs.contracts.reader.StreamReader as StreamReader
use Rattle.streams.specs.contracts.writer.StreamWriter as StreamWriter

pub reader_send : (F : RattleType) → IsSend F → IsSend (StreamReader.the_row F)
reader_send F file =
    let all : FieldsHave IsSend (StreamReader.the_type F).parts = (search (sendable, file), (search sendable, (search sendable, tt))) in
    declared_send (StreamReader.the_type F) all

pub writer_send : (F : RattleType) → IsSend F → IsSend (StreamWriter.the_row F)
writer_send F file =
    let all : FieldsHave IsSend (StreamWriter.the_type F).parts = (search (sendable, file), (search sendable, (search sendable, tt))) in
    declared_send (StreamWriter.the_type F) all
