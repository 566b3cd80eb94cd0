-- What came on a connection, and what has to be sent on it.
use Rattle.std.specs.Prelude.{◌≡◌, ℕ, ◌+◌, ◌<◌, ◌≤◌, ◌==◌, if◌then◌else◌, Bool, true, List, [], ◌∷◌, ◌++◌, length, map, slice_index, ◌⊎◌, codes}
use Rattle.resp.specs.declared.limits.Limits.{Limits}
use Rattle.resp.specs.Lines.{Lacks, Spoilt}
use Rattle.resp.specs.Requests.{command, IsAdmitted, longest}
use Rattle.resp.specs.declared.outcome.ParseFault.{ParseFault}
use Rattle.resp.specs.declared.outcome.ParseFault.TheVariants.{ArrayLength, Mark, StringLength, StringEnd, LongLine, Quote, Control}
use Rattle.resp.specs.Parsing.{IsCause}
use Rattle.resp.specs.Replies.{token, Failure}
use Rattle.request_loop.specs.declared.packet.Head.{Head}
use Rattle.request_loop.specs.declared.packet.Kind.{Kind}
use Rattle.request_loop.specs.declared.packet.Kind.TheVariants.{Data, Open, Close, Wake, LetIn, LetOut, Note, Holds}
use Rattle.request_loop.specs.Marks.{Mark as Said, Piece, Stop, Else, said, is_stopped, EndsOnce}
use Rattle.request_loop.specs.Calls.{Exchange, asked, replied, AreTaken, AllGoOn, IsLast}

pub record Packet : Type 0 where
  pub head : Head
  pub bytes : List ℕ

abbrev pub mark_of : Kind → ℕ → List ℕ → Said ℕ
mark_of Data c bytes = Piece c bytes
mark_of Open c bytes = Else
mark_of Close c bytes = Stop c
mark_of Wake c bytes = Else
mark_of LetIn c bytes = Else
mark_of LetOut c bytes = Else
mark_of Note c bytes = Else
mark_of Holds c bytes = Else

abbrev pub packet_mark : Packet → Said ℕ
packet_mark f = mark_of f.head.kind f.head.connection f.bytes

abbrev pub marks : List Packet → List (Said ℕ)
marks packets = map packet_mark packets

-- a byte in an error: one that would end the error's line is a blank there
abbrev pub shown_byte : ℕ → ℕ
shown_byte byte = if byte == 13 then 32 else (if byte == 10 then 32 else byte)

-- the text for a fault, found at this byte
abbrev pub fault_text : ParseFault → ℕ → List ℕ
fault_text ArrayLength byte = codes "ERR Protocol error: invalid multibulk length"
fault_text Mark byte = codes "ERR Protocol error: expected '$', got '" ++ (shown_byte byte ∷ codes "'")
fault_text StringLength byte = codes "ERR Protocol error: invalid bulk length"
fault_text StringEnd byte = codes "ERR Protocol error: expected CR LF"
fault_text LongLine byte = codes "ERR Protocol error: too big inline request"
fault_text Quote byte = codes "ERR Protocol error: unbalanced quotes in request"
fault_text Control byte = codes "ERR Protocol error: control character in request"

-- the error where bytes are no request's at this place
abbrev pub protocol_error : List ℕ → ℕ → ParseFault → List ℕ
protocol_error bytes at fault = token (Failure (fault_text fault (slice_index bytes at)))

-- No whole request stands at the front of what is held: it has the beginning of one, and fewer bytes behind that than it
-- lacks at least. Once so many bytes are there as are wanted, it is looked at again.
pub record IsBegun (limits : Limits) (held : List ℕ) (wanted : ℕ) : Type 0 where
  pub begun : List ℕ
  pub more : List ℕ
  pub is : held ≡ begun ++ more
  pub missing : ℕ
  pub lacks : Lacks command (IsAdmitted limits) begun missing
  pub wanted_is : wanted ≡ length begun + missing
  pub bounded : wanted ≤ longest limits
  pub few : length held < wanted

-- the bytes that came are those of the requests, and then the beginning of another; what was sent are the replies
pub record IsOpen (limits : Limits) (came sent : List ℕ) (es : List Exchange) (held : List ℕ) (wanted : ℕ) : Type 0 where
  pub is : came ≡ asked es ++ held
  pub each : AreTaken limits es
  pub go_on : AllGoOn es
  pub begun : IsBegun limits held wanted
  pub sent_is : sent ≡ replied es

-- the bytes that came are those of the requests, then some that are no request's, and some that were not read; what was
-- sent are the replies, and an error
pub record IsBroken (limits : Limits) (came sent : List ℕ) (es : List Exchange) : Type 0 where
  pub rest : List ℕ
  pub behind : List ℕ
  pub is : came ≡ asked es ++ (rest ++ behind)
  pub each : AreTaken limits es
  pub go_on : AllGoOn es
  pub at : ℕ
  pub spoilt : Spoilt command (IsAdmitted limits) rest at
  pub fault : ParseFault
  pub cause : IsCause limits rest at fault
  pub sent_is : sent ≡ replied es ++ protocol_error rest at fault

-- the connection ends behind the last request: of the bytes behind it none was read; what was sent are the replies
pub record IsEnded (limits : Limits) (came sent : List ℕ) (es : List Exchange) : Type 0 where
  pub rest : List ℕ
  pub is : came ≡ asked es ++ rest
  pub each : AreTaken limits es
  pub before : List Exchange
  pub last : Exchange
  pub es_is : es ≡ before ++ last ∷ []
  pub go_on : AllGoOn before
  pub is_last : IsLast last
  pub sent_is : sent ≡ replied es

-- The worker gave the connection up. The bytes that came are those of the requests, and then some that were not kept: at least one,
-- unless no request was taken. What was sent are the replies to all requests that the service was asked.
-- A worker does so where memory is refused, which no contract can see. So a worker that gives a connection up without need meets this too,
-- before its first request or while bytes of it wait: that none does is tested. One that skips a reply does not, nor one that gives a
-- connection up once all that came of it is answered.
pub record IsShed (limits : Limits) (came sent : List ℕ) (es : List Exchange) : Type 0 where
  pub rest : List ℕ
  pub is : came ≡ asked es ++ rest
  pub each : AreTaken limits es
  pub go_on : AllGoOn es
  pub lost : (0 < length rest) ⊎ (es ≡ [])
  pub sent_is : sent ≡ replied es

abbrev pub IsOver : Limits → List ℕ → List ℕ → List Exchange → Type 0
IsOver limits came sent es = IsBroken limits came sent es ⊎ (IsEnded limits came sent es ⊎ IsShed limits came sent es)

-- No reply is owed on a connection. The worker has closed it if it is over, and else just if the client has.
abbrev pub IsSettledBy : Limits → Bool → Bool → List ℕ → List ℕ → List Exchange → Type 0
IsSettledBy limits came_stopped sent_stopped came sent es =
    ((held : List ℕ) × (wanted : ℕ) × IsOpen limits came sent es held wanted × (sent_stopped ≡ came_stopped))
    ⊎ (IsOver limits came sent es × (sent_stopped ≡ true))

-- the same of connection c, from packets that came and that were sent; nothing was sent on it behind the worker's close
abbrev pub IsSettledAt : Limits → ℕ → List (Said ℕ) → List (Said ℕ) → List Exchange → Type 0
IsSettledAt limits c came sent es = IsSettledBy limits (is_stopped c came) (is_stopped c sent) (said c came) (said c sent) es × EndsOnce c sent

abbrev pub AreSettled : Limits → List Packet → List Packet → Type 0
AreSettled limits came sent = (c : ℕ) → (es : List Exchange) × IsSettledAt limits c (marks came) (marks sent) es
