-- Who may ask.
use Rattle.std.specs.Prelude.{◌≡◌, ◌⊎◌, ◌<◌, ◌≤◌, ℕ, Bool, true, List, [], ◌∷◌, length, codes, Option, Some, None, ⊤}
use Rattle.sha2.specs.Sha256.{sha256}
use Rattle.commands.specs.declared.command.Command.{Command}
use Rattle.commands.specs.declared.command.Command.TheVariants as command
use Rattle.commands.specs.declared.server.ServerCommand.{ServerCommand}
use Rattle.commands.specs.declared.server.ServerCommand.TheVariants as server
use Rattle.commands.specs.declared.server.Login.{Login}
use Rattle.commands.specs.declared.server.Greeting.{Greeting}
use Rattle.resp.specs.Replies.{Token, Simple, Failure}
use Rattle.server_commands.specs.Greeting.{greeting}
use Rattle.far_map.specs.declared.refusal.MapRefusal.TheVariants as refusal
use Rattle.far_server.specs.Refusing.{text_of}
use Rattle.far_server.specs.Reads.{IsSpelled}

-- the word is the password of this digest; where no password is set any word will do
abbrev pub IsLogin : Option (List ℕ) → List ℕ → Type 0
IsLogin None word = ⊤
IsLogin (Some digest) word = sha256 word ≡ digest

abbrev pub IsRight : Option (List ℕ) → Option Login → Type 0
IsRight password None = ⊥
IsRight password (Some login) = IsLogin password login.password.now

-- a command that logs in, by the password
abbrev pub AsksToPass : Option (List ℕ) → ServerCommand → Type 0
AsksToPass password (server.Auth login) = IsLogin password login.password.now
AsksToPass password (server.Hello greeting) = IsRight password greeting.login
AsksToPass password c = ⊥

abbrev pub LogsIn : Option (List ℕ) → Command → Type 0
LogsIn password (command.Server c) = AsksToPass password c
LogsIn password c = ⊥

-- no password is set, or a request of these words logs in: by AUTH or HELLO, and by the password
abbrev pub HasLogin : Option (List ℕ) → List (List ℕ) → Type 0
HasLogin None words = ⊤
HasLogin (Some digest) words = (c : Command) × IsSpelled words c × LogsIn (Some digest) c

-- each of the words has at most as many bytes as one may have of a connection that has to log in first
abbrev pub AreShort : List (List ℕ) → Type 0
AreShort [] = ⊤
AreShort (word ∷ words) = (length word ≤ 16384) × AreShort words

-- one of them has more
abbrev pub HasLong : List (List ℕ) → Type 0
HasLong [] = ⊥
HasLong (word ∷ words) = (16384 < length word) ⊎ HasLong words

-- what a request of such a connection may have at most
abbrev pub IsModest : List (List ℕ) → Type 0
IsModest words = (length words ≤ 10) × AreShort words

-- it has more words, or a longer one, and this is said of it
abbrev pub Exceeds : List (List ℕ) → List ℕ → Type 0
Exceeds words text = ((10 < length words) × (text ≡ codes "ERR Protocol error: unauthenticated multibulk length"))
    ⊎ ((length words ≤ 10) × (HasLong words × (text ≡ codes "ERR Protocol error: unauthenticated bulk length")))

-- ---- what AUTH and HELLO reply

abbrev pub no_login : List ℕ
no_login = codes "NOAUTH Authentication required."

abbrev pub no_login_of_hello : List ℕ
no_login_of_hello = codes "NOAUTH HELLO must be called with the client already authenticated, otherwise the HELLO <proto> AUTH <user> <pass> option can be used to authenticate the client and select the RESP protocol version at the same time"

abbrev pub wrong_login : List ℕ
wrong_login = codes "WRONGPASS invalid username-password pair or user is disabled."

abbrev pub no_password : List ℕ
no_password = codes "ERR AUTH <password> called without any password configured for the default user. Are you sure your configuration is correct?"

abbrev pub long_name : List ℕ
long_name = codes "ERR Client names cannot be longer than 1024 bytes."

-- A client that might ask, or not, may ask now: the login is right, and the reply is OK. Or it may as before, and the reply is an error.
abbrev pub IsAuthReply : Option (List ℕ) → Login → Bool → Bool → List Token → Type 0
IsAuthReply password login might may rs =
    ((may ≡ true) × IsLogin password login.password.now × (rs ≡ Simple (codes "OK") ∷ []))
    ⊎ ((may ≡ might) × ((rs ≡ Failure wrong_login ∷ []) ⊎ (rs ≡ Failure no_password ∷ [])))

-- why HELLO is refused: a wrong login, none, a name that is too long, or memory that was refused
abbrev pub IsHelloRefusal : List ℕ → Type 0
IsHelloRefusal text = (text ≡ wrong_login) ⊎ ((text ≡ no_login_of_hello) ⊎ ((text ≡ long_name) ⊎ (text ≡ text_of refusal.Memory)))

-- who may ask is greeted, or HELLO is refused
abbrev pub IsGreeted : Bool → List Token → Type 0
IsGreeted may rs = ((may ≡ true) × ((id : ℕ) × (rs ≡ greeting id))) ⊎ ((text : List ℕ) × IsHelloRefusal text × (rs ≡ Failure text ∷ []))

-- a client may ask after HELLO as before, or the login is right
abbrev pub IsHelloReply : Option (List ℕ) → Greeting → Bool → Bool → List Token → Type 0
IsHelloReply password hello might may rs = ((may ≡ might) ⊎ ((may ≡ true) × IsRight password hello.login)) × IsGreeted may rs
