-- What commands to the server itself are spelled like.
use Rattle.std.specs.Prelude.{◌≡◌, ◌⊎◌, ℕ, ◌<◌, ◌≤◌, List, [], ◌∷◌, ◌++◌, length, map, All, Option, None, Some, IsSome, IfSome, decimal, codes}
use Rattle.std.specs.Char.{to_ascii_lowercase}
use Rattle.commands.specs.declared.server.ServerCommand.{ServerCommand}
use Rattle.commands.specs.declared.server.ServerCommand.TheVariants as server
use Rattle.commands.specs.declared.server.ClientInfo.{ClientInfo}
use Rattle.commands.specs.declared.server.ClientInfo.TheVariants.{LibraryName, LibraryVersion}
use Rattle.commands.specs.declared.server.Login.{Login}
use Rattle.commands.specs.declared.server.Greeting.{Greeting}
use Rattle.commands.specs.declared.server.Scan.{Scan}
use Rattle.commands.specs.declared.server_name.OfServer.{OfServer}
use Rattle.commands.specs.declared.server_name.OfServer.TheVariants as of_server
use Rattle.commands.specs.Arguments.{listed}
use denote.Ref.{Bor}

-- a word of this text, in any case, and behind it just these arguments
pub record IsPart (text : List ℕ) (behind arguments : List (List ℕ)) : Type 0 where
  pub word : List ℕ
  pub named : map to_ascii_lowercase word ≡ text
  pub are : arguments ≡ word ∷ behind

-- a word of this text stands somewhere, and right behind it these arguments
pub record IsOption (text : List ℕ) (values arguments : List (List ℕ)) : Type 0 where
  pub before : List (List ℕ)
  pub word : List ℕ
  pub after : List (List ℕ)
  pub named : map to_ascii_lowercase word ≡ text
  pub are : arguments ≡ before ++ word ∷ (values ++ after)

-- a name has bytes from `!` to `~` alone
abbrev pub IsPlainName : List ℕ → Type 0
IsPlainName name = All (λ c. (33 ≤ c) × (c ≤ 126)) name

abbrev pub words_of : Option (Bor (List ℕ)) → List ℕ → List (List ℕ)
words_of None password = password ∷ []
words_of (Some user) password = user.now ∷ password ∷ []

abbrev pub credentials : Login → List (List ℕ)
credentials login = words_of login.user login.password.now

pub record IsGreeting (words : List (List ℕ)) (greeting : Greeting) : Type 0 where
  pub login : IfSome greeting.login (λ l. IsSome l.user × IsOption (codes "auth") (credentials l) words)
  pub name : IfSome greeting.name (λ n. IsPlainName n.now × IsOption (codes "setname") (n.now ∷ []) words)

-- an option is what stands in the words
pub record IsScan (words : List (List ℕ)) (scan : Scan) : Type 0 where
  pub pattern : IfSome scan.pattern (λ p. IsOption (codes "match") (p.now ∷ []) words)
  pub count : (scan.count ≡ 10) ⊎ IsOption (codes "count") (decimal scan.count ∷ []) words
  pub counted : 0 < scan.count

abbrev pub info_text : ClientInfo → List ℕ
info_text LibraryName = codes "lib-name"
info_text LibraryVersion = codes "lib-ver"

-- how many entries SLOWLOG GET asks for: as many as the number says, 10 without one, and all by -1
abbrev pub AreEntries : List (List ℕ) → Option ℕ → Type 0
AreEntries behind (Some most) = ((behind ≡ []) × (most ≡ 10)) ⊎ (behind ≡ decimal most ∷ [])
AreEntries behind None = behind ≡ codes "-1" ∷ []

-- the arguments behind the name of a command to the server spell it
abbrev pub IsAsked : OfServer → List (List ℕ) → ServerCommand → Type 0
IsAsked of args (server.Auth login) = (of ≡ of_server.Auth) × (args ≡ credentials login)
IsAsked of args (server.Hello greeting) = (of ≡ of_server.Hello) × ((args ≡ []) ⊎ ((words : List (List ℕ)) × (args ≡ decimal 2 ∷ words) × IsGreeting words greeting))
IsAsked of args (server.Select index) = (of ≡ of_server.Select) × (args ≡ index.now ∷ [])
IsAsked of args server.ClientId = (of ≡ of_server.Client) × IsPart (codes "id") [] args
IsAsked of args server.ClientGetName = (of ≡ of_server.Client) × IsPart (codes "getname") [] args
IsAsked of args (server.ClientSetName name) = (of ≡ of_server.Client) × IsPlainName name.now × IsPart (codes "setname") (name.now ∷ []) args
IsAsked of args (server.ClientSetInfo info value) = (of ≡ of_server.Client) × IsPlainName value.now × ((word : List ℕ) × (map to_ascii_lowercase word ≡ info_text info) × IsPart (codes "setinfo") (word ∷ value.now ∷ []) args)
IsAsked of args server.ClientNoEvictOff = (of ≡ of_server.Client) × ((word : List ℕ) × (map to_ascii_lowercase word ≡ codes "off") × IsPart (codes "no-evict") (word ∷ []) args)
IsAsked of args server.CommandList = (of ≡ of_server.Command) × (args ≡ [])
IsAsked of args server.CommandCount = (of ≡ of_server.Command) × IsPart (codes "count") [] args
IsAsked of args (server.CommandDocs names) = (of ≡ of_server.Command) × IsPart (codes "docs") (listed names) args
IsAsked of args (server.ConfigGet patterns) = (of ≡ of_server.Config) × (0 < length (listed patterns)) × IsPart (codes "get") (listed patterns) args
IsAsked of args server.SlowLogLen = (of ≡ of_server.SlowLog) × IsPart (codes "len") [] args
IsAsked of args (server.SlowLogGet most) = (of ≡ of_server.SlowLog) × ((behind : List (List ℕ)) × AreEntries behind most × IsPart (codes "get") behind args)
IsAsked of args server.SlowLogReset = (of ≡ of_server.SlowLog) × IsPart (codes "reset") [] args
IsAsked of args (server.Info sections) = (of ≡ of_server.Info) × (listed sections ≡ args)
IsAsked of args (server.Scan scan) = (of ≡ of_server.Scan) × ((words : List (List ℕ)) × (args ≡ decimal scan.cursor ∷ words) × IsScan words scan)
IsAsked of args server.FlushAll = (of ≡ of_server.FlushAll) × (length args < 2)
IsAsked of args server.FlushDb = (of ≡ of_server.FlushDb) × (length args < 2)

-- there are as many arguments as a command takes of which any will do
abbrev pub IsCountedServer : OfServer → List (List ℕ) → Type 0
IsCountedServer of_server.Auth args = (0 < length args) × (length args < 3)
IsCountedServer of_server.Hello args = length args ≡ 0
IsCountedServer of_server.Select args = length args ≡ 1
IsCountedServer of_server.Command args = length args ≡ 0
IsCountedServer of_server.Info args = Unit {0}
IsCountedServer of_server.FlushAll args = length args ≡ 0
IsCountedServer of_server.FlushDb args = length args ≡ 0
IsCountedServer of args = ⊥
