-- What commands are spelled like.
use Rattle.std.specs.Prelude.{◌≡◌, ℕ, ◌<◌, ◌%◌, ◌^◌, ℤ, pos, negsuc, neg_ℤ, List, [], ◌∷◌, length, map, Option, MatchOption, decimal}
use Rattle.std.specs.Fmt.{signed_decimal}
use Rattle.std.specs.Char.{to_ascii_lowercase}
use Rattle.commands.specs.declared.command.Command.{Command}
use Rattle.commands.specs.declared.command.Command.TheVariants as command
use Rattle.commands.specs.declared.name.Name.{Name}
use Rattle.commands.specs.declared.name.Name.TheVariants as names
use Rattle.commands.specs.declared.name.OfNumber.{OfNumber}
use Rattle.commands.specs.declared.name.OfNumber.TheVariants as of_number
use Rattle.commands.specs.declared.name.Special.{Special}
use Rattle.commands.specs.declared.name.Special.TheVariants as special
use Rattle.commands.specs.declared.arguments.Arguments.{Arguments}
use Rattle.commands.specs.declared.command.Change.{Change}
use Rattle.commands.specs.declared.command.Lifetime.{Lifetime}
use Rattle.commands.specs.declared.command.Only.{Only}
use Rattle.commands.specs.declared.time.Clock.{Clock}
use Rattle.commands.specs.declared.time.Clock.TheVariants as clocks
use Rattle.commands.specs.Arguments.{listed}
use Rattle.commands.specs.Options.{IsDeadline, IsChange, IsTimedChange, IsLifetimeBy, AreOnly, everywhere}
use denote.Ref.{Bor}
use Rattle.commands.specs.Names.{text_of}
use Rattle.commands.specs.Servers.{IsAsked, IsCountedServer}

-- ---- which command it is, and what is said of its parts

abbrev pub IsSet : (Bor (List ℕ) → Bor (List ℕ) → Change → Type 0) → Command → Type 0
IsSet P (command.Set key value change) = P key value change
IsSet P c = ⊥

abbrev pub IsGetEx : (Bor (List ℕ) → Lifetime → Type 0) → Command → Type 0
IsGetEx P (command.GetEx key lifetime) = P key lifetime
IsGetEx P c = ⊥

abbrev pub IsGetRange : (Bor (List ℕ) → ℤ → ℤ → Type 0) → Command → Type 0
IsGetRange P (command.GetRange key first last) = P key first last
IsGetRange P c = ⊥

abbrev pub IsSetRange : (Bor (List ℕ) → ℕ → Bor (List ℕ) → Type 0) → Command → Type 0
IsSetRange P (command.SetRange key offset value) = P key offset value
IsSetRange P c = ⊥

abbrev pub IsAdd : (Bor (List ℕ) → ℤ → Type 0) → Command → Type 0
IsAdd P (command.Add key by) = P key by
IsAdd P c = ⊥

abbrev pub IsAddFloat : (Bor (List ℕ) → Bor (List ℕ) → Type 0) → Command → Type 0
IsAddFloat P (command.AddFloat key by) = P key by
IsAddFloat P c = ⊥

abbrev pub IsSetMany : (Arguments → Type 0) → Command → Type 0
IsSetMany P (command.SetMany pairs) = P pairs
IsSetMany P c = ⊥

abbrev pub IsExpire : (Bor (List ℕ) → ℕ → Only → Type 0) → Command → Type 0
IsExpire P (command.Expire key deadline only) = P key deadline only
IsExpire P c = ⊥

abbrev pub IsPing : (Option (Bor (List ℕ)) → Type 0) → Command → Type 0
IsPing P (command.Ping text) = P text
IsPing P c = ⊥

abbrev pub IsEcho : (Bor (List ℕ) → Type 0) → Command → Type 0
IsEcho P (command.Echo text) = P text
IsEcho P c = ⊥

abbrev pub IsQuit : Command → Type 0
IsQuit command.Quit = Unit {0}
IsQuit c = ⊥

-- a deadline, and where it is set, by a number that this clock counts, and by options
abbrev pub IsExpireBy : ℕ → Clock → List (List ℕ) → Command → Type 0
IsExpireBy now clock rest c = IsExpire (λ key deadline only. (amount : ℤ) × (words : List (List ℕ)) × (rest ≡ key.now ∷ signed_decimal amount ∷ words)
    × IsDeadline now clock amount deadline × AreOnly words everywhere only) c

-- what the arguments of each command are, at a time in milliseconds since 1970
abbrev pub IsSpecial : ℕ → Special → List (List ℕ) → Command → Type 0
IsSpecial now special.Set rest c = IsSet (λ key value change. (words : List (List ℕ)) × (rest ≡ key.now ∷ value.now ∷ words) × IsChange now words change) c
IsSpecial now special.GetEx rest c = IsGetEx (λ key lifetime. (words : List (List ℕ)) × (rest ≡ key.now ∷ words) × IsLifetimeBy now words lifetime) c
IsSpecial now special.SetEx rest c = IsSet (λ key value change. (time : List ℕ) × (rest ≡ key.now ∷ time ∷ value.now ∷ []) × IsTimedChange now clocks.Seconds time change) c
IsSpecial now special.PSetEx rest c = IsSet (λ key value change. (time : List ℕ) × (rest ≡ key.now ∷ time ∷ value.now ∷ []) × IsTimedChange now clocks.Milliseconds time change) c
IsSpecial now special.GetRange rest c = IsGetRange (λ key first last. rest ≡ key.now ∷ signed_decimal first ∷ signed_decimal last ∷ []) c
IsSpecial now special.SetRange rest c = IsSetRange (λ key offset value. rest ≡ key.now ∷ decimal offset ∷ value.now ∷ []) c
IsSpecial now special.Incr rest c = IsAdd (λ key by. (rest ≡ key.now ∷ []) × (by ≡ pos 1)) c
IsSpecial now special.Decr rest c = IsAdd (λ key by. (rest ≡ key.now ∷ []) × (by ≡ negsuc 0)) c
IsSpecial now special.DecrBy rest c = IsAdd (λ key by. (less : ℤ) × (rest ≡ key.now ∷ signed_decimal less ∷ []) × (by ≡ neg_ℤ less)) c
IsSpecial now special.IncrByFloat rest c = IsAddFloat (λ key by. rest ≡ key.now ∷ by.now ∷ []) c
IsSpecial now special.MSet rest c = IsSetMany (λ pairs. (listed pairs ≡ rest) × (0 < length rest) × (length rest % 2 ≡ 0)) c
IsSpecial now special.Expire rest c = IsExpireBy now clocks.Seconds rest c
IsSpecial now special.PExpire rest c = IsExpireBy now clocks.Milliseconds rest c
IsSpecial now special.ExpireAt rest c = IsExpireBy now clocks.UnixSeconds rest c
IsSpecial now special.PExpireAt rest c = IsExpireBy now clocks.UnixMilliseconds rest c
IsSpecial now special.Ping rest c = IsPing (λ text. MatchOption text (length rest ≡ 0) (λ t. rest ≡ t.now ∷ [])) c
IsSpecial now special.Echo rest c = IsEcho (λ text. rest ≡ text.now ∷ []) c
IsSpecial now special.Quit rest c = IsQuit c

-- a number that a command on a key and a number takes: any, or one bit's offset
abbrev pub IsNumber : OfNumber → ℤ → Type 0
IsNumber of_number.IncrBy number = Unit {0}
IsNumber of_number.GetBit number = (offset : ℕ) × (number ≡ pos offset) × (offset < 2 ^ 32)

-- the arguments after a name spell the command: of those that take nothing, a key, keys, a key and a value, or a key and a number
abbrev pub IsSpelt : ℕ → Name → List (List ℕ) → Command → Type 0
IsSpelt now (names.Nothing of) rest (command.Nothing is) = (is ≡ of) × (length rest ≡ 0)
IsSpelt now (names.Key of) rest (command.Key is key) = (is ≡ of) × (rest ≡ key.now ∷ [])
IsSpelt now (names.Keys of) rest (command.Keys is keys) = (is ≡ of) × (listed keys ≡ rest) × (0 < length rest)
IsSpelt now (names.Pair of) rest (command.Pair is key value) = (is ≡ of) × (rest ≡ key.now ∷ value.now ∷ [])
IsSpelt now (names.Number of) rest (command.Number is key number) = (is ≡ of) × (rest ≡ key.now ∷ signed_decimal number ∷ []) × IsNumber of number
IsSpelt now (names.Special of) rest c = IsSpecial now of rest c
IsSpelt now (names.Server of) rest (command.Server c) = IsAsked of rest c
IsSpelt now n rest c = ⊥

-- there are as many arguments as a command takes of which any will do
abbrev pub IsCountedSpecial : Special → List (List ℕ) → Type 0
IsCountedSpecial special.Set rest = length rest ≡ 2
IsCountedSpecial special.GetEx rest = length rest ≡ 1
IsCountedSpecial special.Incr rest = length rest ≡ 1
IsCountedSpecial special.Decr rest = length rest ≡ 1
IsCountedSpecial special.IncrByFloat rest = length rest ≡ 2
IsCountedSpecial special.MSet rest = (0 < length rest) × (length rest % 2 ≡ 0)
IsCountedSpecial special.Ping rest = length rest < 2
IsCountedSpecial special.Echo rest = length rest ≡ 1
IsCountedSpecial special.Quit rest = Unit {0}
IsCountedSpecial of rest = ⊥

abbrev pub IsCounted : Name → List (List ℕ) → Type 0
IsCounted (names.Nothing of) rest = length rest ≡ 0
IsCounted (names.Key of) rest = length rest ≡ 1
IsCounted (names.Keys of) rest = 0 < length rest
IsCounted (names.Pair of) rest = length rest ≡ 2
IsCounted (names.Number of) rest = ⊥
IsCounted (names.Special of) rest = IsCountedSpecial of rest
IsCounted (names.Server of) rest = IsCountedServer of rest

-- the first of all arguments is a name, in any case, and the others spell the command at this time
pub record Spells (now : ℕ) (arguments : List (List ℕ)) (c : Command) : Type 0 where
  pub name : Name
  pub first : List ℕ
  pub rest : List (List ℕ)
  pub are : arguments ≡ first ∷ rest
  pub named : map to_ascii_lowercase first ≡ text_of name
  pub spelt : IsSpelt now name rest c
