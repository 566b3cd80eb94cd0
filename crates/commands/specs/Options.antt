-- What the options of SET, GETEX and EXPIRE say, word by word, and the times among them.
use Rattle.std.specs.Prelude.{◌≡◌, ◌≢◌, ◌⊎◌, ◌<◌, ℕ, ℤ, pos, true, false, List, [], ◌∷◌, map, codes, Option, Some, None}
use Rattle.std.specs.Fmt.{signed_decimal}
use Rattle.std.specs.Char.{to_ascii_lowercase}
use Rattle.commands.specs.declared.command.Change.{Change}
use Rattle.commands.specs.declared.command.Where.TheVariants as places
use Rattle.commands.specs.declared.command.Lifetime.{Lifetime}
use Rattle.commands.specs.declared.command.Lifetime.TheVariants as lifetime
use Rattle.commands.specs.declared.command.Only.{Only}
use Rattle.commands.specs.declared.options.Optioned.{Optioned}
use Rattle.commands.specs.declared.options.Optioned.TheVariants as optioned
use Rattle.commands.specs.declared.options.Given.{Given}
use Rattle.commands.specs.declared.options.Given.TheVariants as given
use Rattle.commands.specs.declared.options.Options.{Options}
use Rattle.commands.specs.declared.time.Clock.{Clock}
use Rattle.commands.specs.declared.time.Clock.TheVariants as clocks
use Rattle.commands.specs.Times.{IsTime, when, deadline_at}
use denote.Ref.{Bor}

-- ---- times

-- a number of what the clock counts is this deadline, at a time in milliseconds since 1970
abbrev pub IsDeadline : ℕ → Clock → ℤ → ℕ → Type 0
IsDeadline now clock amount deadline = IsTime (record { amount = amount; clock = clock }) now × (deadline ≡ deadline_at (when (record { amount = amount; clock = clock }) now))

-- a word spells such a number, above zero
abbrev pub IsFuture : ℕ → Clock → List ℕ → ℕ → Type 0
IsFuture now clock word deadline = (amount : ℕ) × (word ≡ signed_decimal (pos amount)) × (0 < amount) × IsDeadline now clock (pos amount) deadline

-- the option whose number the clock counts
abbrev pub clock_text : Clock → List ℕ
clock_text clocks.Seconds = codes "ex"
clock_text clocks.Milliseconds = codes "px"
clock_text clocks.UnixSeconds = codes "exat"
clock_text clocks.UnixMilliseconds = codes "pxat"

-- ---- the options of SET and GETEX

-- an option of the deadline may follow the same option, and no other
abbrev pub Fits : Option Given → Given → Type 0
Fits None new = Unit {0}
Fits (Some given.Keep) given.Keep = Unit {0}
Fits (Some given.Forever) given.Forever = Unit {0}
Fits (Some (given.Until before amount)) (given.Until clock other) = before ≡ clock
Fits old new = ⊥

-- the options say this of the deadline now
abbrev pub IsLasting : Options → Given → Options → Type 0
IsLasting s new t = Fits s.lifetime new × (t ≡ record s { lifetime = Some new })

-- an option of one word, in lower case: NX, XX, GET and KEEPTTL of SET, and PERSIST of GETEX
abbrev pub IsWord : Optioned → List ℕ → Options → Options → Type 0
IsWord optioned.Set word s t =
    ((word ≡ codes "nx") × (s.to ≢ places.Present) × (t ≡ record s { to = places.Absent }))
    ⊎ (((word ≡ codes "xx") × (s.to ≢ places.Absent) × (t ≡ record s { to = places.Present }))
    ⊎ (((word ≡ codes "get") × (t ≡ record s { get = true }))
    ⊎ ((word ≡ codes "keepttl") × IsLasting s given.Keep t)))
IsWord optioned.GetEx word s t = (word ≡ codes "persist") × IsLasting s given.Forever t

-- an option of two words: EX, PX, EXAT or PXAT, and a number
abbrev pub IsTimed : List ℕ → List ℕ → Options → Options → Type 0
IsTimed word number s t = (clock : Clock) × (amount : Bor (List ℕ)) × (map to_ascii_lowercase word ≡ clock_text clock) × (amount.now ≡ number) × IsLasting s (given.Until clock amount) t

-- the words lead from what was said to this
abbrev pub AreOptions : Optioned → List (List ℕ) → Options → Options → Type 0
AreOptions of [] s t = s ≡ t
AreOptions of (word ∷ []) s t = IsWord of (map to_ascii_lowercase word) s t
AreOptions of (word ∷ number ∷ words) s t =
    ((u : Options) × IsWord of (map to_ascii_lowercase word) s u × AreOptions of (number ∷ words) u t)
    ⊎ ((u : Options) × IsTimed word number s u × AreOptions of words u t)

-- before the first word
abbrev pub nothing_said : Options
nothing_said = record { to = places.Always; get = false; lifetime = None }

-- what becomes of the deadline, by what was said of it, and otherwise this
abbrev pub IsLifetime : ℕ → Option Given → Lifetime → Lifetime → Type 0
IsLifetime now None other l = l ≡ other
IsLifetime now (Some given.Keep) other l = l ≡ lifetime.Keep
IsLifetime now (Some given.Forever) other l = l ≡ lifetime.Forever
IsLifetime now (Some (given.Until clock amount)) other l = (deadline : ℕ) × (l ≡ lifetime.Until deadline) × IsFuture now clock amount.now deadline

-- what SET does besides writing the value, by these options: without any it writes always, and the value has no deadline
abbrev pub IsChange : ℕ → List (List ℕ) → Change → Type 0
IsChange now words change = (said : Options) × AreOptions optioned.Set words nothing_said said × (change.to ≡ said.to) × (change.get ≡ said.get) × IsLifetime now said.lifetime lifetime.Forever change.lifetime

-- what SETEX and PSETEX do besides writing the value
abbrev pub IsTimedChange : ℕ → Clock → List ℕ → Change → Type 0
IsTimedChange now clock number change = (change.to ≡ places.Always) × (change.get ≡ false) × ((deadline : ℕ) × (change.lifetime ≡ lifetime.Until deadline) × IsFuture now clock number deadline)

-- what GETEX does with the deadline, by these options: without any it stays
abbrev pub IsLifetimeBy : ℕ → List (List ℕ) → Lifetime → Type 0
IsLifetimeBy now words l = (said : Options) × AreOptions optioned.GetEx words nothing_said said × IsLifetime now said.lifetime lifetime.Keep l

-- ---- the options of EXPIRE

abbrev pub IsOnly : List ℕ → Only → Only → Type 0
IsOnly word s t =
    ((word ≡ codes "nx") × (t ≡ record s { absent = true }))
    ⊎ (((word ≡ codes "xx") × (t ≡ record s { present = true }))
    ⊎ (((word ≡ codes "gt") × (t ≡ record s { later = true }))
    ⊎ ((word ≡ codes "lt") × (t ≡ record s { earlier = true }))))

-- the words lead from what was said to this
abbrev pub AreOnly : List (List ℕ) → Only → Only → Type 0
AreOnly [] s t = s ≡ t
AreOnly (word ∷ words) s t = (u : Only) × IsOnly (map to_ascii_lowercase word) s u × AreOnly words u t

-- without options a deadline is set everywhere
abbrev pub everywhere : Only
everywhere = record { absent = false; present = false; later = false; earlier = false }
