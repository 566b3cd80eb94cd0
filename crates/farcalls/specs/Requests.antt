-- Requests, and the words that spell them.
use Rattle.std.specs.Prelude.{◌≡◌, ◌≢◌, ◌⊎◌, ◌<◌, ◌^◌, ℕ, pos, List, [], ◌∷◌, length, codes, ⊤}
use Rattle.std.specs.Fmt.{signed_decimal}
use Rattle.std.specs.List.{AllByRecursion}
use Rattle.commands.specs.Arguments.{listed}
use Rattle.farcalls.specs.declared.name.Name.{Name}
use Rattle.farcalls.specs.declared.name.Name.TheVariants as name
use Rattle.farcalls.specs.declared.request.Request.{Request}
use Rattle.farcalls.specs.declared.request.Request.TheVariants as request

abbrev pub text_of : Name → List ℕ
text_of name.Get = codes "GET"
text_of name.GetMany = codes "MGET"
text_of name.Contains = codes "HAS"
text_of name.Put = codes "PUT"
text_of name.Set = codes "SET"
text_of name.PutIf = codes "PUTIF"
text_of name.PutNew = codes "PUTNEW"
text_of name.Remove = codes "REMOVE"
text_of name.Take = codes "TAKE"
text_of name.RemoveIf = codes "REMOVEIF"
text_of name.Pairs = codes "PAIRS"
text_of name.Length = codes "LEN"
text_of name.Stats = codes "STATS"
text_of name.Evict = codes "EVICT"

abbrev pub every_name : List Name
every_name = name.Get ∷ name.GetMany ∷ name.Contains ∷ name.Put ∷ name.Set ∷ name.PutIf ∷ name.PutNew ∷ name.Remove ∷ name.Take ∷ name.RemoveIf ∷ name.Pairs ∷ name.Length ∷ name.Stats ∷ name.Evict ∷ []

-- the word is no name
abbrev pub IsNoName : List ℕ → Type 0
IsNoName word = AllByRecursion (λ n. word ≢ text_of n) every_name

-- a request of this name may have these arguments
abbrev pub IsCounted : Name → List (List ℕ) → Type 0
IsCounted name.Get rest = length rest ≡ 1
IsCounted name.GetMany rest = ⊤
IsCounted name.Contains rest = length rest ≡ 1
IsCounted name.Put rest = length rest ≡ 2
IsCounted name.Set rest = length rest ≡ 2
IsCounted name.PutIf rest = length rest ≡ 3
IsCounted name.PutNew rest = length rest ≡ 2
IsCounted name.Remove rest = length rest ≡ 1
IsCounted name.Take rest = length rest ≡ 1
IsCounted name.RemoveIf rest = length rest ≡ 2
IsCounted name.Pairs rest = (bucket : ℕ) × (bucket < 2 ^ 32) × (rest ≡ signed_decimal (pos bucket) ∷ [])
IsCounted name.Length rest = rest ≡ []
IsCounted name.Stats rest = rest ≡ []
IsCounted name.Evict rest = rest ≡ []

-- the words spell no request
abbrev pub IsUnread : List (List ℕ) → Type 0
IsUnread [] = ⊤
IsUnread (word ∷ rest) = IsNoName word ⊎ ((n : Name) × (word ≡ text_of n) × (IsCounted n rest → ⊥))

-- a request of this name, with these arguments
abbrev pub name_of : Request → Name
name_of (request.Get k) = name.Get
name_of (request.GetMany ks) = name.GetMany
name_of (request.Contains k) = name.Contains
name_of (request.Put k v) = name.Put
name_of (request.Set k v) = name.Set
name_of (request.PutIf k e v) = name.PutIf
name_of (request.PutNew k v) = name.PutNew
name_of (request.Remove k) = name.Remove
name_of (request.Take k) = name.Take
name_of (request.RemoveIf k e) = name.RemoveIf
name_of (request.Pairs from) = name.Pairs
name_of request.Length = name.Length
name_of request.Stats = name.Stats
name_of request.Evict = name.Evict

abbrev pub arguments_of : Request → List (List ℕ)
arguments_of (request.Get k) = k.now ∷ []
arguments_of (request.GetMany ks) = listed ks
arguments_of (request.Contains k) = k.now ∷ []
arguments_of (request.Put k v) = k.now ∷ v.now ∷ []
arguments_of (request.Set k v) = k.now ∷ v.now ∷ []
arguments_of (request.PutIf k e v) = k.now ∷ e.now ∷ v.now ∷ []
arguments_of (request.PutNew k v) = k.now ∷ v.now ∷ []
arguments_of (request.Remove k) = k.now ∷ []
arguments_of (request.Take k) = k.now ∷ []
arguments_of (request.RemoveIf k e) = k.now ∷ e.now ∷ []
arguments_of (request.Pairs from) = signed_decimal (pos from) ∷ []
arguments_of request.Length = []
arguments_of request.Stats = []
arguments_of request.Evict = []

-- the words spell this request
abbrev pub Spells : List (List ℕ) → Request → Type 0
Spells words r = words ≡ text_of (name_of r) ∷ arguments_of r
