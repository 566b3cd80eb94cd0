-- Patterns, and the texts that they match.
use Rattle.std.specs.Prelude.{◌≡◌, ◌≢◌, ℕ, suc, zero, ◌<◌, ◌≤◌, ◌==◌, ◌&&◌, ◌||◌, not, nat_le, min, max, Bool, true, false, if◌then◌else◌, List, [], ◌∷◌, length, drop}
use Rattle.commands.specs.declared.pattern.Member.{Member as Read}
use Rattle.commands.specs.declared.pattern.Member.TheVariants.{End as ReadEnd, Bytes as ReadBytes}
use Rattle.commands.specs.declared.pattern.Way.{Way}
use Rattle.commands.specs.declared.pattern.Way.TheVariants.{Whole, Stuck, Star as AtStar}

-- ---- a class, behind its `[` or `[^`

-- what it has first: its end, or the bytes from one to another, with both, which so many bytes spell and one more
pub data Member : Type 0 where
  End : Member
  Bytes : (first last width : ℕ) → Member

-- behind a `\`, which stands for itself where nothing follows
abbrev pub escaped : List ℕ → Member
escaped [] = Bytes 92 92 0
escaped (b ∷ behind) = Bytes b b 1

-- a byte that is a range's end too, where a `-` and another byte follow
abbrev pub plain : ℕ → List ℕ → Member
plain a [] = Bytes a a 0
plain a (dash ∷ []) = Bytes a a 0
plain a (dash ∷ b ∷ behind) = if dash == 45 then Bytes (min a b) (max a b) 2 else Bytes a a 0

abbrev pub member : ℕ → List ℕ → Member
member a behind = if a == 93 then End else (if a == 92 then escaped behind else plain a behind)

abbrev pub is_between : ℕ → ℕ → ℕ → Bool
is_between first last c = nat_le first c && nat_le c last

abbrev pub has : Member → (ℕ → Bool) → ℕ → Bool
has End more c = false
has (Bytes first last width) more c = is_between first last c || more width

abbrev pub after : Member → List ℕ → (ℕ → List ℕ) → List ℕ
after End behind more = behind
after (Bytes first last width) behind more = more width

-- whether the class has the byte, behind so many bytes that are passed over
abbrev pub in_class : ℕ → List ℕ → ℕ → Bool
in_class skip [] c = false
in_class (suc skip) (a ∷ class) c = in_class skip class c
in_class zero (a ∷ class) c = has (member a class) (λ skip. in_class skip class c) c

-- what stands behind the class; nothing, where it has no end
abbrev pub behind_class : ℕ → List ℕ → List ℕ
behind_class skip [] = []
behind_class (suc skip) (a ∷ class) = behind_class skip class
behind_class zero (a ∷ class) = after (member a class) class (λ skip. behind_class skip class)

-- ---- the first part of a pattern, which is no `*`: `?`, a class, `\` and a byte, or a byte

abbrev pub class_takes : List ℕ → ℕ → Bool
class_takes [] c = false
class_takes (a ∷ class) c = if a == 94 then not (in_class 0 class c) else in_class 0 (a ∷ class) c

abbrev pub escape_takes : List ℕ → ℕ → Bool
escape_takes [] c = 92 == c
escape_takes (b ∷ behind) c = b == c

abbrev pub takes : List ℕ → ℕ → Bool
takes [] c = false
takes (a ∷ behind) c = if a == 63 then true else (if a == 91 then class_takes behind c else (if a == 92 then escape_takes behind c else a == c))

abbrev pub behind_brackets : List ℕ → List ℕ
behind_brackets [] = []
behind_brackets (a ∷ class) = if a == 94 then behind_class 0 class else behind_class 0 (a ∷ class)

abbrev pub behind_part : List ℕ → List ℕ
behind_part [] = []
behind_part (a ∷ behind) = if a == 63 then behind else (if a == 91 then behind_brackets behind else (if a == 92 then drop 1 behind else behind))

-- ---- the whole

-- a pattern that begins with a part that takes one byte
abbrev pub IsOne : List ℕ → Type 0
IsOne [] = ⊥
IsOne (a ∷ behind) = a ≢ 42

-- a pattern matches a text: both are over; or it begins with a `*`, which takes some bytes; or its first part takes one
pub data Matches : List ℕ → List ℕ → Type 0 where
  Over : {pattern text : List ℕ} → pattern ≡ [] → text ≡ [] → Matches pattern text
  Many : {pattern text : List ℕ} (behind : List ℕ) → pattern ≡ 42 ∷ behind → (taken : ℕ) → taken ≤ length text → Matches behind (drop taken text) → Matches pattern text
  One : {pattern text : List ℕ} (rest : List ℕ) (c : ℕ) → IsOne pattern → text ≡ c ∷ rest → takes pattern c ≡ true → Matches (behind_part pattern) rest → Matches pattern text

-- ---- what functions answer

abbrev pub IsMember : List ℕ → Read → Type 0
IsMember class (ReadEnd behind) = ((c : ℕ) → in_class 0 class c ≡ false) × (behind_class 0 class ≡ behind.now)
IsMember class (ReadBytes first last behind) = ((c : ℕ) → in_class 0 class c ≡ (is_between first last c || in_class 0 behind.now c)) × (behind_class 0 class ≡ behind_class 0 behind.now) × (length behind.now < length class)

-- parts that take one byte each lead from a pattern and a text on to what is left of both
pub data Leads : ℕ → List ℕ → List ℕ → List ℕ → List ℕ → Type 0 where
  Stay : {pattern text : List ℕ} → Leads 0 pattern text pattern text
  Go : {n : ℕ} {pattern text left right : List ℕ} (rest : List ℕ) (c : ℕ) → IsOne pattern → text ≡ c ∷ rest → takes pattern c ≡ true → Leads n (behind_part pattern) rest left right → Leads (suc n) pattern text left right

-- how far a pattern goes along
abbrev pub IsWay : List ℕ → List ℕ → Way → Type 0
IsWay pattern text Whole = Matches pattern text
IsWay pattern text Stuck = ¬ (Matches pattern text)
IsWay pattern text (AtStar behind rest) = ((n : ℕ) × Leads n pattern text (42 ∷ behind.now) rest.now) × (length behind.now < length pattern) × (length rest.now ≤ length text)
