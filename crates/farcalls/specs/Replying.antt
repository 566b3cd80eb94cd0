-- What is pushed of what a call returned.
use Rattle.std.specs.Prelude.{◌≡◌, ◌≢◌, ◌⊎◌, ℕ, true, List, [], ◌∷◌, ◌++◌, Option, Result, Ok, Err, MatchBool}
use Rattle.std.specs.List.{flat_map}
use Rattle.hash_table.specs.declared.removal.Removal.{Removal}
use Rattle.resp.specs.Replies.{Token, token}
use Rattle.far_map.specs.declared.refusal.MapRefusal.TheVariants as refusal
use Rattle.farcalls.specs.declared.refusal.Unanswered.{Unanswered}
use Rattle.farcalls.specs.declared.refusal.Unanswered.TheVariants as unanswered
use Rattle.farcalls.specs.Tokens.{value_token, flag_token, IsIfReply}

-- what was returned was pushed, as it is shown; or nothing was pushed, since an error was returned, or since there was no memory
abbrev pub IsPushed : {T : Type 0} → (T → Token) → Unanswered → Result T Unanswered → List ℕ → List ℕ → Result (Unit {0}) Unanswered → Type 0
IsPushed {T} shows unwritten called before after (Ok done) = (x : T) × (called ≡ Ok x) × (after ≡ before ++ flat_map token (shows x ∷ []))
IsPushed {T} shows unwritten called before after (Err why) = (after ≡ before) × ((called ≡ Err why) ⊎ ((x : T) × (called ≡ Ok x) × (why ≡ unwritten)))

-- the error if there is no memory for the reply to a conditional change, which was made or not
abbrev pub IsIfUnwritten : Option (List ℕ) → Option (List ℕ) → Unanswered → Type 0
IsIfUnwritten expected found why = ((found ≡ expected) × (why ≡ unanswered.Lost)) ⊎ ((found ≢ expected) × (why ≡ unanswered.Refused refusal.Memory))

-- the same of a conditional change of a key that was expected to have this value
abbrev pub IsPushedIf : Result (Option (List ℕ)) Unanswered → Option (List ℕ) → List ℕ → List ℕ → Result (Unit {0}) Unanswered → Type 0
IsPushedIf called expected before after (Ok done) = (found : Option (List ℕ)) × (called ≡ Ok found) × ((rs : List Token) × (after ≡ before ++ flat_map token rs) × IsIfReply expected found rs)
IsPushedIf called expected before after (Err why) = (after ≡ before) × ((called ≡ Err why) ⊎ ((found : Option (List ℕ)) × (called ≡ Ok found) × IsIfUnwritten expected found why))

-- the reply to a conditional removal
abbrev pub IsRemovalReply : Removal (List ℕ) → List Token → Type 0
IsRemovalReply removal rs = MatchBool removal.removed (rs ≡ flag_token true ∷ []) (rs ≡ value_token removal.found ∷ [])

abbrev pub IsRemovalUnwritten : Removal (List ℕ) → Unanswered → Type 0
IsRemovalUnwritten removal why = MatchBool removal.removed (why ≡ unanswered.Lost) (why ≡ unanswered.Refused refusal.Memory)

-- the same of a conditional removal
abbrev pub IsPushedRemoval : Result (Removal (List ℕ)) Unanswered → List ℕ → List ℕ → Result (Unit {0}) Unanswered → Type 0
IsPushedRemoval called before after (Ok done) = (removal : Removal (List ℕ)) × (called ≡ Ok removal) × ((rs : List Token) × (after ≡ before ++ flat_map token rs) × IsRemovalReply removal rs)
IsPushedRemoval called before after (Err why) = (after ≡ before) × ((called ≡ Err why) ⊎ ((removal : Removal (List ℕ)) × (called ≡ Ok removal) × IsRemovalUnwritten removal why))
