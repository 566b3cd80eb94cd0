-- What the program did, from what its parts did.
use Rattle.std.proofs.Common.{◌≡◌, ℕ, Bool, true, List, Result, Ok, Err, subst}
use Rattle.std.specs.Prelude.{All, OnOk, IsTrue}
use Rattle.digests.specs.Collisions.{nothing_collided}
use Rattle.farcalls.specs.declared.session_run.SessionSettings.{SessionSettings}
use Rattle.farcalls.specs.declared.command_line.CommandLine.{CommandLine}
use Rattle.farcalls.specs.Runs.{End, is_served, AreTerms, IsServed, IsAskedFor, HasServed}

pub served : {T E : Type 0} (result : Result T E) (settings : SessionSettings) (left devices : ℕ) (honest : Bool) (ends : List End) (lost : ℕ) → left ≡ devices
    → AreTerms settings left honest ends lost → OnOk result (All (λ end. is_served end ≡ true) ends) → OnOk result (IsServed settings devices honest)
served (Err why) settings left devices honest ends lost left_is terms each = tt
served (Ok done) settings left devices honest ends lost left_is terms each = record {
  ends = ends;
  served = each;
  lost = lost;
  terms = subst (λ (n : ℕ). AreTerms settings n honest ends lost) left_is terms;
}

pub has_served : {T E : Type 0} (result : Result T E) (asked : CommandLine) (settings : SessionSettings) (devices : ℕ) (honest : Bool) → IsAskedFor asked settings → (IsTrue nothing_collided → IsTrue honest)
    → OnOk result (IsServed settings devices honest) → OnOk result (HasServed asked)
has_served (Err why) asked settings devices honest asked_for unless done = tt
has_served (Ok ok) asked settings devices honest asked_for unless done = record { settings = settings; asked_for = asked_for; devices = devices; honest = honest; unless_collided = unless; served = done }
