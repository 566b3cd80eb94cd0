-- What a server did, from what its parts did.
use Rattle.std.proofs.Common.{◌≡◌, ℕ, Bool, true, List, [], ◌∷◌, ◌++◌, Result, Ok, Err, subst}
use Rattle.std.specs.Prelude.{All, OnOk, IsTrue}
use Rattle.digests.specs.Collisions.{nothing_collided}
use Rattle.far_server.specs.declared.settings.ServerSettings.{ServerSettings}
use Rattle.farserve.specs.declared.command_line.CommandLine.{CommandLine}
use Rattle.farserve.specs.Serving.{End, is_served, AreTerms, IsServed, IsAskedFor, HasServed}

pub served : {T E : Type 0} (result : Result T E) (settings : ServerSettings) (left devices : ℕ) (honest : Bool) (ends workers : List End) (sweep : End) (lost : ℕ) → left ≡ devices → ends ≡ workers ++ sweep ∷ []
    → AreTerms settings left honest ends lost → OnOk result (All (λ end. is_served end ≡ true) workers) → OnOk result (IsServed settings devices honest)
served (Err why) settings left devices honest ends workers sweep lost left_is ends_are terms each = tt
served (Ok done) settings left devices honest ends workers sweep lost left_is ends_are terms each = record {
  workers = workers;
  sweep = sweep;
  served = each;
  lost = lost;
  terms = subst (λ (all : List End). AreTerms settings devices honest all lost) ends_are (subst (λ (n : ℕ). AreTerms settings n honest ends lost) left_is terms);
}

pub has_served : {T E : Type 0} (result : Result T E) (asked : CommandLine) (settings : ServerSettings) (devices : ℕ) (honest : Bool) → IsAskedFor asked settings → (IsTrue nothing_collided → IsTrue honest)
    → OnOk result (IsServed settings devices honest) → OnOk result (HasServed asked)
has_served (Err why) asked settings devices honest asked_for unless done = tt
has_served (Ok ok) asked settings devices honest asked_for unless done = record { settings = settings; asked_for = asked_for; devices = devices; honest = honest; unless_collided = unless; served = done }
