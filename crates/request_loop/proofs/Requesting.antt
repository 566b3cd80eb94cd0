-- A request is taken.
use Rattle.std.proofs.Common.{◌≡◌, ℕ, ◌<◌, List, [], ◌∷◌, ◌++◌, length, refl, sym, ap, ◌∙◌, arith, append-nil, length-append, subst}
use Rattle.resp.specs.declared.limits.Limits.{Limits}
use Rattle.resp.specs.declared.place.Span.{Span}
use Rattle.resp.specs.Parsing.{arguments_in, IsFound}
use Rattle.resp.specs.Replies.{Token, token}
use Rattle.std.specs.List.{flat_map}
use Rattle.resp.specs.Requests.{Command, command, Array, Negative, Inline}
use Rattle.request_loop.specs.declared.service.Next.{Next}
use Rattle.request_loop.specs.declared.service.Next.TheVariants.{GoOn, WakeAll, End, LetIn, LetOut}
use Rattle.request_loop.specs.Calls.{Call, Asked, Answered, Passed}
use Rattle.request_loop.specs.Turns.{NextIs, TakesWhole}

command_some : (a : Command) → 0 < length (command a)
command_some (Array a) = omega arith
command_some (Negative n) = omega arith
command_some (Inline text) = omega (arith, length-append text (10 ∷ []))

next_is : (next : Next) (what : Command) (r : List Token) → NextIs next (Answered what r next)
next_is GoOn what r = λ e. (let none : ⊥ = cc in none)
next_is WakeAll what r = λ e. (let none : ⊥ = cc in none)
next_is LetIn what r = λ e. (let none : ⊥ = cc in none)
next_is LetOut what r = λ e. (let none : ⊥ = cc in none)
next_is End what r = refl

some_arguments : (bytes : List ℕ) (spans : List Span) → 0 < length spans → 0 < length (arguments_in bytes spans)
some_arguments bytes [] some = absurd (omega arith)
some_arguments bytes (s ∷ spans) some = omega arith

pub took_request : {X : Type 0} (does : X → Call → X → Type 0) (limits : Limits) (c : ℕ) (x y : X) (bytes : List ℕ) (spans : List Span) (n : ℕ) (next : Next) (r : List Token) (old out : List ℕ) → IsFound limits bytes spans n → 0 < length spans → does x (Asked c (arguments_in bytes spans) r next) y → out ≡ old ++ flat_map token r → TakesWhole does limits c x y bytes n next old out
took_request does limits c x y bytes spans n next r old out found some step is = record {
  what = Answered found.value r next;
  step = (let P : List (List ℕ) → Type 0 = λ l. does x (Asked c l r next) y in subst P found.arguments step);
  taken = (found.begins.may, omega (arith, ap length found.arguments, some_arguments bytes spans some));
  next_is = next_is next found.value r;
  rest = found.begins.rest;
  is = found.begins.is;
  long = found.begins.long;
  some = omega (arith, found.begins.long, command_some found.value);
  within = found.within;
  out_is = is;
}

pub passed_request : {X : Type 0} (does : X → Call → X → Type 0) (limits : Limits) (c : ℕ) (x : X) (bytes : List ℕ) (spans : List Span) (n : ℕ) (old : List ℕ) → IsFound limits bytes spans n → spans ≡ [] → TakesWhole does limits c x x bytes n GoOn old old
passed_request does limits c x bytes spans n old found none = record {
  what = Passed found.value;
  step = refl;
  taken = (found.begins.may, sym found.arguments ∙ ap (arguments_in bytes) none);
  next_is = tt;
  rest = found.begins.rest;
  is = found.begins.is;
  long = found.begins.long;
  some = omega (arith, found.begins.long, command_some found.value);
  within = found.within;
  out_is = sym (append-nil old);
}
