use Rattle.std.proofs.Common.{◌<◌, ℕ, List, length, get_or, arith, refl, sym, subst}
use Rattle.resp.specs.Requests.{bulk, IsShortOf}
use Rattle.resp.specs.Replies.{token, IsTaken}
use Rattle.resp.specs.Replies.{String}
use Rattle.resp.proofs.Commands.{two_first, two_taken}
use Rattle.resp.proofs.Marks.{only_string}
use Rattle.resp.proofs.Outcomes.{Only, kind_lacks, kind_spoilt}
use Rattle.resp.proofs.Receiving.{bulk_later}
use Rattle.resp.proofs.tokens.string_at.Goals as goal

pub returns-in-Short : goal.returns-in-Short
returns-in-Short c =
    let bytes = c.args.bytes.now in
    let limits = c.args.limits in
    let r = two_first bytes 36 (get_or bytes 1 0) c.requires.some c.requires.marked refl in
    let O : List ℕ → Type 0 = Only bulk (IsShortOf limits.bytes) token (IsTaken limits) in
    kind_lacks bulk (IsShortOf limits.bytes) token (IsTaken limits) String (λ x h. refl) (λ x h. h) bytes c.in-Short.missing (subst O (sym r.1) (only_string limits (get_or bytes 1 0) r.0 c.requires.plain)) c.in-Short.ensures.0

pub returns-in-Bad : goal.returns-in-Bad
returns-in-Bad c =
    let bytes = c.args.bytes.now in
    let limits = c.args.limits in
    let at = c.in-Bad.at in
    let some : 0 < length bytes = omega (arith, c.requires.some) in
    let r = two_taken bytes 36 (get_or bytes 1 0) at c.requires.some (bulk_later limits.bytes at bytes some c.requires.marked c.in-Bad.ensures.0) c.requires.marked refl in
    let O : List ℕ → Type 0 = Only bulk (IsShortOf limits.bytes) token (IsTaken limits) in
    kind_spoilt bulk (IsShortOf limits.bytes) token (IsTaken limits) String (λ x h. refl) (λ x h. h) bytes at (subst O (sym r.1) (only_string limits (get_or bytes 1 0) r.0 c.requires.plain)) c.in-Bad.ensures.0
