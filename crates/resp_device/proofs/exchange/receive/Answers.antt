use Rattle.std.proofs.Common.{ℕ, ◌≤◌, List, length, arith, ap, sym, subst, refl}
use Rattle.std.proofs.KnownBytes.{Consumes-nil, Consumes-trans}
use Rattle.std.specs.Io.KnownBytes.{Consumes}
use Rattle.resp.specs.Lines.{Lacks}
use Rattle.resp.specs.Replies.{Receives, token, IsTaken}
use Rattle.resp.specs.declared.tokens.Received.TheVariants.{Reply}
use Rattle.resp_device.proofs.Bounds.{length_lacking}
use Rattle.resp_device.proofs.Spelling.{whole}
use Rattle.resp_device.proofs.exchange.receive.Goals as goal

pub loop-round-init : goal.loop-round-init
loop-round-init g c =
    let a = g.R.Read.remaining c.args.input.now in
    let P : List ℕ → Type 0 = λ l. Consumes a a l in
    record {
      taken = subst P (sym {A = List ℕ} c.clear.ensures.items) (Consumes-nil a);
      bounded = omega (arith, ap (λ (l : List ℕ). length l) c.clear.ensures.items);
      piece = refl;
    }

pub loop-round-preserved : goal.loop-round-preserved
loop-round-preserved g c =
    let a = g.R.Read.remaining c.args.input.now in
    let b = g.R.Read.remaining c.loop-round.input in
    let d = g.R.Read.remaining c.take_some.new.input in
    let took = c.in_ok-take_some-in-Incomplete.ensures.taken in
    let P : List ℕ → Type 0 = λ l. Consumes a d l in
    let Q : List ℕ → Type 0 = λ l. Lacks token (IsTaken c.args.limits) l c.in-Incomplete.missing in
    let lacks = subst Q c.deref.ensures.value c.in-Incomplete.ensures.receives in
    let short = length_lacking c.args.limits c.loop-round.room.items c.in-Incomplete.missing (omega arith) (omega arith) lacks in
    record {
      taken = subst P (sym {A = List ℕ} took.1) (Consumes-trans a b d c.loop-round.room.items took.0 c.loop-round.invariant.taken took.2);
      bounded = omega (arith, short, c.take_some.ensures.grows, c.loop-round.invariant.piece);
      piece = omega (arith, c.loop-round.invariant.piece);
    }

pub returns-in-Reply-clause-whole : goal.returns-in-Reply-clause-whole
returns-in-Reply-clause-whole g c =
    let P : List ℕ → Type 0 = λ l. Receives c.args.limits l (Reply c.in-Reply.token c.in-Reply.consumed) in
    let short : length c.loop-round.room.items ≤ c.in-Reply.consumed = omega arith in
    whole c.args.limits c.loop-round.room.items c.in-Reply.token c.in-Reply.consumed (subst P c.deref.ensures.value c.in-Reply.ensures.receives) short

pub returns-in_err-take_some-in-Incomplete-clause-bounded : goal.returns-in_err-take_some-in-Incomplete-clause-bounded
returns-in_err-take_some-in-Incomplete-clause-bounded g c =
    let Q : List ℕ → Type 0 = λ l. Lacks token (IsTaken c.args.limits) l c.in-Incomplete.missing in
    let lacks = subst Q c.deref.ensures.value c.in-Incomplete.ensures.receives in
    let short = length_lacking c.args.limits c.loop-round.room.items c.in-Incomplete.missing (omega arith) (omega arith) lacks in
    omega (arith, short, c.take_some.ensures.grows, c.loop-round.invariant.piece)
