use Rattle.std.proofs.Common.{◌≡◌, ◌∷◌, [], ◌++◌, ℕ, List, Option, Some, refl, sym, ap, subst, ◌∙◌, inl, inr, rules, arith}
use Rattle.std.proofs.lemmas.Grind.{common_steps}
use Rattle.std.specs.Prelude.{unwrap_or, option_map}
use Rattle.std.specs.Ordering.{nat_cmp}
use Rattle.std.specs.Map.{lookup}
use Rattle.std.specs.BTreeMap.{is_at}
use Rattle.std.specs.List.{flat_map}
use Rattle.resp.specs.Replies.{Failure, token}
use Rattle.commands.specs.Arguments.{listed}
use Rattle.far_map.specs.declared.refusal.MapRefusal.TheVariants as refusal
use Rattle.request_loop.specs.declared.service.Next.TheVariants as behind
use Rattle.far_server.specs.declared.connection.Connection.{Connection}
use Rattle.far_server.specs.Refusing.{text_of}
use Rattle.far_server.specs.Answers.{Known, known, known_at, IsAnswered}
use Rattle.far_server.proofs.OneReply.{one}
use Rattle.far_server.proofs.Passing.{again}
use Rattle.far_server.proofs.connections.answer_at.Goals as goal

pub returns-in-Ok-clause-answered : goal.returns-in-Ok-clause-answered
returns-in-Ok-clause-answered g c =
    let p = c.in-Ok.ensures in
    let settings = c.args.context.now.settings.now in
    let n = c.args.number in
    let here = c.args.connections.now.entries in
    let there = (c.get_mut.follows.lender c.answer_request.new.connection).entries in
    let old = g.S.Calls.shown c.args.me.now in
    let new = g.S.Calls.shown c.answer_request.new.me in
    let words = listed c.args.request in
    let before = known c.in-Some.place.now in
    let after = known c.answer_request.new.connection in (
      p.0,
      p.1,
      λ e.
          let found : lookup (is_at (nat_cmp n)) here ≡ Some c.in-Some.place.now = sym c.in-Some.ensures.value in
          let was : known_at here n e ≡ before = ap (λ (o : Option Connection). unwrap_or (option_map known o) e) found in
          let is : known_at there n e ≡ after = first_of (search rules, first_of (grind (arith, common_steps, found), search (rules, found))) in
          let B : Known → Type 0 = λ k. IsAnswered g.S.Calls.limits settings.digest_keys settings.password settings.bounds k (known_at there n e) words old new p.0 c.turned.result in
          let A : Known → Type 0 = λ k. IsAnswered g.S.Calls.limits settings.digest_keys settings.password settings.bounds before k words old new p.0 c.turned.result in
          subst B (sym was) (subst A (sym is) (again g.S.Calls.limits settings.digest_keys settings.password settings.bounds before after words old new p.0 c.in-Ok.next c.turned.result c.turned.ensures.end p.2)),
    )

pub returns-in-Ok-push_one_failure-clause-answered : goal.returns-in-Ok-push_one_failure-clause-answered
returns-in-Ok-push_one_failure-clause-answered g c =
    let settings = c.args.context.now.settings.now in
    let n = c.args.number in
    let here = c.args.connections.now.entries in
    let session = g.S.Calls.shown c.args.me.now in
    let said = Failure (text_of refusal.Memory) in
    let same : c.get_mut.follows.lender-at-none.entries ≡ here = search in (
      said ∷ [],
      c.in-Ok-push_one_failure.ensures.exact ∙ ap (λ (t : List ℕ). c.args.reply.now.items ++ flat_map token (Failure t ∷ [])) c.text_of.ensures,
      λ e.
          let A : List (ℕ × Connection) → Type 0 = λ places. IsAnswered g.S.Calls.limits settings.digest_keys settings.password settings.bounds (known_at here n e) (known_at places n e) (listed c.args.request) session session (said ∷ []) behind.End in
          let answered : A here = record { one = one said refl; login = λ may. inl may; did = inl (refl, refl, refl, refl); closing = λ end. inr (inr refl) } in
          subst A (sym same) answered,
    )
