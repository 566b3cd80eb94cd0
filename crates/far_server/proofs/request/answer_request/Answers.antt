use Rattle.std.proofs.Common.{◌≡◌, Bool, true, false, MatchBool, Result, refl, sym, subst, inl, inr}
use Rattle.commands.specs.Arguments.{listed}
use Rattle.commands.specs.declared.command.Command.{Command}
use Rattle.commands.specs.declared.fault.CommandFault.{CommandFault}
use Rattle.far_server.specs.Reads.{IsReadAt}
use Rattle.far_server.specs.Answers.{known, IsServed, IsGated}
use Rattle.far_server.proofs.Pushed.{if_ok}
use Rattle.far_server.proofs.OneReply.{served, gated}
use Rattle.far_server.proofs.request.answer_request.Goals as goal

pub returns-in-Ok : goal.returns-in-Ok
returns-in-Ok g c =
    let p = c.in-Ok.ensures in
    let l = g.S.Calls.limits in
    let settings = c.args.context.now.settings.now in
    let before = known c.args.connection.now in
    let after = known c.answer_authenticated.new.connection in
    let words = listed c.args.request in
    let old = g.S.Calls.shown c.args.me.now in
    let new = g.S.Calls.shown c.answer_authenticated.new.me in
    let may : c.args.connection.now.is_authenticated ≡ true = search in
    let D : Bool → Type 0 = λ b. MatchBool b (IsServed l settings.digest_keys settings.bounds settings.password before after words old new p.0) ((old ≡ new) × IsGated settings.password before after words p.0) in
    let R : Result Command CommandFault → Type 0 = λ asked. IsReadAt c.milliseconds-now.result words asked in (
      p.0,
      p.1,
      record {
        one = served l settings.digest_keys settings.bounds settings.password before after words old new p.0 p.2;
        login = λ may_now. inl may;
        did = inr (subst D (sym may) p.2);
        closing = λ end. inl (c.milliseconds-now.result, subst R (c.next_behind-next.ensures end) c.read_request-asked.ensures);
      },
    )

pub returns-else-connection : goal.returns-else-connection
returns-else-connection g c =
    let l = g.S.Calls.limits in
    let settings = c.args.context.now.settings.now in
    let before = known c.args.connection.now in
    let after = known c.answer_unknown.new.connection in
    let words = listed c.args.request in
    let old = g.S.Calls.shown c.args.me.now in
    let may_not : c.args.connection.now.is_authenticated ≡ false = search in
    if_ok c.answer_unknown.result (λ next p.
    let D : Bool → Type 0 = λ b. MatchBool b (IsServed l settings.digest_keys settings.bounds settings.password before after words old old p.0) ((old ≡ old) × IsGated settings.password before after words p.0) in (
      p.0,
      p.1,
      record {
        one = gated settings.password before after words p.0 p.2;
        login = c.answer_unknown.ensures.login;
        did = inr (subst D (sym may_not) (refl, p.2));
        closing = p.3;
      },
    )) c.answer_unknown.ensures.gated
