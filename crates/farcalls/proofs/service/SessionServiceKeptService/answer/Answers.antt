use Rattle.std.proofs.Common.{sym, subst, ◌∙◌}
use Rattle.resp.specs.Parsing.{arguments_in}
use Rattle.farcalls.specs.Answers.{IsAnswered}
use Rattle.farcalls.proofs.service.SessionServiceKeptService.answer.Goals as goal

pub returns-in-Ok : goal.returns-in-Ok
returns-in-Ok g c =
    let a = c.in-Ok.ensures in
    let me = c.args.self.now in
    let A : g.row.S.Denot → Type 0 = λ m. IsAnswered g.S.Calls.limits me.context.now.settings.now.is_far (arguments_in c.args.bytes.now c.args.spans.now) (g.S.Calls.shown me.me.now) (g.S.Calls.shown m) a.0 in
    (a.0, (c.behind.ensures.same_reference, c.behind.ensures.context, (subst A (sym c.behind.ensures.session) a.2, c.behind.ensures.goes_on)), a.1)
