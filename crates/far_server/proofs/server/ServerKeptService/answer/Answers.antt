use Rattle.std.proofs.Common.{◌≡◌, ◌≢◌, ℕ, List, sym, ap, subst, ◌∙◌}
use Rattle.resp.specs.Parsing.{arguments_in}
use Rattle.far_server.specs.declared.connection.Connection.{Connection}
use Rattle.far_server.specs.Sessions.{Session}
use Rattle.far_server.specs.Answers.{Known, known_at, unknown, IsAdmission, IsAnswered}
use Rattle.far_server.proofs.Passing.{again}
use Rattle.far_server.proofs.server.ServerKeptService.answer.Goals as goal

pub returns-in-Ok : goal.returns-in-Ok
returns-in-Ok g c =
    let settings = c.args.self.now.context.now.settings.now in
    let e : Known = unknown settings.password in
    let n : ℕ = c.args.connection in
    let was : List (ℕ × Connection) = c.args.self.now.kept.connections.entries in
    let same = c.behind.ensures.connections ∙ c.tell.ensures.connections in
    let a = c.in-Ok.ensures.answered in
    let T : List (ℕ × Connection) → Type 0 = λ cs. IsAdmission (known_at was n e).is_authenticated (known_at cs n e).is_authenticated c.behind.result in
    let told = subst T (sym same) (c.behind.ensures.told _ _ (c.in-Ok.ensures.told e)) in
    let A : List (ℕ × Connection) → Session → Type 0 = λ cs s. IsAnswered g.S.Calls.limits settings.digest_keys settings.password settings.bounds (known_at was n e) (known_at cs n e) (arguments_in c.args.bytes.now c.args.spans.now) (g.S.Calls.shown c.args.self.now.me.now) s a.0 c.in-Ok.next in
    let C : List (ℕ × Connection) → Type 0 = λ cs. A cs (g.S.Calls.shown c.answer_at.new.me) in
    let S : Session → Type 0 = λ s. A c.behind.new.self.kept.connections.entries s in
    let answered_before = subst S (sym (ap g.S.Calls.shown (c.behind.ensures.session ∙ c.tell.ensures.session))) (subst C (sym same) (a.2 e)) in
    let answered = again g.S.Calls.limits settings.digest_keys settings.password settings.bounds (known_at was n e) (known_at c.behind.new.self.kept.connections.entries n e) (arguments_in c.args.bytes.now c.args.spans.now) (g.S.Calls.shown c.args.self.now.me.now) (g.S.Calls.shown c.behind.new.self.me.now) a.0 c.in-Ok.next c.behind.result c.behind.ensures.end answered_before in
    let others : (d : ℕ) → d ≢ n → known_at c.behind.new.self.kept.connections.entries d e ≡ known_at was d e = λ d other.
    let L : List (ℕ × Connection) → Type 0 = λ cs. known_at cs d e ≡ known_at was d e in
    subst L (sym same) (c.in-Ok.ensures.others d e other) in
    (a.0, (search, search, (answered, told, others)), a.1)
