use Rattle.std.proofs.Common.{ℕ, List, [], ◌∷◌, ◌++◌, Option, Ok, Err, sym, ap, subst, ◌∙◌, inr, arith}
use Rattle.std.proofs.lemmas.List.{length-append}
use Rattle.table_core.specs.declared.operation.Operation.TheVariants.{Get}
use Rattle.far_map.specs.Many.{AreGot}
use Rattle.far_map.proofs.Several.{next_done, got_more, called_from}
use Rattle.far_map.proofs.session.Session.copy_many.Goals as goal

pub returns-in-Err-clause-got : goal.returns-in-Err-clause-got
returns-in-Err-clause-got g c =
    let inv = c.loop-key.invariant in
    let same = c.bring_next.ensures.same in
    inr (record {
      before = inv.0;
      key = c.in-Some.key.now;
      behind = c.in-Some.behind.now;
      answers = c.loop-key.answers.items;
      mid = c.loop-key.self;
      keys_are = inv.1 ∙ ap (λ (ks : List (List ℕ)). inv.0 ++ ks) c.in-Some.ensures.cases.0;
      got = inv.4;
      refused = called_from g.V.FarObject.enc g.J.Naming.limits c.loop-key.self c.bring_next.new.self c.copy.new.self (Get c.in-Some.key.now) (Err c.in-Err.refusal) c.bring_next.ensures.goes same.0 same.1
          (record { answers = c.in-Err.ensures.answers; counts = c.in-Err.ensures.counts });
    })

pub loop-key-preserved : goal.loop-key-preserved
loop-key-preserved g c =
    let inv = c.loop-key.invariant in
    let same = c.bring_next.ensures.same in
    let k = c.in-Some.key.now in
    let pushed = c.in-Ok-push.ensures in
    let called = called_from g.V.FarObject.enc g.J.Naming.limits c.loop-key.self c.bring_next.new.self c.copy.new.self (Get k) (Ok c.in-Ok-copy.answer) c.bring_next.ensures.goes same.0 same.1
    (record { answers = c.in-Ok-copy.ensures.answers; counts = c.in-Ok-copy.ensures.counts }) in
    let more = got_more g.V.FarObject.enc g.J.Naming.limits inv.0 k c.loop-key.answers.items c.in-Ok-copy.answer c.args.self.now c.loop-key.self c.copy.new.self inv.4 called in (
      inv.0 ++ k ∷ [],
      next_done c.args.keys.now inv.0 c.loop-key.rest.now c.in-Some.behind.now k inv.1 c.in-Some.ensures.cases.0,
      omega (arith, inv.2, pushed.len, length-append inv.0 (k ∷ [])),
      omega (arith, inv.3, pushed.capacity),
      subst (λ (xs : List (Option _)). AreGot g.V.FarObject.enc g.J.Naming.limits (inv.0 ++ k ∷ []) xs c.args.self.now c.copy.new.self) (sym pushed.items) more,
    )
