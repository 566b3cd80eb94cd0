use Rattle.std.proofs.Common.{◌≡◌, ◌<◌, ◌≤◌, ℕ, Option, Some, ap, sym, ◌∙◌, arith, subst}
use Rattle.std.specs.Option.{option_map}
use Rattle.std.proofs.lemmas.Result.{err_from_is_err_and}
use Rattle.far_object.specs.Buckets.{bucket}
use Rattle.table_core.specs.Lent.{lent}
use Rattle.table_core.specs.Logs.{passes_of}
use Rattle.table_core.specs.Maps.{key_of}
use Rattle.table_core.specs.Lawful.{MayFollow, widest}
use Rattle.table_core.specs.Machines.{buckets_of, Breaks}
use Rattle.table_core.specs.declared.event.Event.TheVariants.{Done}
use Rattle.table_core.specs.declared.fault.Rule.TheVariants.{WrongContents}
use Rattle.table_core.proofs.Judging.{unfit, left_ok, left_err, changed_ok, changed_err, placed_err}
use Rattle.table_core.proofs.machine.Machine.judge_done.Goals as goal
use Rattle.table_core.proofs.machine.Machine.judge_done.Goals.{in-None, in-Some+in_ok-new-in-Some+then-is_changed, in-Some+in_ok-new-in-Some+else-is_changed}

pub returns-in_err-new-in-Some-clause-err : goal.returns-in_err-new-in-Some-clause-err
returns-in_err-new-in-Some-clause-err g c =
    let ek = g.K.FarObject.enc in
    let here : c.bucket-bucket.result ≡ bucket ek (buckets_of c.args.self.now) (key_of (lent c.args.asked.now)) = c.bucket-bucket.ensures.is ∙ ap (λ (k : g.row.K.Denot). bucket ek (buckets_of c.args.self.now) k) c.key.ensures in
    let p = err_from_is_err_and c.from_residual.result c.from_residual.ensures.1 in
    rw (p.1, p.2)
    (λ log s.
    let count = c.passes.ensures log s in
    unfit ek g.V.FarObject.enc c.args.self.now log s (Done c.args.pass (lent c.args.asked.now) c.args.word) c.bucket-bucket.result c.in-Some.word
    (ap (λ (o : Option ℕ). option_map (λ w. (bucket ek (buckets_of c.args.self.now) (key_of (lent c.args.asked.now)), w)) o) c.in-Some.is ∙ ap (λ b. Some (b, c.in-Some.word)) (sym here))
    c.bucket-bucket.ensures.within c.in_err-new-in-Some.field-0.0 (omega arith, omega arith) tt c.in_err-new-in-Some.ensures.err)

pub returns-then-fits-clause-ok : goal.returns-then-fits-clause-ok
returns-then-fits-clause-ok g c = λ log s.
    let ek = g.K.FarObject.enc in
    let op = lent c.args.asked.now in
    let here : c.bucket-bucket.result ≡ bucket ek (buckets_of c.args.self.now) (key_of (lent c.args.asked.now)) = c.bucket-bucket.ensures.is ∙ ap (λ (k : g.row.K.Denot). bucket ek (buckets_of c.args.self.now) k) c.key.ensures in
    let count = c.passes.ensures log s in
    let low : 0 < c.args.pass = omega arith in
    let high : c.args.pass ≤ passes_of log = omega arith in
    elim c.match-word.branch [
      | in-None w ↦
          left_ok ek g.V.FarObject.enc c.args.self.now log s op c.bucket-bucket.result here c.bucket-bucket.ensures.within c.standing-old.result.now c.standing-old.ensures c.effect-effect.result c.effect-effect.ensures
          c.args.pass (low, high) w.is_left-fits.result c.args.word w.in-None.is w.is_left-fits.ensures (sym w.fits-is ∙ c.if-fits.true)
      | in-Some+in_ok-new-in-Some+then-is_changed w ↦
          subst (λ (o : Option ℕ). MayFollow ek g.V.FarObject.enc (widest (buckets_of c.args.self.now)) log (Done c.args.pass op o)) (sym w.in-Some.is)
          (changed_ok ek g.V.FarObject.enc c.args.self.now log s op c.bucket-bucket.result here c.bucket-bucket.ensures.within c.standing-old.result.now c.standing-old.ensures c.effect-effect.result c.effect-effect.ensures
          c.args.pass (low, high) w.in-Some.word w.in_ok-new-in-Some.new.now w.in_ok-new-in-Some.ensures.ok w.is_changed.result w.is_placed.result w.is_changed.ensures w.if-is_changed.true w.is_placed.ensures
          (sym w.fits-is ∙ c.if-fits.true))
      | in-Some+in_ok-new-in-Some+else-is_changed w ↦ absurd (cc (w.fits-is, c.if-fits.true))
    ]

pub returns-else-fits-clause-err : goal.returns-else-fits-clause-err
returns-else-fits-clause-err g c = λ log s.
    let ek = g.K.FarObject.enc in
    let op = lent c.args.asked.now in
    let here : c.bucket-bucket.result ≡ bucket ek (buckets_of c.args.self.now) (key_of (lent c.args.asked.now)) = c.bucket-bucket.ensures.is ∙ ap (λ (k : g.row.K.Denot). bucket ek (buckets_of c.args.self.now) k) c.key.ensures in
    let count = c.passes.ensures log s in
    let low : 0 < c.args.pass = omega arith in
    let high : c.args.pass ≤ passes_of log = omega arith in
    elim c.match-word.branch [
      | in-None w ↦
          left_err ek g.V.FarObject.enc c.args.self.now log s op c.bucket-bucket.result here c.bucket-bucket.ensures.within c.standing-old.result.now c.standing-old.ensures c.effect-effect.result c.effect-effect.ensures
          c.args.pass (low, high) w.is_left-fits.result c.args.word w.in-None.is w.is_left-fits.ensures (sym w.fits-is ∙ c.if-fits.false)
      | in-Some+in_ok-new-in-Some+then-is_changed w ↦
          subst (λ (o : Option ℕ). Breaks ek g.V.FarObject.enc (widest (buckets_of c.args.self.now)) log (Done c.args.pass op o) WrongContents) (sym w.in-Some.is)
          (placed_err ek g.V.FarObject.enc c.args.self.now log s op c.bucket-bucket.result here c.bucket-bucket.ensures.within c.standing-old.result.now c.standing-old.ensures c.effect-effect.result c.effect-effect.ensures
          c.args.pass (low, high) w.in-Some.word w.in_ok-new-in-Some.new.now w.in_ok-new-in-Some.ensures.ok w.is_placed.result w.is_placed.ensures (sym w.fits-is ∙ c.if-fits.false))
      | in-Some+in_ok-new-in-Some+else-is_changed w ↦
          subst (λ (o : Option ℕ). Breaks ek g.V.FarObject.enc (widest (buckets_of c.args.self.now)) log (Done c.args.pass op o) WrongContents) (sym w.in-Some.is)
          (changed_err ek g.V.FarObject.enc c.args.self.now log s op c.bucket-bucket.result here c.bucket-bucket.ensures.within c.standing-old.result.now c.standing-old.ensures c.effect-effect.result c.effect-effect.ensures
          c.args.pass (low, high) w.in-Some.word w.in_ok-new-in-Some.new.now w.in_ok-new-in-Some.ensures.ok w.is_changed.result w.is_changed.ensures w.if-is_changed.false)
    ]
