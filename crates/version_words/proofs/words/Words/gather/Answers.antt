use Rattle.std.proofs.Common.{◌≡◌, ◌∙◌, ◌<◌, ℕ, map, slice_index_or, arith}
use Rattle.std.proofs.lemmas.List.{length-map}
use Rattle.table_core.specs.Logs.{passes_of}
use Rattle.version_words.specs.Views.{IsNumbered}
use Rattle.version_words.proofs.Fronts.{value_passes}
use Rattle.version_words.proofs.Gathering.{IsHeard, Bounded, heard_now, heard_later, heard_more, learned_none, learned_more, all_bounded, all_there}
use Rattle.version_words.proofs.Histories.{no_other}
use Rattle.version_words.proofs.words.Words.gather.Goals as goal

pub loop-k-preserved : goal.loop-k-preserved
loop-k-preserved g c =
    let e = c.mark.ensures in
    let told = rw e.front at c.learn-in-loop-k.ensures.told in
    let here : IsHeard c.learn-in-loop-k.new.self c.pass.result.now = heard_now c.loop-k.mark c.learn-in-loop-k.new.self c.pass.result.now e.entered.0 e.entered.1 told in
    heard_more g.H.PassHolder.pass_of c.loop-k.mark c.learn-in-loop-k.new.self c.args.holders.now c.loop-k.k c.index-holders-k.result (omega arith) c.learn-in-loop-k.ensures.own (rw c.pass.ensures at here) c.loop-k.invariant

pub are_apart-requires : goal.are_apart-requires
are_apart-requires g c = record {
  numbered = λ k d lt.
      let s = c.args.self.now.sizes_are in
      let look = c.look_at-drawn.ensures in
      let drawn : c.look_at-drawn.result ≡ passes_of c.look_at-drawn.new.mark = (rw s.0 at look.value) ∙ value_passes g.K.FarObject.enc g.V.FarObject.enc g.J.Naming.limits c.look_at-drawn.new.mark in
      let heard = heard_later c.loop-k.mark c.look_at-drawn.new.mark _ (c.loop-k.invariant k d (omega arith)) look.grows in
      (heard.first, omega (arith, heard.last, drawn));
}

pub loop-k-2-init : goal.loop-k-2-init
loop-k-2-init g c = rw c.are_apart.ensures.same (learned_none g.H.PassHolder.pass_of g.H.PassHolder.with_pass c.look_at-drawn.new.mark c.args.holders.now)

pub loop-k-2-preserved : goal.loop-k-2-preserved
loop-k-2-preserved g c =
    let e = c.tell.ensures in
    let old = c.args.holders.now in
    learned_more g.H.PassHolder.pass_of g.H.PassHolder.with_pass c.look_at-drawn.new.mark old c.loop-k-2.holders c.loop-k-2.k c.index-holders-k-in-loop-k-2.result c.tell.new.self c.loop-k-2.invariant (omega arith)
    (λ d. heard_later c.loop-k.mark c.look_at-drawn.new.mark _ (c.loop-k.invariant c.loop-k-2.k d (omega arith)) c.look_at-drawn.ensures.grows) e.pass e.told e.rest

pub returns-clause-numbered : goal.returns-clause-numbered
returns-clause-numbered g c = λ k d lt. let heard = heard_later c.loop-k.mark c.look_at-drawn.new.mark _ (c.loop-k.invariant k d (omega arith)) c.look_at-drawn.ensures.grows in (heard.first, heard.last)

pub returns-clause-all : goal.returns-clause-all
returns-clause-all g c =
    let s = c.args.self.now.sizes_are in
    let look = c.look_at-drawn.ensures in
    let drawn : c.look_at-drawn.result ≡ passes_of c.look_at-drawn.new.mark = (rw s.0 at look.value) ∙ value_passes g.K.FarObject.enc g.V.FarObject.enc g.J.Naming.limits c.look_at-drawn.new.mark in
    all_there g.H.PassHolder.pass_of (passes_of c.look_at-drawn.new.mark) c.args.holders.now c.in-Ok.ensures.apart
    (λ k d lt. let heard = heard_later c.loop-k.mark c.look_at-drawn.new.mark _ (c.loop-k.invariant k d (omega arith)) look.grows in (heard.first, heard.last)) (omega (arith, drawn))

pub returns-clause-no_other : goal.returns-clause-no_other
returns-clause-no_other g c =
    let s = c.args.self.now.sizes_are in
    let log = c.look_at-drawn.new.mark in
    let look = c.look_at-drawn.ensures in
    let hs = c.args.holders.now in
    let drawn : c.look_at-drawn.result ≡ passes_of log = (rw s.0 at look.value) ∙ value_passes g.K.FarObject.enc g.V.FarObject.enc g.J.Naming.limits log in
    let bounded : Bounded (passes_of log) (map g.H.PassHolder.pass_of hs) = all_bounded g.H.PassHolder.pass_of (passes_of log) hs
    (λ k d lt. let heard = heard_later c.loop-k.mark log _ (c.loop-k.invariant k d (omega arith)) look.grows in (heard.first, heard.last)) in
    no_other g.K.FarObject.enc g.V.FarObject.enc g.J.Naming.limits log (map g.H.PassHolder.pass_of hs) look.lawful c.in-Ok.ensures.apart bounded (omega (arith, drawn, length-map hs g.H.PassHolder.pass_of))

pub returns-clause-whole : goal.returns-clause-whole
returns-clause-whole g c = λ k d lt. let done = c.loop-k-2.invariant.done k d (omega arith) in done.whole

pub returns-clause-told : goal.returns-clause-told
returns-clause-told g c = λ k d lt. let done = c.loop-k-2.invariant.done k d (omega arith) in done.told

pub returns-clause-goes : goal.returns-clause-goes
returns-clause-goes g c = λ k d lt. let done = c.loop-k-2.invariant.done k d (omega arith) in done.goes

pub returns-clause-rest : goal.returns-clause-rest
returns-clause-rest g c = λ k d lt. let done = c.loop-k-2.invariant.done k d (omega arith) in done.rest
