use Rattle.std.proofs.Common.{◌≡◌, ◌∙◌, sym, ap, subst, ◌<◌, true}
use Rattle.table_core.specs.BucketWords.{name_of}
use Rattle.version_words.specs.Views.{IsOfBucket, WasSeen, operation_of}
use Rattle.version_words.proofs.Calling.{still_pass, pass_goes, pass_changes, install_keeps}
use Rattle.version_words.proofs.Fronts.{prefix_self, prefix_trans, value_bucket}
use Rattle.version_words.proofs.Gone.{installed_word, old_gone}
use Rattle.version_words.proofs.Probing.{can_change}
use Rattle.version_words.proofs.words.Words.install.Goals as goal

pub step-requires-clause-can : goal.step-requires-clause-can
step-requires-clause-can g c =
    let front : c.pass.inside.mark ≡ c.args.pass.now.front = ap (λ p. p.front) c.pass.view_is in
    let named : c.name.inside.mark ≡ c.args.name.front = ap (λ n. n.front) c.name.view_is in
    let number : c.name.inside.number ≡ c.args.name.number = ap (λ n. n.number) c.name.view_is in
    let bucket : c.args.b ≡ c.name.inside.bucket = sym c.requires.bucket.0 ∙ sym (ap (λ n. n.bucket) c.name.view_is) in
    let is = c.name.invariant.0 in
    rw c.pack-word.ensures.word (can_change g.K.FarObject.enc g.V.FarObject.enc g.J.Naming.limits c.pass.inside.mark c.name.inside.mark c.learn.new.self c.name.inside.bucket c.args.old c.name.inside.number c.args.place c.pass.inside.number (operation_of c.args.change.now)
    c.learn.ensures.lawful c.learn.ensures.own c.learn.ensures.told
    is.here (subst (λ x. IsOfBucket g.K.FarObject.enc g.J.Naming.limits.buckets x (operation_of c.args.change.now)) bucket c.requires.bucket.1) c.requires.place c.pass.invariant.first c.pass.invariant.last
    (subst (λ x. WasSeen g.K.FarObject.enc g.J.Naming.limits.buckets c.pass.inside.mark x c.args.old) bucket (rw front c.requires.seen)) is.drawn (rw number c.requires.newer)
    (rw (named, number) c.requires.empty)
    (rw (front, named, number) c.requires.contents))

pub invariant_of-pass : goal.invariant_of-pass
invariant_of-pass g c =
    let e = c.if-not-step.ensures in
    let grows = prefix_trans c.pass.inside.mark c.learn.new.self c.step.new.mark c.learn.ensures.own e.grows in
    still_pass g.J.Naming.names c.pass.inside.mark c.step.new.mark c.pass.inside.number c.pass.inside.tally.board c.step.new.pass.board c.pass.inside.tally.slot c.step.new.pass.slot c.pass.invariant grows e.boards.0 (ap (λ s. s.held) e.slots.0) (ap (λ s. s.key) e.slots.0) e.counts.0

pub returns-then-not-step-clause-pass : goal.returns-then-not-step-clause-pass
returns-then-not-step-clause-pass g c =
    let e = c.if-not-step.ensures in
    let grows = prefix_trans c.pass.inside.mark c.learn.new.self c.step.new.mark c.learn.ensures.own e.grows in
    rw (← c.pass.view_is) (pass_goes g.J.Naming.names c.pass.inside.mark c.step.new.mark c.pass.inside.number c.pass.inside.tally.board c.pass.inside.tally.slot c.step.new.pass.slot c.pass.invariant grows e.slots.0 e.counts.0)

pub replaced-requires : goal.replaced-requires
replaced-requires g c =
    let number : c.name.inside.number ≡ c.args.name.number = ap (λ n. n.number) c.name.view_is in
    let bucket : c.args.b ≡ c.name.inside.bucket = sym c.requires.bucket.0 ∙ sym (ap (λ n. n.bucket) c.name.view_is) in
    let a = c.if-not-step.ensures.done in
    let key = subst (λ x. IsOfBucket g.K.FarObject.enc g.J.Naming.limits.buckets x (operation_of c.args.change.now)) bucket c.requires.bucket.1 in
    let stands = installed_word g.K.FarObject.enc g.V.FarObject.enc g.J.Naming.limits a.0 c.step.new.mark c.name.inside.bucket c.pack-word.result c.pass.inside.number (operation_of c.args.change.now) key a.1 in
    let newer : name_of c.args.old < name_of c.pack-word.result = rw (c.pack-word.ensures.name, number) c.requires.newer in
    let is = c.name.invariant.0 in
    record { here = is.here; gone = rw c.again.ensures.same (old_gone g.K.FarObject.enc g.V.FarObject.enc g.J.Naming.limits c.step.new.mark c.name.inside.bucket c.args.old c.pack-word.result stands newer) }

pub invariant_of-pass-2 : goal.invariant_of-pass-2
invariant_of-pass-2 g c =
    let e = c.if-not-step.ensures in
    let grows = prefix_trans c.pass.inside.mark c.learn.new.self c.step.new.mark c.learn.ensures.own e.grows in
    let keeps = install_keeps c.pass.inside.number c.name.inside.bucket c.pack-word.result (operation_of c.args.change.now) true c.pass.inside.tally.slot in
    still_pass g.J.Naming.names c.pass.inside.mark c.step.new.mark c.pass.inside.number c.pass.inside.tally.board c.step.new.pass.board c.pass.inside.tally.slot c.step.new.pass.slot c.pass.invariant grows e.boards.0 (ap (λ s. s.held) e.slots.0 ∙ keeps.0) (ap (λ s. s.key) e.slots.0 ∙ keeps.1) e.counts.0

pub returns-clause-pass : goal.returns-clause-pass
returns-clause-pass g c =
    let e = c.if-not-step.ensures in
    let a = e.done in
    rw (← c.pass.view_is) (pass_changes g.J.Naming.names (operation_of c.args.change.now) c.name.inside.bucket c.pack-word.result c.pass.inside.mark a.0 c.step.new.mark c.pass.inside.number c.pass.inside.tally.board c.pass.inside.tally.slot c.step.new.pass.slot c.pass.invariant
    (prefix_trans c.pass.inside.mark c.learn.new.self a.0 c.learn.ensures.own a.2) a.1 e.slots.0 e.counts.0)

pub returns-clause-follows : goal.returns-clause-follows
returns-clause-follows g c =
    let bucket : c.args.b ≡ c.name.inside.bucket = sym c.requires.bucket.0 ∙ sym (ap (λ n. n.bucket) c.name.view_is) in
    let is = c.name.invariant.0 in
    let a = c.if-not-step.ensures.done in
    let still = sym (value_bucket g.K.FarObject.enc g.V.FarObject.enc g.J.Naming.limits a.0 c.name.inside.bucket is.here) ∙ a.3 in
    rw (bucket, ← c.pass.view_is) (a.0, a.1, prefix_trans c.pass.inside.mark c.learn.new.self a.0 c.learn.ensures.own a.2, still)

pub returns-clause-gone : goal.returns-clause-gone
returns-clause-gone g c =
    let number : c.name.inside.number ≡ c.args.name.number = ap (λ n. n.number) c.name.view_is in
    let bucket : c.args.b ≡ c.name.inside.bucket = sym c.requires.bucket.0 ∙ sym (ap (λ n. n.bucket) c.name.view_is) in
    let a = c.if-not-step.ensures.done in
    let key = subst (λ x. IsOfBucket g.K.FarObject.enc g.J.Naming.limits.buckets x (operation_of c.args.change.now)) bucket c.requires.bucket.1 in
    let stands = installed_word g.K.FarObject.enc g.V.FarObject.enc g.J.Naming.limits a.0 c.step.new.mark c.name.inside.bucket c.pack-word.result c.pass.inside.number (operation_of c.args.change.now) key a.1 in
    let newer : name_of c.args.old < name_of c.pack-word.result = rw (c.pack-word.ensures.name, number) c.requires.newer in
    rw bucket (old_gone g.K.FarObject.enc g.V.FarObject.enc g.J.Naming.limits c.step.new.mark c.name.inside.bucket c.args.old c.pack-word.result stands newer)

pub returns-clause-seen : goal.returns-clause-seen
returns-clause-seen g c =
    let bucket : c.args.b ≡ c.name.inside.bucket = sym c.requires.bucket.0 ∙ sym (ap (λ n. n.bucket) c.name.view_is) in
    let a = c.if-not-step.ensures.done in
    let key = subst (λ x. IsOfBucket g.K.FarObject.enc g.J.Naming.limits.buckets x (operation_of c.args.change.now)) bucket c.requires.bucket.1 in
    let stands = installed_word g.K.FarObject.enc g.V.FarObject.enc g.J.Naming.limits a.0 c.step.new.mark c.name.inside.bucket c.pack-word.result c.pass.inside.number (operation_of c.args.change.now) key a.1 in
    rw bucket (c.step.new.mark, prefix_self c.step.new.mark, stands)
