use Rattle.std.proofs.Common.{rules, ◌≡◌, ◌+◌, length, map, Global, ap, sym, subst, ◌∙◌}
use Rattle.std.specs.Io.Buffered.{reader_remaining}
use Rattle.std.specs.Prelude.{string_bytes}
use Rattle.streams.specs.Ends.{still_to_read}
use Rattle.far_driver.specs.Sources.{unread}
use Rattle.far_driver.proofs.Streams.{one_more}
use Rattle.far_driver.proofs.Names.{unopened_at}
use Rattle.far_driver.proofs.sources.open_sources.Goals as goal

pub returns-in_default-clause-fault : goal.returns-in_default-clause-fault
returns-in_default-clause-fault g c =
    unopened_at (string_bytes {Z = Global}) c.args.names.now c.loop-at.at c.index-names-at.result c.as_str.result.now c.loop-at-test.true c.index-names-at.is c.as_str.ensures.value c.in_default.ensures

pub loop-at-preserved : goal.loop-at-preserved
loop-at-preserved g c = record {
  count = search rules;
  unread = subst (λ items. map (reader_remaining still_to_read) items ≡ unread (c.loop-at.at + 1)) (sym c.in-Ok-push.ensures.items) (one_more c.loop-at.sources.items c.in-Ok-buffered.source c.loop-at.at c.loop-at.invariant.unread c.in-Ok-buffered.ensures.unread);
}

pub returns-clause-unread : goal.returns-clause-unread
returns-clause-unread g c = let all : c.loop-at.at ≡ length c.args.names.now = search rules in c.loop-at.invariant.unread ∙ ap unread all
