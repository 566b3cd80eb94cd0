use Rattle.std.proofs.Common.{◌≡◌, ◌+◌, ℕ, List, take, arith, rules, subst, sym, ap}
use Rattle.resp.specs.declared.place.Span.{Span}
use Rattle.resp.specs.Requests.{words}
use Rattle.resp.specs.Parsing.{arguments_in, AreWithin, WordIsPut}
use Rattle.resp.proofs.Words.{HasWords, word_more, letter_more, words_whole, words_within, no_words}
use Rattle.resp.proofs.Outcomes.{on_ok}
use Rattle.resp.proofs.inline.push_words.Goals as goal
use Rattle.resp.proofs.inline.push_words.Goals.{then-is_blank+in_ok-push_word, else-is_blank}

pub loop-at-init : goal.loop-at-init
loop-at-init c = record {
  has = no_words c.args.bytes.now c.args.end c.args.spans.now.items c.requires.empty;
  few = search rules;
  room = omega arith;
}

has_so : (bytes : List ℕ) (end at f g : ℕ) (s t : List Span) → f ≡ g → s ≡ t → HasWords bytes end g at t → HasWords bytes end f at s
has_so bytes end at f g s t from spans has =
    let P : ℕ → Type 0 = λ n. HasWords bytes end n at s in
    let Q : List Span → Type 0 = HasWords bytes end g at in
    subst P (sym from) (subst Q (sym spans) has)

pub loop-at-preserved : goal.loop-at-preserved
loop-at-preserved c =
    let bytes = c.args.bytes.now in
    let end = c.args.end in
    let at = c.loop-at.at in
    let from = c.loop-at.from in
    let spans = c.loop-at.spans.items in
    elim c.if-is_blank.branch [
      | then-is_blank+in_ok-push_word w ↦ record {
        has = has_so bytes end (at + 1) c.if-is_blank.from (at + 1) c.if-is_blank.spans.items w.push_word.new.spans.items w.from-is (ap (λ v. v.items) w.spans-is) (word_more bytes end from at spans w.push_word.new.spans.items c.loop-at-test.true c.requires.within (sym w.if-is_blank.ensures) w.in_ok-push_word.ensures.put c.loop-at.invariant.has);
        few = omega (arith, ap (λ v. v.len) w.spans-is, w.from-is, w.push_word.ensures.count, c.loop-at.invariant.few, c.loop-at.invariant.has.low);
        room = omega (arith, ap (λ v. v.cap) w.spans-is, w.push_word.ensures.capacity, c.loop-at.invariant.room);
      }
      | else-is_blank w ↦ record {
        has = has_so bytes end (at + 1) c.if-is_blank.from from c.if-is_blank.spans.items spans w.from-is (ap (λ v. v.items) w.spans-is) (letter_more bytes end from at spans c.loop-at-test.true c.requires.within (sym w.if-is_blank.ensures) c.loop-at.invariant.has);
        few = omega (arith, ap (λ v. v.len) w.spans-is, w.from-is, c.loop-at.invariant.few);
        room = omega (arith, ap (λ v. v.cap) w.spans-is, c.loop-at.invariant.room);
      }
    ]

at_end : (bytes : List ℕ) (end from at : ℕ) (spans : List Span) → at ≡ end → HasWords bytes end from at spans → HasWords bytes end from end spans
at_end bytes end from at spans is has =
    let P : ℕ → Type 0 = λ n. HasWords bytes end from n spans in
    subst P is has

pub returns-clause-words : goal.returns-clause-words
returns-clause-words c =
    let bytes = c.args.bytes.now in
    let end = c.args.end in
    let from = c.loop-at.from in
    let old = c.loop-at.spans.items in
    let new = c.push_word-2.new.spans.items in
    let all : c.loop-at.at ≡ end = omega (arith, c.loop-at-test.false, c.loop-at.auto.at-end) in
    on_ok (WordIsPut old new from end) (arguments_in bytes new ≡ words (take end bytes)) c.push_word-2.result (λ put. words_whole bytes end from old new c.requires.within put (at_end bytes end from c.loop-at.at old all c.loop-at.invariant.has)) c.push_word-2.ensures.put

pub returns-clause-spans_within : goal.returns-clause-spans_within
returns-clause-spans_within c =
    let bytes = c.args.bytes.now in
    let end = c.args.end in
    let from = c.loop-at.from in
    let old = c.loop-at.spans.items in
    let new = c.push_word-2.new.spans.items in
    let all : c.loop-at.at ≡ end = omega (arith, c.loop-at-test.false, c.loop-at.auto.at-end) in
    on_ok (WordIsPut old new from end) (AreWithin end new) c.push_word-2.result (λ put. words_within bytes end from old new put (at_end bytes end from c.loop-at.at old all c.loop-at.invariant.has)) c.push_word-2.ensures.put
