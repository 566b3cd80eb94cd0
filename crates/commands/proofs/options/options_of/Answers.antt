use Rattle.std.proofs.Common.{◌≡◌, [], ◌∷◌, List, ℕ, Some, refl, ap, ◌∙◌}
use Rattle.commands.specs.declared.options.Options.{Options}
use Rattle.commands.specs.Arguments.{listed}
use Rattle.commands.proofs.Saying.{some_left, word_before, said_by, timed_before}
use Rattle.commands.proofs.options.options_of.Goals as goal

pub loop-word-init : goal.loop-word-init
loop-word-init c = (λ t says. says, λ none. (refl, none))

pub returns-in_default-split_first-clause-none : goal.returns-in_default-split_first-clause-none
returns-in_default-split_first-clause-none c = λ none. absurd (some_left (listed c.loop-word.rest) c.in-Some.word.now (listed c.in-Some.behind) c.in-Some.ensures (c.loop-word.invariant.1 none).1)

pub returns-in_default-with_lifetime-clause-none : goal.returns-in_default-with_lifetime-clause-none
returns-in_default-with_lifetime-clause-none c = λ none. absurd (some_left (listed c.loop-word.rest) c.in-Some.word.now (listed c.in-Some.behind) c.in-Some.ensures (c.loop-word.invariant.1 none).1)

pub loop-word-preserved-in-Some-clock_of : goal.loop-word-preserved-in-Some-clock_of
loop-word-preserved-in-Some-clock_of c =
    let word = c.in-Some.word.now in
    let number = c.in-Some-split_first.amount.now in
    let behind = listed c.in-Some-split_first.behind in
    let is : listed c.loop-word.rest ≡ word ∷ number ∷ behind = c.in-Some.ensures ∙ ap (λ (ws : List (List ℕ)). word ∷ ws) c.in-Some-split_first.ensures in (
      λ t more. c.loop-word.invariant.0 t (said_by c.args.of (listed c.loop-word.rest) (word ∷ number ∷ behind) c.loop-word.said t is
          (timed_before c.args.of word number behind c.loop-word.said c.in-Some-with_lifetime.now_said t (c.in-Some-clock_of.clock, c.in-Some-split_first.amount, c.in-Some-clock_of.ensures, refl, c.in-Some-with_lifetime.ensures) more)),
      λ none. absurd (some_left (listed c.loop-word.rest) word (number ∷ behind) is (c.loop-word.invariant.1 none).1),
    )

pub returns-in_default-with_word-clause-none : goal.returns-in_default-with_word-clause-none
returns-in_default-with_word-clause-none c = λ none. absurd (some_left (listed c.loop-word.rest) c.in-Some.word.now (listed c.in-Some.behind) c.in-Some.ensures (c.loop-word.invariant.1 none).1)

pub loop-word-preserved : goal.loop-word-preserved
loop-word-preserved c =
    let word = c.in-Some.word.now in
    let behind = listed c.in-Some.behind in (
      λ t more. c.loop-word.invariant.0 t (said_by c.args.of (listed c.loop-word.rest) (word ∷ behind) c.loop-word.said t c.in-Some.ensures
          (word_before c.args.of word behind c.loop-word.said c.in-Some-with_word.now_said t c.in-Some-with_word.ensures more)),
      λ none. absurd (some_left (listed c.loop-word.rest) word behind c.in-Some.ensures (c.loop-word.invariant.1 none).1),
    )

pub returns-clause-said : goal.returns-clause-said
returns-clause-said c = c.loop-word.invariant.0 c.loop-word.said (said_by c.args.of (listed c.loop-word.rest) [] c.loop-word.said c.loop-word.said c.in_default.ensures refl)

pub returns-clause-none : goal.returns-clause-none
returns-clause-none c = λ none. ap (λ (o : Options). Some o) (c.loop-word.invariant.1 none).0
