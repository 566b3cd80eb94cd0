use Rattle.std.proofs.Common.{refl, rules}
use Rattle.command_file.specs.Words.{words_in}
use Rattle.command_file.proofs.Parsing.{no_verb, some_parts}
use Rattle.command_file.proofs.Placing.{key_placed, pair_placed, put_if_placed}
use Rattle.command_file.proofs.parse.place_words.Goals as goal

pub returns-in_err-verb : goal.returns-in_err-verb
returns-in_err-verb c =
    rw c.from_residual.ensures (no_verb c.args.first.now (words_in c.args.rest.now) c.in_err-verb.ensures (some_parts c.args.rest.now))

pub returns-in_ok-key-in-OfKey : goal.returns-in_ok-key-in-OfKey
returns-in_ok-key-in-OfKey c =
    let e = c.in_ok-key-in-OfKey.ensures in
    key_placed c.args.first.now c.args.rest.now c.in_ok-key-in-OfKey.key.now c.in-OfKey.verb c.args.from _ (search rules) e.0 e.1 refl

pub returns-in_ok-key-in-OfPair : goal.returns-in_ok-key-in-OfPair
returns-in_ok-key-in-OfPair c =
    let e = c.in_ok-key-in-OfPair.ensures in
    pair_placed c.args.first.now c.args.rest.now c.in_ok-key-in-OfPair.key.now c.in_ok-key-in-OfPair.value.now c.in-OfPair.verb c.args.from _ _ (search rules) e.0 e.1 e.2 refl refl

pub returns-in_ok-key-in-PutIf : goal.returns-in_ok-key-in-PutIf
returns-in_ok-key-in-PutIf c =
    let e = c.in_ok-key-in-PutIf.ensures in
    put_if_placed c.args.first.now c.args.rest.now c.in_ok-key-in-PutIf.key.now c.in_ok-key-in-PutIf.expected.now c.in_ok-key-in-PutIf.value.now c.args.from _ _ _ (search rules) e.0 e.1 e.2 e.3 refl refl refl
