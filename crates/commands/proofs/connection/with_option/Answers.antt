-- An option that was said stands among the arguments.
use Rattle.std.proofs.Common.{◌≡◌, [], ◌∷◌, map, codes, rules}
use Rattle.std.specs.Char.{to_ascii_lowercase}
use Rattle.commands.specs.Arguments.{listed}
use Rattle.commands.specs.Servers.{IsPlainName, credentials}
use Rattle.commands.proofs.Choices.{option_of, front_of}
use Rattle.commands.proofs.connection.with_option.Goals as goal

pub returns-in-Some : goal.returns-in-Some
returns-in-Some c words before is said =
    let named : map to_ascii_lowercase c.args.word.now ≡ codes "auth" = search rules in
    let values = credentials c.in-Some.login in (
      record { login = (c.in-Some.ensures.0, option_of (codes "auth") values words before (listed c.args.behind) (listed c.in-Some.rest) c.args.word.now is named c.in-Some.ensures.1); name = said.name },
      front_of values words before (listed c.args.behind) (listed c.in-Some.rest) c.args.word.now is c.in-Some.ensures.1,
    )

pub returns-in-Some-split_first : goal.returns-in-Some-split_first
returns-in-Some-split_first c words before is said =
    let named : map to_ascii_lowercase c.args.word.now ≡ codes "setname" = search rules in
    let plain : IsPlainName c.in-Some-split_first.name.now = search rules in
    let values = c.in-Some-split_first.name.now ∷ [] in (
      record { login = said.login; name = (plain, option_of (codes "setname") values words before (listed c.args.behind) (listed c.in-Some-split_first.rest) c.args.word.now is named c.in-Some-split_first.ensures) },
      front_of values words before (listed c.args.behind) (listed c.in-Some-split_first.rest) c.args.word.now is c.in-Some-split_first.ensures,
    )
