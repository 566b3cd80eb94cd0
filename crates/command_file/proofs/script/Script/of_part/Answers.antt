use Rattle.std.proofs.Common.{map}
use Rattle.command_file.specs.Lines.{lines_of}
use Rattle.command_file.specs.Places.{command_in}
use Rattle.command_file.proofs.Progress.{file_commands}
use Rattle.command_file.proofs.Scanning.{whole_file, whole_within, whole_few}
use Rattle.command_file.proofs.script.Script.of_part.Goals as goal

pub invariant_of-result : goal.invariant_of-result
invariant_of-result c =
    let text = c.args.text.items in
    let places = c.args.part.places.items in
    (whole_within text places c.args.part.lines c.requires, whole_few text places c.args.part.lines c.requires)

pub returns-clause-said : goal.returns-clause-said
returns-clause-said c = whole_file c.args.text.items c.args.part.places.items c.args.part.lines c.requires

pub returns-clause-commands : goal.returns-clause-commands
returns-clause-commands c =
    let text = c.args.text.items in
    let places = c.args.part.places.items in
    file_commands (lines_of text) (map (command_in text) places) (whole_file text places c.args.part.lines c.requires)
