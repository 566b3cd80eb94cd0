use Rattle.std.proofs.Common.{◌≤◌, ◌++◌, ℕ, List, length, Some, ap, ◌∙◌, rules}
use Rattle.std.proofs.lemmas.List.{length-take-le}
use Rattle.std.proofs.lemmas.Option.{slice_get-get_or}
use Rattle.file_device.specs.Files.{bytes_from}
use Rattle.file_device.proofs.Files.{read}
use Rattle.file_device.proofs.file_disk.append_from.Goals as goal

pub returns-clause-honest : goal.returns-clause-honest
returns-clause-honest g c = λ honest.
    let there = slice_get-get_or c.args.files.now c.args.slot.class c.index-files-slot.result (search rules) ∙ ap Some c.in-Some.is in
    let room : c.args.len ≤ length c.deref_mut.result.now = search rules in
    let long = length-take-le c.args.len c.deref_mut.result.now room in
    let part = ap (λ (n : ℕ). bytes_from (g.F.SlotFile.byte c.in-Some.file) c.offset.result n) long in
    let same = read g.F.SlotFile.byte c.args.files.now c.in-Some.file c.args.slot c.args.len c.offset.result there c.requires.fits c.offset.ensures.value in
    c.in_ok-extend_from_slice.ensures.items ∙ ap (λ (l : List ℕ). c.args.out.now.items ++ l) (c.in_ok-read.ensures honest ∙ (part ∙ same))
