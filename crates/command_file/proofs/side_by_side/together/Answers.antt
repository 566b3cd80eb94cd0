use Rattle.std.proofs.Common.{◌+◌, length, subst, sym, refl, arith}
use Rattle.std.specs.Prelude.{Result}
use Rattle.command_file.specs.declared.fault.FileFault.{FileFault}
use Rattle.command_file.specs.declared.part.Part.{Part}
use Rattle.command_file.specs.Files.{IsFileFault}
use Rattle.command_file.specs.Lines.{lines_of}
use Rattle.command_file.specs.Parts.{IsPlaced}
use Rattle.command_file.proofs.Joining.{fault_of_first, all_good, many_together, placed_together}
use Rattle.command_file.proofs.side_by_side.together.Goals as goal

pub returns-in-Err : goal.returns-in-Err
returns-in-Err c = λ bytes a b from cut first second.
    let fault = subst (λ (r : Result Part FileFault). IsPlaced a from r) c.in-Err.is first in
    (fault_of_first bytes a b c.in-Err.fault cut fault.0, fault.1)

pub returns-in-Err-second : goal.returns-in-Err-second
returns-in-Err-second c = λ bytes a b from cut first second.
    let p = subst (λ (r : Result Part FileFault). IsPlaced a from r) c.in-Ok.is first in
    let fault = subst (λ (r : Result Part FileFault). IsPlaced b (from + length a) r) c.in-Err-second.is second in (
      subst (λ l. IsFileFault l c.raised.result) (sym cut.lines)
          (c.raised.ensures.fault (lines_of a) (lines_of b) p.counted (all_good a from c.in-Ok.part.places.items c.in-Ok.part.lines p) fault.0),
      c.raised.ensures.number fault.1,
    )

pub returns-then-behind-lines : goal.returns-then-behind-lines
returns-then-behind-lines c = λ bytes a b from cut first second.
    let p = subst (λ (r : Result Part FileFault). IsPlaced a from r) c.in-Ok.is first in
    let q = subst (λ (r : Result Part FileFault). IsPlaced b (from + length a) r) c.in-Ok-second.is second in
    (many_together bytes a b from c.in-Ok.part.places.items c.in-Ok-second.part.places.items c.in-Ok.part.lines c.in-Ok-second.part.lines cut p q (omega (arith, p.few, c.if-behind-lines.true)), tt)

pub returns-in-Ok-append : goal.returns-in-Ok-append
returns-in-Ok-append c = λ bytes a b from cut first second.
    let p = subst (λ (r : Result Part FileFault). IsPlaced a from r) c.in-Ok.is first in
    let q = subst (λ (r : Result Part FileFault). IsPlaced b (from + length a) r) c.in-Ok-second.is second in
    placed_together bytes a b from c.in-Ok.part.places.items c.in-Ok-second.part.places.items _ c.in-Ok.part.lines c.in-Ok-second.part.lines _
    cut p q c.in-Ok-append.ensures.items refl (omega (arith, p.few, c.if-behind-lines.false))
