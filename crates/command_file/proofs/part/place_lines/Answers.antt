use Rattle.std.proofs.Common.{◌≢◌, ◌+◌, length, refl, sym, subst, arith, Vec, Global}
use Rattle.std.proofs.lemmas.Bool.{eqb-false, eqb-true}
use Rattle.command_file.specs.declared.place.Place.{Place}
use Rattle.command_file.proofs.Scanning.{Scanned, scanned_none, rest_within, scanned_empty, scanned_command, scanned_all, scanned_bad, scanned_more, empty_rest}
use Rattle.command_file.proofs.part.place_lines.Goals as goal
use Rattle.command_file.proofs.part.place_lines.Goals.{in-Empty, in-Command+in-Ok}

pub loop-number-init : goal.loop-number-init
loop-number-init c = scanned_none c.args.bytes.now c.args.from c.new-places.result.items c.new-places.ensures.items

pub returns-in_default : goal.returns-in_default
returns-in_default c =
    scanned_all c.args.bytes.now c.args.from c.loop-number.rest.now c.loop-number.number _ c.loop-number.places.items c.loop-number.invariant (omega arith) (omega arith) c.in_default.ensures

pub overflow_sub-end : goal.overflow_sub-end
overflow_sub-end c = omega (arith, rest_within c.args.bytes.now c.args.from c.loop-number.rest.now c.loop-number.number c.loop-number.places.items c.loop-number.invariant)

pub returns-in-Bad : goal.returns-in-Bad
returns-in-Bad c =
    (scanned_bad c.args.bytes.now c.args.from c.loop-number.rest.now c.in-Some.line.now c.in-Some.behind.now c.loop-number.number c.loop-number.places.items c.loop-number.invariant c.in-Some.ensures (omega arith) c.in-Bad.ensures, (omega arith, omega arith))

pub loop-number-preserved : goal.loop-number-preserved
loop-number-preserved c =
    let bytes = c.args.bytes.now in
    let from = c.args.from in
    let rest = c.loop-number.rest.now in
    let line = c.in-Some.line.now in
    let behind = c.in-Some.behind.now in
    let number = c.loop-number.number in
    let places = c.loop-number.places.items in
    elim c.match-place_line.branch [
      | in-Empty w ↦
          subst (λ (all : Vec Place Global). Scanned bytes from behind (number + 1) all.items) (sym w.places-is)
          (scanned_empty bytes from rest line behind number places c.loop-number.invariant c.in-Some.ensures w.in-Empty.ensures)
      | in-Command+in-Ok w ↦
          subst (λ (all : Vec Place Global). Scanned bytes from behind (number + 1) all.items) (sym w.places-is)
          (scanned_command bytes from rest line behind number _ places w.push.new.self.items w.in-Command.place c.loop-number.invariant c.in-Some.ensures refl w.in-Command.ensures w.in-Ok.ensures.items)
    ]

pub returns-then-is_empty : goal.returns-then-is_empty
returns-then-is_empty c =
    let rest = c.loop-number.rest.now in
    scanned_all c.args.bytes.now c.args.from rest c.loop-number.number 65536 c.loop-number.places.items c.loop-number.invariant (omega arith) (omega arith) (empty_rest rest (eqb-true (length rest) 0 (sym c.if-is_empty.ensures)))

pub returns-else-is_empty : goal.returns-else-is_empty
returns-else-is_empty c =
    let rest = c.loop-number.rest.now in
    let some : length rest ≢ 0 = eqb-false (length rest) 0 (sym c.if-is_empty.ensures) in
    (scanned_more c.args.bytes.now c.args.from rest c.loop-number.number c.loop-number.places.items c.loop-number.invariant (omega arith) (omega (arith, some)), tt)
