use Rattle.std.proofs.Common.{◌≡◌, ℕ, List, length, Some, ap, sym, refl, subst, ◌∙◌}
use Rattle.file_device.specs.declared.place.Place.{Place}
use Rattle.file_device.specs.declared.slot.Slot.{Slot}
use Rattle.file_device.specs.Classes.{class_of}
use Rattle.file_device.specs.Places.{slot_of, contents_of, ChangesAt, IsFree}
use Rattle.file_device.proofs.Contents.{contents_of-insert}
use Rattle.file_device.proofs.Kept.{kept_along, kept_beside, kept_after_entry, holds_written, written_whole, same_slot, at_some}
use Rattle.file_device.proofs.device.FileDevice.store.Goals as goal

pub invariant_of-self-in-Err : goal.invariant_of-self-in-Err
invariant_of-self-in-Err g c = record {
  kept = kept_along g.K.Disk.HONEST (g.K.Disk.kept c.args.self.now.disk) c.args.self.now.keys c.args.self.now.catalog.index.entries c.take.new.self.index.entries c.args.self.now.kept c.take.ensures.same;
}

pub invariant_of-self-in-Ok-None : goal.invariant_of-self-in-Ok-None
invariant_of-self-in-Ok-None g c = record {
  kept = kept_along g.K.Disk.HONEST (g.K.Disk.kept c.args.self.now.disk) c.args.self.now.keys c.args.self.now.catalog.index.entries c.take.new.self.index.entries c.args.self.now.kept c.take.ensures.same;
}

pub invariant_of-self-in-Err-write_slot-2 : goal.invariant_of-self-in-Err-write_slot-2
invariant_of-self-in-Err-write_slot-2 g c =
    let old = c.args.self.now.catalog.index.entries in
    let after = g.K.Disk.kept c.write_slot.new.self in
    let free : IsFree old c.in-Ok-Some.slot = at_some (λ (slot : Slot). IsFree old slot) c.in-Ok-Some.field-0 c.in-Ok-Some.slot c.in-Ok-Some.field-0-is c.in-Ok-Some.ensures.free in
    let beside = kept_beside g.K.Disk.HONEST (g.K.Disk.kept c.args.self.now.disk) after c.args.self.now.keys old c.in-Ok-Some.slot c.args.self.now.kept free c.write_slot.ensures.others in
    record { kept = kept_along g.K.Disk.HONEST after c.args.self.now.keys old c.take.new.self.index.entries beside c.take.ensures.same }

pub invariant_of-self-2 : goal.invariant_of-self-2
invariant_of-self-2 g c =
    let old = c.args.self.now.catalog.index.entries in
    let after = g.K.Disk.kept c.write_slot.new.self in
    let place = c.of-place.result in
    let bytes = c.args.bytes.now in
    let free : IsFree old c.in-Ok-Some.slot = at_some (λ (slot : Slot). IsFree old slot) c.in-Ok-Some.field-0 c.in-Ok-Some.slot c.in-Ok-Some.field-0-is c.in-Ok-Some.ensures.free in
    let beside = kept_beside g.K.Disk.HONEST (g.K.Disk.kept c.args.self.now.disk) after c.args.self.now.keys old c.in-Ok-Some.slot c.args.self.now.kept free c.write_slot.ensures.others in
    let along = kept_along g.K.Disk.HONEST after c.args.self.now.keys old c.take.new.self.index.entries beside c.take.ensures.same in
    let same = written_whole place bytes c.clear.new.self.items c.extend_from_slice.new.self.items c.of-place.ensures.written c.in_ok-extend_from_slice.ensures.items c.clear.ensures.items in
    let class : c.in-Ok-Some.slot.class ≡ c.class_of-class.result = at_some (λ (slot : Slot). slot.class ≡ c.class_of-class.result) c.in-Ok-Some.field-0 c.in-Ok-Some.slot c.in-Ok-Some.field-0-is c.in-Ok-Some.ensures.class in
    let long : place.len ≡ length bytes = c.of-place.ensures.sound.0 ∙ ap (λ (l : List ℕ). length l) same in
    let at : slot_of place ≡ c.in-Ok-Some.slot = same_slot (slot_of place) c.in-Ok-Some.slot (ap class_of long ∙ (sym c.class_of-class.ensures.value ∙ sym class)) c.of-place.ensures.number in
    let holds = holds_written g.K.Disk.HONEST after place c.in-Ok-Some.slot bytes at c.of-place.ensures.sound.0 same c.in_default.ensures.written in
    record { kept = kept_after_entry g.K.Disk.HONEST after c.args.self.now.keys c.take.new.self.index.entries c.enter.new.self.index.entries c.args.id place c.enter.result along c.enter.ensures.entered c.enter.ensures.refused holds c.of-place.ensures.sound }

pub returns-in-Ok-None-enter-clause-writes : goal.returns-in-Ok-None-enter-clause-writes
returns-in-Ok-None-enter-clause-writes g c =
    let old = c.args.self.now.catalog.index.entries in
    let place = c.of-place.result in
    let bytes = c.args.bytes.now in
    let same = written_whole place bytes c.clear.new.self.items c.extend_from_slice.new.self.items c.of-place.ensures.written c.in_ok-extend_from_slice.ensures.items c.clear.ensures.items in
    let P : List (ℕ × Place) → Type 0 = λ entries. ChangesAt entries c.enter.new.self.index.entries c.args.id (Some place) in
    record {
      written = contents_of-insert old c.enter.new.self.index.entries c.args.id place bytes same (subst P c.take.ensures.same c.in-Ok-None-enter.ensures.entered);
      others = tt;
      counted = refl;
    }

pub returns-in-Ok-Some-enter-clause-writes : goal.returns-in-Ok-Some-enter-clause-writes
returns-in-Ok-Some-enter-clause-writes g c =
    let old = c.args.self.now.catalog.index.entries in
    let place = c.of-place.result in
    let bytes = c.args.bytes.now in
    let same = written_whole place bytes c.clear.new.self.items c.extend_from_slice.new.self.items c.of-place.ensures.written c.in_ok-extend_from_slice.ensures.items c.clear.ensures.items in
    let P : List (ℕ × Place) → Type 0 = λ entries. ChangesAt entries c.enter.new.self.index.entries c.args.id (Some place) in
    record {
      written =
          ap contents_of c.give_back-in-Ok-Some-enter.ensures.same_index
          ∙ contents_of-insert old c.enter.new.self.index.entries c.args.id place bytes same (subst P c.take.ensures.same c.in-Ok-Some-enter.ensures.entered);
      others = tt;
      counted = c.give_back-in-Ok-Some-enter.ensures.same_count;
    }
