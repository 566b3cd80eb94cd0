-- What a call of a device says, by what its index says.
use Rattle.std.proofs.Common.{◌≡◌, ℕ, ◌+◌, ◌-◌, ◌^◌, min, true, false, IsTrue, List, [], ◌++◌, length, Option, Some, None, Ok, Err, refl, sym, ap, ◌∙◌, subst}
use Rattle.std.specs.Option.{is_some, IfSome}
use Rattle.std.specs.FinMap.{get}
use Rattle.std.specs.declared.random_state.RandomState.{RandomState}
use Rattle.digests.specs.Collisions.{nothing_collided}
use Rattle.digests.specs.Digests.{digest_under, GivesAlike}
use Rattle.far_device.specs.Calls.{Reads, Removes, Writes}
use Rattle.far_device.specs.declared.fault.DeviceFault.{DeviceFault}
use Rattle.far_device.specs.declared.fault.DeviceFault.TheVariants.{Memory, Failed}
use Rattle.resp_device.specs.declared.object_record.Kept.{Kept}
use Rattle.resp_device.specs.Objects.{kept_at, bytes_of, contents_of, state_of, ChangesAt, IsSound}
use Rattle.resp_device.proofs.Contents.{contains_key-contents_of, get-at_kept, contents_of-insert, contents_of-remove, same_elsewhere, absent_stays, changed_twice}

-- nothing is at the id
none_there : (found : Option Kept) → is_some found ≡ false → found ≡ None
none_there None is = refl
none_there (Some kept) is = cc

pub reads_absent : (entries : List (ℕ × Kept)) (failures id : ℕ) (before : List ℕ) → kept_at entries id ≡ None → Reads nothing_collided (state_of entries failures) (state_of entries failures) id before before (Ok false)
reads_absent entries failures id before none = record {
  found = sym (ap is_some none) ∙ sym (contains_key-contents_of entries id);
  appended = tt;
  honest = λ then. tt;
  absent = refl;
  fault = tt;
  kept = refl;
  counted = refl;
}

pub reads_there : (entries : List (ℕ × Kept)) (failures id : ℕ) (kept : Kept) (before given after : List ℕ) → Some kept ≡ kept_at entries id → after ≡ before ++ given → (IsTrue nothing_collided → given ≡ bytes_of kept) → Reads nothing_collided (state_of entries failures) (state_of entries failures) id before after (Ok true)
reads_there entries failures id kept before given after found appends same = record {
  found = ap is_some found ∙ sym (contains_key-contents_of entries id);
  appended = (given, appends);
  honest = λ then.
      let P : Option (List ℕ) → Type 0 = λ o. IfSome o (λ bytes. after ≡ before ++ bytes) in
      subst P (sym (get-at_kept entries id kept found)) (appends ∙ ap (λ (l : List ℕ). before ++ l) (same then));
  absent = tt;
  fault = tt;
  kept = refl;
  counted = refl;
}

pub gives_alike : (keys : RandomState) (entries : List (ℕ × Kept)) (id : ℕ) (kept : Kept) (before given after : List ℕ) → IsSound keys kept → Some kept ≡ kept_at entries id → after ≡ before ++ given → (length given ≡ kept.len) × (digest_under keys given ≡ kept.digest) → IfSome (get (contents_of entries) id) (λ bytes. GivesAlike keys bytes before after)
gives_alike keys entries id kept before given after sound found appends alike =
    let P : Option (List ℕ) → Type 0 = λ o. IfSome o (λ bytes. GivesAlike keys bytes before after) in
    let gives : GivesAlike keys (bytes_of kept) before after = record {
      given = given;
      appended = appends;
      as_long = alike.0 ∙ sound.0;
      alike = alike.1 ∙ sound.1;
    } in
    subst P (sym (get-at_kept entries id kept found)) gives

pub removes_absent : (entries : List (ℕ × Kept)) (failures id : ℕ) → is_some (kept_at entries id) ≡ false → Removes (state_of entries failures) (state_of entries failures) id (Ok false)
removes_absent entries failures id none = record {
  found = sym none ∙ sym (contains_key-contents_of entries id);
  removed = contents_of-remove entries entries id (absent_stays entries id (none_there (kept_at entries id) none));
  others = tt;
  counted = refl;
}

pub removes_there : (old new : List (ℕ × Kept)) (failures id : ℕ) → is_some (kept_at old id) ≡ true → ChangesAt old new id None → Removes (state_of old failures) (state_of new failures) id (Ok true)
removes_there old new failures id there changes = record {
  found = sym there ∙ sym (contains_key-contents_of old id);
  removed = contents_of-remove old new id changes;
  others = tt;
  counted = refl;
}

-- the id goes before its bytes are sent, and comes back with the others
pub writes_ok : (old mid new : List (ℕ × Kept)) (failures id : ℕ) (kept : Kept) (bytes : List ℕ) → bytes_of kept ≡ bytes → ChangesAt old mid id None → ChangesAt mid new id (Some kept) → Writes {T = Unit {0}} (state_of old failures) (state_of new failures) id bytes (Ok tt)
writes_ok old mid new failures id kept bytes same changes more = record {
  written = contents_of-insert old new id kept bytes same (changed_twice old mid new id None (Some kept) changes more);
  others = tt;
  counted = refl;
}

pub writes_no_more : (old new after : List (ℕ × Kept)) (failures id : ℕ) (bytes : List ℕ) → ChangesAt old new id None → after ≡ new → Writes {T = Unit {0}} (state_of old failures) (state_of after failures) id bytes (Err Memory)
writes_no_more old new after failures id bytes changes same = record {
  written = tt;
  others = λ other apart. ap (λ (l : List (ℕ × Kept)). get (contents_of l) other) same ∙ same_elsewhere old new id None changes other apart;
  counted = refl;
}

pub writes_failed : (old new : List (ℕ × Kept)) (before after id : ℕ) (bytes : List ℕ) (fault : DeviceFault) → fault ≡ Failed → ChangesAt old new id None → after ≡ min (before + 1) (2 ^ 64 - 1) → Writes {T = Unit {0}} (state_of old before) (state_of new after) id bytes (Err fault)
writes_failed old new before after id bytes Memory failed changes counted = (let no : ⊥ = cc in absurd no)
writes_failed old new before after id bytes Failed failed changes counted = record {
  written = tt;
  others = same_elsewhere old new id None changes;
  counted = counted;
}

-- what is written behind nothing is the whole
pub written_whole : (kept : Kept) (bytes none all : List ℕ) → bytes_of kept ≡ all → all ≡ none ++ bytes → none ≡ [] → bytes_of kept ≡ bytes
written_whole kept bytes none all written extended empty = written ∙ (extended ∙ ap (λ (l : List ℕ). l ++ bytes) empty)
