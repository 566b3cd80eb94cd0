-- What a reading tells of a lane that no clause can name.
use Rattle.std.proofs.Common.{ℕ, ◌≡◌, ◌++◌, Bool, IsTrue, List, Option, Some, None, Result, Ok, Err, IfOk, refl, sym, ap, subst, ◌∙◌}
use Rattle.std.specs.Prelude.{IfSome, option_map}
use Rattle.std.specs.FinMap.{get}
use Rattle.far_device.specs.DeviceState.{DeviceState}
use Rattle.far_device.specs.Calls.{Labels, AreSame, Appends}
use Rattle.table_core.specs.declared.limits.Limits.{Limits}
use Rattle.version_words.specs.Shown.{IsOwn}
use Rattle.version_words.specs.Views.{NameView, name_of_parts}
use Rattle.lane_store.specs.declared.fault.LaneFault.{LaneFault}
use Rattle.lane_store.specs.Lanes.{LaneView, AreStored, Reads, IsRead, bucket_at, receipt_at, version_of}
use Rattle.lane_store.proofs.Stored.{bucket_same}

module _ {K V D : Type 0} (state : D → DeviceState) (labels : D → Labels) (ek : K → List ℕ) (ev : V → List ℕ) (AK : K → Type 0) (AV : V → Type 0) (l : Limits) where
  -- a receipt that stands is that of a name which was drawn under its number
  told : (lane : LaneView K V D) (n : ℕ) (name : NameView K V) → AreStored ek ev AK AV l (state lane.device).contents (bucket_at labels lane) lane.log
      → Some name ≡ receipt_at labels lane n → (name.number ≡ n) × IsOwn ek ev l (version_of name)
  told lane n name stored found = at (bucket_at labels lane n) refl found
    where
      at : (o : Option ℕ) → bucket_at labels lane n ≡ o → Some name ≡ option_map (λ b. name_of_parts n b lane.log) o → (name.number ≡ n) × IsOwn ek ev l (version_of name)
      at None is found = absurd (cc found)
      at (Some b) is found =
          let same : name_of_parts n b lane.log ≡ name = cc found in
          (sym (ap (λ (v : NameView K V). v.number) same), subst (λ (v : NameView K V). IsOwn ek ev l (version_of v)) same (stored n b is).own)

  pub read_tells : (is_honest : Bool) (old new : LaneView K V D) (n : ℕ) (before after : List ℕ) (result : Result (Option (NameView K V)) LaneFault)
      → Reads state labels ek ev AK AV is_honest old new n before after result → AreStored ek ev AK AV l (state new.device).contents (bucket_at labels new) new.log
      → IfOk result (λ receipt. IfSome receipt (λ name. IsRead ek ev AK AV l is_honest n before after name))
  read_tells is_honest old new n before after (Err fault) reads stored = tt
  read_tells is_honest old new n before after (Ok None) reads stored = tt
  read_tells is_honest old new n before after (Ok (Some name)) reads stored =
      let t = told new n name stored (reads.found ∙ sym (reads.receipts_stay n)) in
      record { number = t.0; own = t.1; appended = reads.appended; honest = λ h. (let r = reads.honest h in (r.0, r.2, r.3)) }

  -- the lane over a device that was read
  abbrev pub over : LaneView K V D → D → LaneView K V D
  over lane device = record { device = device; buckets = lane.buckets; log = lane.log }

  receipts_same : (old : LaneView K V D) (device : D) → AreSame (labels old.device) (labels device) → (m : ℕ) → receipt_at labels (over old device) m ≡ receipt_at labels old m
  receipts_same old device same m = ap (option_map (λ b. name_of_parts m b old.log)) (bucket_same (labels old.device) (labels device) old.buckets same m)

  -- no receipt stands, and nothing was appended
  pub read_none : (is_honest : Bool) (old : LaneView K V D) (device : D) (n : ℕ) (before after : List ℕ) → bucket_at labels old n ≡ None → after ≡ before
      → (state device).contents ≡ (state old.device).contents → AreSame (labels old.device) (labels device) → (state device).failures ≡ (state old.device).failures
      → Reads state labels ek ev AK AV is_honest old (over old device) n before after (Ok None)
  read_none is_honest old device n before after none is kept same counted =
      record {
        found = sym (ap (option_map (λ b. name_of_parts n b old.log)) none);
        appended = tt;
        honest = λ h. tt;
        absent = is;
        fault = tt;
        receipts_stay = receipts_same old device same;
        kept = kept;
        counted = counted;
      }

  -- the receipt of this bucket stands, and its object was appended by a reading of a device that holds what the lane's did
  pub read_some : (is_honest : Bool) (old : LaneView K V D) (mid device : D) (n b : ℕ) (before before1 after : List ℕ) → bucket_at labels old n ≡ Some b
      → AreStored ek ev AK AV l (state old.device).contents (bucket_at labels old) old.log
      → (state mid).contents ≡ (state old.device).contents → before1 ≡ before → Appends before1 after → (IsTrue is_honest → IfSome (get (state mid).contents n) (λ bytes. after ≡ before1 ++ bytes))
      → (state device).contents ≡ (state old.device).contents → AreSame (labels old.device) (labels device) → (state device).failures ≡ (state old.device).failures
      → Reads state labels ek ev AK AV is_honest old (over old device) n before after (Ok (Some (name_of_parts n b old.log)))
  read_some is_honest old mid device n b before before1 after here stored held is appended honest kept same counted =
      record {
        found = sym (ap (option_map (λ c. name_of_parts n c old.log)) here);
        appended = subst (λ x. Appends x after) is appended;
        honest = λ h.
            (let s = stored n b here in
            let given = subst (λ o. IfSome o (λ bytes. after ≡ before1 ++ bytes)) (ap (λ m. get m n) held ∙ s.there) (honest h) in
            (s.bytes, s.there, given ∙ ap (λ x. x ++ s.bytes) is, s.spelled));
        absent = tt;
        fault = tt;
        receipts_stay = receipts_same old device same;
        kept = kept;
        counted = counted;
      }
