-- A replay, event after event.
use Rattle.std.proofs.Common.{◌≡◌, ◌≢◌, ℕ, ◌+◌, ◌<◌, List, [], ◌∷◌, ◌++◌, inl, inr, length, take, drop, get_or, refl, ap, sym, ◌∙◌, subst, arith}
use Rattle.std.proofs.lemmas.List.{take-append-drop, drop_more, take_more, length-take-le}
use Rattle.table_core.specs.declared.event.Event.{Event}
use Rattle.table_core.specs.declared.fault.CoreFault.{CoreFault}
use Rattle.table_core.specs.declared.fault.Rule.{Rule}
use Rattle.table_core.specs.declared.fault.Rule.TheVariants.{NameUsed, NotNewer, WrongContents, WrongPass, Memory}
use Rattle.table_core.specs.Lawful.{IsLawful, widest}
use Rattle.table_core.specs.Machines.{MachineView, buckets_of, StandsAt, GoesOn, Breaks, StopsAt, Stops}

module _ {K V : Type 0} (ek : K → List ℕ) (ev : V → List ℕ) (events : List (Event K V)) (at : ℕ) (e : Event K V) (h : at < length events) (is : e ≡ get_or events at e) where
  -- the event is taken
  pub one_more : (old new : MachineView K V) (buckets : ℕ) → buckets_of old ≡ buckets → GoesOn ek ev old new (take at events) e
      → StandsAt ek ev new (take (at + 1) events) × (buckets_of new ≡ buckets)
  one_more old new buckets same goes =
      let longer : take at events ++ e ∷ [] ≡ take (at + 1) events = ap (λ (x : Event K V). take at events ++ x ∷ []) is ∙ sym (take_more events at e h) in
      (subst (λ (log : List (Event K V)). StandsAt ek ev new log) longer goes.stands, goes.buckets ∙ same)

  -- or breaks a rule
  module _ (m : MachineView K V) (buckets : ℕ) (same : buckets_of m ≡ buckets) (s : StandsAt ek ev m (take at events)) where
    at_event : (rule : Rule) (fault : CoreFault) → rule ≢ Memory → Breaks ek ev (widest (buckets_of m)) (take at events) e rule → fault ≡ record { place = at + 1; rule = rule }
        → StopsAt ek ev (widest buckets) events fault
    at_event rule fault other breaks fault_is = record {
      before = take at events;
      event = e;
      later = drop (at + 1) events;
      log_is =
          sym (take-append-drop at events)
          ∙ ap (λ (z : List (Event K V)). take at events ++ z) (drop_more events at e h ∙ ap (λ (x : Event K V). x ∷ drop (at + 1) events) (sym is));
      place = ap (λ (f : CoreFault). f.place) fault_is ∙ (let long = length-take-le at events (omega arith) in omega arith);
      lawful = subst (λ n. IsLawful ek ev (widest n) (take at events)) same s.lawful;
      breaks =
          subst (λ (r : Rule). Breaks ek ev (widest buckets) (take at events) e r) (sym (ap (λ (f : CoreFault). f.rule) fault_is))
          (subst (λ n. Breaks ek ev (widest n) (take at events) e rule) same breaks);
      no_memory = λ memory. other (sym (ap (λ (f : CoreFault). f.rule) fault_is) ∙ memory);
    }

    pub stopped : (rule : Rule) (fault : CoreFault) → Breaks ek ev (widest (buckets_of m)) (take at events) e rule → (rule ≡ Memory → fault ≡ record { place = 0; rule = Memory })
        → (rule ≢ Memory → fault ≡ record { place = at + 1; rule = rule }) → Stops ek ev (widest buckets) events fault
    stopped NameUsed fault breaks memory place = let other : NameUsed ≢ Memory = λ q. absurd (cc q) in inr (at_event NameUsed fault other breaks (place other))
    stopped NotNewer fault breaks memory place = let other : NotNewer ≢ Memory = λ q. absurd (cc q) in inr (at_event NotNewer fault other breaks (place other))
    stopped WrongContents fault breaks memory place = let other : WrongContents ≢ Memory = λ q. absurd (cc q) in inr (at_event WrongContents fault other breaks (place other))
    stopped WrongPass fault breaks memory place = let other : WrongPass ≢ Memory = λ q. absurd (cc q) in inr (at_event WrongPass fault other breaks (place other))
    stopped Memory fault breaks memory place = inl (memory refl)
