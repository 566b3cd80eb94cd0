-- Logs of entries and their events.
use Rattle.std.proofs.Common.{◌≡◌, ℕ, List, [], ◌∷◌, ◌++◌, map, refl, ap, sym, ◌∙◌, subst}
use mathlib.Core.List.{IsPrefix}
use Rattle.table_core.specs.declared.event.Event.{Event}
use Rattle.table_core.specs.declared.limits.Limits.{Limits}
use Rattle.table_core.specs.Lawful.{MayFollow, IsLawful}
use Rattle.table_core.proofs.Logs.{lawful_more}
use Rattle.version_words.specs.declared.entry.Entry.{Entry}
use Rattle.version_words.specs.declared.entry.Entry.TheVariants.{Opened, Happened}
use Rattle.version_words.specs.Tallies.{events}
use Rattle.version_words.specs.Rows.{IsLog}

module _ {K V : Type 0} where
  pub events-append : (xs ys : List (Entry K V)) → events (xs ++ ys) ≡ events xs ++ events ys
  events-append [] ys = refl
  events-append (Opened l ∷ xs) ys = events-append xs ys
  events-append (Happened e ∷ xs) ys = ap (λ (w : List (Event K V)). e ∷ w) (events-append xs ys)

  map-more : (xs : List (Event K V)) (e : Event K V) → map {B = Entry K V} Happened (xs ++ e ∷ []) ≡ map {B = Entry K V} Happened xs ++ Happened e ∷ []
  map-more [] e = refl
  map-more (x ∷ xs) e = ap (λ (w : List (Entry K V)). Happened x ∷ w) (map-more xs e)

  -- a beginning of a log has a beginning of its events
  pub prefix_events : (xs ys : List (Entry K V)) → IsPrefix xs ys → IsPrefix (events xs) (events ys)
  prefix_events xs ys p = (events p.0, sym (events-append xs p.0) ∙ ap events p.1)

module _ {K V : Type 0} (ek : K → List ℕ) (ev : V → List ℕ) where
  -- two logs of one row were opened with the same limits
  pub same_limits : (l m : Limits) (xs ys : List (Entry K V)) → IsLog ek ev l xs → IsLog ek ev m ys → IsPrefix xs ys → l ≡ m
  same_limits l m xs ys a b p = heads l m (map Happened (events xs)) (map Happened (events ys)) p.0 (ap (λ (w : List (Entry K V)). w ++ p.0) (sym a.is) ∙ (p.1 ∙ b.is))
    where
      heads : (l m : Limits) (xs ys rest : List (Entry K V)) → (Opened l ∷ xs) ++ rest ≡ Opened m ∷ ys → l ≡ m
      heads l m xs ys rest e = cc e

  -- a log that has one event more
  pub log_more : (l : Limits) (log : List (Entry K V)) (e : Event K V) → IsLog ek ev l log → MayFollow ek ev l (events log) e → IsLog ek ev l (log ++ Happened e ∷ [])
  log_more l log e so may = record {
    is = ap (λ (w : List (Entry K V)). w ++ Happened e ∷ []) so.is ∙ ap (λ (w : List (Entry K V)). Opened l ∷ w) (sym (map-more (events log) e) ∙ ap (λ (w : List (Event K V)). map Happened w) (sym (events-append log (Happened e ∷ []))));
    lawful = subst (λ (w : List (Event K V)). IsLawful ek ev l w) (sym (events-append log (Happened e ∷ []))) (lawful_more ek ev l (events log) e so.lawful may);
  }
