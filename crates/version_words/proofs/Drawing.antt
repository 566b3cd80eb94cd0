-- What a draw of a pass or of a name tells.
use Rattle.std.proofs.Common.{◌≡◌, ◌≢◌, ℕ, ◌+◌, ◌-◌, ◌<◌, ◌≤◌, ◌==◌, true, List, [], ◌∷◌, ◌++◌, Option, Some, None, ap, sym, ◌∙◌, arith}
use Rattle.std.proofs.lemmas.Bool.Decides.{nat_tests}
use Rattle.std.specs.Option.{option_map}
use mathlib.Core.List.{IsPrefix}
use Rattle.table_core.specs.declared.event.Event.{Event}
use Rattle.table_core.specs.declared.event.Event.TheVariants.{Named}
use Rattle.table_core.specs.declared.limits.Limits.{Limits}
use Rattle.table_core.specs.BucketWords.{name_of}
use Rattle.table_core.specs.Limits.{last_name}
use Rattle.table_core.specs.Logs.{passes_of, names_of, naming, contents, pairs_of, word}
use Rattle.table_core.specs.Lawful.{IsLawful}
use Rattle.table_core.proofs.Logs.{names-append, naming-append, word-more, words_below, within}
use Rattle.version_words.specs.Boards.{Slot, opens_at, after, board_at}
use Rattle.version_words.specs.Rows.{value_of, IsAdded}
use Rattle.version_words.specs.Views.{WasSeen, name_of_parts, IsName, IsRight}
use Rattle.version_words.proofs.Fronts.{value_names, value_passes, names_grow, passes_grow, lawful_before, lawful_prefix, seen_below, naming_none}

module _ {K V : Type 0} (ek : K → List ℕ) (ev : V → List ℕ) (l : Limits) where
  pub more_passes : (seen log : List (Event K V)) (drawn : ℕ) → drawn ≡ value_of ek ev l seen (l.buckets + 1) → IsPrefix seen log → value_of ek ev l log (l.buckets + 1) ≢ drawn → 0 < passes_of log
  more_passes seen log drawn is pre other =
      let moved : passes_of log ≢ drawn = λ e. other (value_passes ek ev l log ∙ e) in
      let was : drawn ≡ passes_of seen = is ∙ value_passes ek ev l seen in
      omega (arith, passes_grow seen log pre)

  pub spent_passes : (seen : List (Event K V)) (drawn : ℕ) → IsLawful ek ev l seen → drawn ≡ value_of ek ev l seen (l.buckets + 1) → l.passes ≤ drawn → passes_of seen ≡ l.passes
  spent_passes seen drawn lawful is le =
      let was : drawn ≡ passes_of seen = is ∙ value_passes ek ev l seen in
      let w = within ek ev l seen lawful in
      omega (arith, w.1)

  pub more_names : (front seen log : List (Event K V)) (drawn : ℕ) → IsPrefix front seen → drawn ≡ value_of ek ev l seen l.buckets → IsPrefix seen log → value_of ek ev l log l.buckets ≢ drawn → names_of front < names_of log
  more_names front seen log drawn pre0 is pre other =
      let moved : names_of log ≢ drawn = λ e. other (value_names ek ev l log ∙ e) in
      let was : drawn ≡ names_of seen = is ∙ value_names ek ev l seen in
      omega (arith, names_grow front seen pre0, names_grow seen log pre)

  pub spent_names : (seen : List (Event K V)) (drawn : ℕ) → IsLawful ek ev l seen → drawn ≡ value_of ek ev l seen l.buckets → l.names ≤ drawn → names_of seen ≡ l.names
  spent_names seen drawn lawful is le =
      let was : drawn ≡ names_of seen = is ∙ value_names ek ev l seen in
      let w = within ek ev l seen lawful in
      omega (arith, w.0)

  naming_new : (log : List (Event K V)) (n b : ℕ) (es : List (K × V)) → IsLawful ek ev l log → names_of log < n → naming (log ++ Named n b es ∷ []) n ≡ Some (b, es)
  naming_new log n b es lawful lt =
      let none : naming log n ≡ None = naming_none ek ev l log n lawful lt in
      let same : (n == n) ≡ true = grind (arith, nat_tests) in
      naming-append log (Named n b es ∷ []) n ∙ rw (none, same)

  -- a name that was just drawn
  pub new_name : (seen log : List (Event K V)) (drawn b : ℕ) (es : List (K × V)) → b < l.buckets → l.names ≤ last_name → IsLawful ek ev l log → IsAdded ek ev l seen l.buckets drawn (Named (drawn + 1) b es) log
      → IsName ek ev l (name_of_parts (drawn + 1) b log) × (contents log (drawn + 1) ≡ es)
  new_name seen log drawn b es here small lawful a =
      let was : names_of a.0 ≡ drawn = sym (value_names ek ev l a.0) ∙ a.3 in
      let now : names_of log ≡ names_of a.0 + 1 = ap names_of a.1 ∙ names-append a.0 (Named (drawn + 1) b es ∷ []) in
      let before : IsLawful ek ev l a.0 = lawful_before ek ev l a.0 log (Named (drawn + 1) b es) lawful a.1 in
      let new : naming (a.0 ++ Named (drawn + 1) b es ∷ []) (drawn + 1) ≡ Some (b, es) = naming_new a.0 (drawn + 1) b es before (omega arith) in
      let naming_is : naming log (drawn + 1) ≡ Some (b, es) = ap (λ (w : List (Event K V)). naming w (drawn + 1)) a.1 ∙ new in
      let word_is : word ek l.buckets log b ≡ word ek l.buckets a.0 b = ap (λ (w : List (Event K V)). word ek l.buckets w b) a.1 ∙ word-more ek ev l a.0 (Named (drawn + 1) b es) b in
      let w = within ek ev l log lawful in (
        record {
          drawn = ap (λ (o : Option (ℕ × List (K × V))). option_map (λ t. t.0) o) naming_is;
          newer = omega (arith, ap name_of word_is, words_below ek ev l a.0 b before);
          small = omega (arith, w.0);
          here = here;
          lawful = lawful;
        },
        ap pairs_of naming_is,
      )

  -- what was seen in a bucket is older than the next name
  pub newer_than : (front seen : List (Event K V)) (drawn b w : ℕ) → IsLawful ek ev l seen → IsPrefix front seen → drawn ≡ value_of ek ev l seen l.buckets → WasSeen ek l.buckets front b w → name_of w < drawn + 1
  newer_than front seen drawn b w lawful pre is was =
      let below : name_of w ≤ names_of front = seen_below ek ev l front b w (lawful_prefix ek ev l front seen lawful pre) was in
      let count : drawn ≡ names_of seen = is ∙ value_names ek ev l seen in
      omega (arith, below, count, names_grow front seen pre)

-- the right of a name that was just drawn: no install
pub new_right : (names : List ℕ) (n b : ℕ) (t : Slot) → 0 < n → b ≡ board_at names 1 → t ≡ after (opens_at (n - 1)) true (record { held = 0; key = 0; count = 0 }) → IsRight names n b t
new_right names n b t some board slot = record {
  board_is = board;
  tally = record { held = omega (arith, ap (λ (u : Slot). u.held) slot); key = omega (arith, some, ap (λ (u : Slot). u.key) slot); count = ap (λ (u : Slot). u.count) slot };
}
